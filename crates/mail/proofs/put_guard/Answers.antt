-- `mail::put_guard` meets its contract.
-- Assumes nothing.
use Rattle.mail.proofs.Writing.{guard_put}
use Rattle.mail.proofs.put_guard.Goals as goal

pub returns : goal.returns
returns c = guard_put c.args.word.now c.args.rectype.now c.requires c.put-first.ensures c.put-second.ensures c.put-third.ensures c.put_byte.ensures
