-- `expiry::expiry_under` meets its contract.
-- Assumes nothing.
use Rattle.text.proofs.Seconds.{moment_back}
use Rattle.expiry.proofs.Expiries.{said_refused, said_accepted}
use Rattle.expiry.proofs.expiry_under.Goals as goal

pub returns-then-answer-ne-ACCEPTED : goal.returns-then-answer-ne-ACCEPTED
returns-then-answer-ne-ACCEPTED c = said_refused _ c.args.record.now _ c.read_under-answer.ensures c.if-answer-ne-ACCEPTED.true

pub returns : goal.returns
returns c = said_accepted _ c.args.record.now _ c.read_under-answer.ensures c.if-answer-ne-ACCEPTED.false _ c.field_at-expiry.ensures.holds _ (moment_back _ c.moment_of.ensures)
