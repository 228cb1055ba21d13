-- `sha384::blocks::schedule` meets its contract.
-- Assumes nothing.
use Rattle.std.proofs.Common.{◌≡◌, ap, ◌∙◌, arith, rules}
use Rattle.hashing.specs.Turns.{turns, grown}
use Rattle.sha384.specs.Sha384.{next, schedule}
use Rattle.hashing.proofs.Turns.{schedule_step, filled_all}
use Rattle.sha384.proofs.Rounds.{next_front}
use Rattle.sha384.proofs.blocks.schedule.Goals as goal

pub loop-n-init : goal.loop-n-init
unfolding schedule grown turns
loop-n-init c = record { room = search rules; whole = c.first_words-w.ensures.0; front = c.first_words-w.ensures.1 }

pub loop-n-preserved : goal.loop-n-preserved
unfolding schedule
loop-n-preserved c = schedule_step next _ next_front c.loop-n.invariant c.loop-n-test.true c.next_word.ensures

pub returns : goal.returns
returns c = let e : c.loop-n.n ≡ 64 = omega arith in filled_all c.loop-n.invariant (omega arith) ∙ ap (schedule c.args.block.now) e
