-- `building::do_add_up` meets its contract. The loop's invariant: the lengths before j are counted off the total.
-- Assumes nothing.
use Rattle.building.proofs.Sums.{Left}
use Rattle.building.proofs.do_add_up.Given as goal

abbrev pub invariant-loop-len : goal.invariant-loop-len
invariant-loop-len l = Left l.lens l.total l.len-index l.left
