-- `confirm::tags::are_same` meets its contract. The loop's invariant: what differs before what is left is in `differing`.
-- Assumes nothing.
use Rattle.confirm.proofs.Compared.{Compared}
use Rattle.confirm.proofs.tags.are_same.Given as goal

abbrev pub invariant-loop-x : goal.invariant-loop-x
invariant-loop-x l = Compared l.a l.b l.differing l.x-iterator.a.rest.now l.x-iterator.b.rest.now
