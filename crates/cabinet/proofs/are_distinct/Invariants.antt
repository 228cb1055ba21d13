-- `cabinet::are_distinct` meets its contract.
-- Assumes nothing.
use Rattle.cabinet.specs.Steps.{alone_at}
use Rattle.cabinet.proofs.Loops.{Passed}
use Rattle.cabinet.proofs.are_distinct.Given as goal

abbrev pub invariant-loop-i : goal.invariant-loop-i
invariant-loop-i l = Passed (alone_at l.cabinet) l.i
