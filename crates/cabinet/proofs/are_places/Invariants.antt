-- `cabinet::are_places` meets its contract.
-- Assumes nothing.
use Rattle.cabinet.specs.Steps.{is_place_at}
use Rattle.cabinet.proofs.Loops.{Passed}
use Rattle.cabinet.proofs.are_places.Given as goal

abbrev pub invariant-loop-i : goal.invariant-loop-i
invariant-loop-i l = Passed (is_place_at l.cabinet) l.i
