-- `building::places_by` meets its contract. The loop's invariant: the places are all there once those from field j on are written.
-- Assumes nothing.
use Rattle.building.proofs.Pieces.{Found}
use Rattle.building.proofs.places_by.Given as goal

abbrev pub invariant-loop-j : goal.invariant-loop-j
invariant-loop-j l = Found l.bytes l.lens l.starts l.sizes l.start l.j
