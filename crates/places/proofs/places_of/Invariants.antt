-- `places::places_of` meets its contract. The loop's invariant: j fields have their places.
-- Assumes nothing.
use Rattle.places.proofs.Walk.{Going}
use Rattle.places.proofs.places_of.Given as goal

abbrev pub invariant-loop-j : goal.invariant-loop-j
invariant-loop-j l = Going l.mark l.body l.places l.j l.start
