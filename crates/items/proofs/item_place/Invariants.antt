-- `items::item_place` meets its contract. The loop's invariant: i of n items are passed (`Walked`).
-- Assumes nothing.
use Rattle.items.proofs.Walk.{Walked}
use Rattle.items.proofs.item_place.Given as goal

abbrev pub invariant-loop-i : goal.invariant-loop-i
invariant-loop-i l = Walked l.text l.wanted l.n l.i l.at l.found
