-- `places::part_at` meets its contract.
-- Assumes nothing.
use mathlib.Core.Path.{refl}
use native.Mathlib.Omega.{arith}
use Rattle.places.proofs.Stands.{at_past, at_outside, at_there}
use Rattle.places.proofs.part_at.Goals as goal
use Rattle.places.proofs.part_at.Goals.{then-s-start-via-then-s-start, then-s-start-via-else-s-start+then-s-start-2}

pub returns-then-j-ge-MOST : goal.returns-then-j-ge-MOST
returns-then-j-ge-MOST c = at_past _ _ _ c.if-j-ge-MOST.true c.none_of.ensures

pub returns-then-s-start : goal.returns-then-s-start
returns-then-s-start c =
    at_outside _ _ c.args.j
    (elim c.then-s-start.branch [
      | then-s-start-via-then-s-start w ↦ omega (arith, w.if-s-start.true)
      | then-s-start-via-else-s-start+then-s-start-2 w ↦ omega (arith, w.if-s-start.false, w.if-s-start-2.true)
    ])
    c.none_of-then-s-start.ensures

pub returns : goal.returns
returns c = at_there _ _ c.args.j (omega (arith, c.if-j-ge-MOST.false)) (omega (arith, c.if-s-start-2.false, c.if-s-start.false)) (record { stands = refl; holds = refl })
