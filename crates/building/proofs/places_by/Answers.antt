-- `building::places_by` meets its contract. The loop's invariant: the places are all there once those from field j on are written.
-- Assumes nothing.
use native.Mathlib.Omega.{arith}
use Rattle.building.proofs.Pieces.{found_none, found_all, found_fits, found_next}
use Rattle.building.proofs.places_by.Goals as goal

pub loop-j-init : goal.loop-j-init
loop-j-init c = found_none _ _ c.requires.0 c.requires.1

pub offset_bounds-starts-j : goal.offset_bounds-starts-j
offset_bounds-starts-j c = omega (arith, c.loop-j-test.true, c.loop-j.invariant.few)

pub bounds-starts-j : goal.bounds-starts-j
bounds-starts-j c = omega (arith, c.loop-j-test.true, c.loop-j.invariant.few, c.loop-j.invariant.seven_starts)

pub offset_bounds-sizes-j : goal.offset_bounds-sizes-j
offset_bounds-sizes-j c = omega (arith, c.loop-j-test.true, c.loop-j.invariant.few)

pub bounds-sizes-j : goal.bounds-sizes-j
bounds-sizes-j c = omega (arith, c.loop-j-test.true, c.loop-j.invariant.few, c.loop-j.invariant.seven_sizes)

pub overflow_add-start : goal.overflow_add-start
overflow_add-start c = omega (arith, found_fits c.loop-j.invariant c.loop-j-test.true)

pub loop-j-preserved : goal.loop-j-preserved
loop-j-preserved c = found_next c.loop-j.invariant c.loop-j-test.true

pub returns : goal.returns
returns c = found_all c.loop-j.invariant c.loop-j-test.false
