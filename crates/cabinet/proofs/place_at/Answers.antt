-- `cabinet::place_at` meets its contract.
-- Assumes nothing.
use native.Mathlib.Omega.{arith}
use Rattle.cabinet.proofs.Bytes.{taken_part}
use Rattle.cabinet.proofs.place_at.Goals as goal

pub overflow_mul-start : goal.overflow_mul-start
overflow_mul-start c = omega (arith, c.requires.place)

pub overflow_add-end : goal.overflow_add-end
overflow_add-end c = omega (arith, c.requires.place)

pub slice_bounds-result-end : goal.slice_bounds-result-end
slice_bounds-result-end c = omega (arith, c.requires.place, c.requires.long)

pub returns : goal.returns
returns c = taken_part c.args.cabinet.now c.args.i
