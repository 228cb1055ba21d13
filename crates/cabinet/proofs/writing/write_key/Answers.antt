-- `cabinet::writing::write_key` meets its contract.
-- Assumes nothing.
use native.Mathlib.Omega.{arith}
use Rattle.cabinet.proofs.Bytes.{place_fits, place_written}
use Rattle.cabinet.proofs.writing.write_key.Goals as goal

pub overflow_mul-start : goal.overflow_mul-start
overflow_mul-start c = omega (arith, c.requires.in_place.place)

pub overflow_add-end : goal.overflow_add-end
overflow_add-end c = omega (arith, c.requires.in_place.place)

pub slice_bounds-fill_place-end : goal.slice_bounds-fill_place-end
slice_bounds-fill_place-end c = omega (arith, c.requires.in_place.place, c.requires.in_place.long)

pub fill_place-requires : goal.fill_place-requires
fill_place-requires c = place_fits c.requires

pub returns : goal.returns
returns c = place_written c.requires c.fill_place.ensures
