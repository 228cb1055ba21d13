-- `cabinet::writing::fill_place` meets its contract.
-- Assumes nothing.
use native.Mathlib.Omega.{arith}
use Rattle.cabinet.proofs.Bytes.{front_written, back_written}
use Rattle.cabinet.proofs.writing.fill_place.Goals as goal

pub slice_bounds-fill-end : goal.slice_bounds-fill-end
slice_bounds-fill-end c = omega (arith, c.requires.long)

pub fill-requires : goal.fill-requires
fill-requires c = omega (arith, c.requires.long, c.requires.short)

pub returns : goal.returns
returns c = back_written c.requires (front_written c.requires c.fill.ensures) c.fill-2.ensures
