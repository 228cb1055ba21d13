-- `cabinet::writing::fill` meets its contract.
-- Assumes nothing.
use native.Mathlib.Omega.{arith}
use Rattle.cabinet.proofs.Bytes.{filled_none, filled_length, filled_more, filled_all}
use Rattle.cabinet.proofs.writing.fill.Goals as goal

pub loop-j-init : goal.loop-j-init
loop-j-init c = filled_none _ _ c.requires

pub loop-j-preserved : goal.loop-j-preserved
loop-j-preserved c = filled_more c.loop-j.invariant (omega (arith, filled_length c.loop-j.invariant, c.loop-j-test.true)) c.byte_of.ensures

pub shape_of-out : goal.shape_of-out
shape_of-out c = filled_length c.loop-j.invariant

pub returns : goal.returns
returns c = filled_all c.loop-j.invariant (omega (arith, filled_length c.loop-j.invariant, c.loop-j-test.false))
