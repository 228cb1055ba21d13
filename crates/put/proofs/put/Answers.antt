-- `put::put` meets its contract. The loop's invariant: i bytes of the piece are written.
-- Assumes nothing.
use native.Mathlib.Omega.{arith}
use Rattle.put.proofs.Copying.{copy_none, copy_length, copy_more, copy_all}
use Rattle.put.proofs.Pieces.{not_put}
use Rattle.put.proofs.put.Goals as goal

pub returns-then-out-at : goal.returns-then-out-at
returns-then-out-at c = not_put (omega arith)

pub loop-i-init : goal.loop-i-init
loop-i-init c = copy_none (omega arith)

pub bounds-out-at : goal.bounds-out-at
bounds-out-at c = omega (arith, copy_length c.loop-i.invariant)

pub loop-i-preserved : goal.loop-i-preserved
loop-i-preserved c = copy_more c.loop-i.invariant c.loop-i-test.true

pub shape_of-out : goal.shape_of-out
shape_of-out c = copy_length c.loop-i.invariant

pub returns : goal.returns
returns c = copy_all c.loop-i.invariant c.loop-i-test.false
