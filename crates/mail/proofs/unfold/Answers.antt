-- `mail::unfold` meets its contract. The loop's invariant: the bytes before the index are joined.
-- Assumes nothing.
use native.Mathlib.Omega.{arith}
use Rattle.mail.proofs.Unfolding.{joined_none, joined_length, joined_room, joined_on, joined_over, joined_all}
use Rattle.mail.proofs.unfold.Goals as goal

pub loop-byte-init : goal.loop-byte-init
loop-byte-init c = joined_none _ _

pub add-requires : goal.add-requires
add-requires c = joined_room c.loop-byte.invariant

pub returns-in_err-len : goal.returns-in_err-len
returns-in_err-len c = rw c.from_residual.ensures (joined_over c.loop-byte.invariant c.loop-byte-test.true c.add.ensures c.in_err-len.was)

pub loop-byte-preserved : goal.loop-byte-preserved
loop-byte-preserved c = joined_on c.loop-byte.invariant c.loop-byte-test.true c.add.ensures c.in_ok-len.was

pub shape_of-out : goal.shape_of-out
shape_of-out c = joined_length c.loop-byte.invariant

pub returns : goal.returns
returns c = joined_all c.loop-byte.invariant (omega arith)
