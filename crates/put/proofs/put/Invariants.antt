-- `put::put` meets its contract. The loop's invariant: i bytes of the piece are written.
-- Assumes nothing.
use Rattle.put.proofs.Copying.{Copy}
use Rattle.put.proofs.put.Given as goal

abbrev pub invariant-loop-i : goal.invariant-loop-i
invariant-loop-i l = Copy l.initial.out l.at l.piece l.out l.i
