-- `cabinet::are_zeros` meets its contract. The loop's invariant: what was seen before the index.
-- Assumes nothing.
use Rattle.cabinet.proofs.Loops.{Zeros}
use Rattle.cabinet.proofs.are_zeros.Given as goal

abbrev pub invariant-loop-byte : goal.invariant-loop-byte
invariant-loop-byte l = Zeros l.s l.seen l.byte-index
