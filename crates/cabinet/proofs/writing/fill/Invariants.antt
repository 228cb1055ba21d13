-- `cabinet::writing::fill` meets its contract.
-- Assumes nothing.
use Rattle.cabinet.proofs.Bytes.{Filled}
use Rattle.cabinet.proofs.writing.fill.Given as goal

abbrev pub invariant-loop-j : goal.invariant-loop-j
invariant-loop-j l = Filled l.initial.out l.text l.out l.j
