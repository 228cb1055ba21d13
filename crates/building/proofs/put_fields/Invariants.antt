-- `building::put_fields` meets its contract. The loop's invariant: the fields before j are written, each with its mark.
-- Assumes nothing.
use Rattle.building.proofs.Writing.{Through}
use Rattle.building.proofs.put_fields.Given as goal

abbrev pub invariant-loop-j : goal.invariant-loop-j
invariant-loop-j l = Through l.initial.out l.at l.mark l.bytes l.lens l.out l.next l.j
