-- `reading::record_fields` meets its contract. The loop's invariant: the fields before j are accepted, and the kinds are all there
-- once those from field j on are written.
-- Assumes nothing.
use Rattle.format.specs.Read.{read_identity}
use Rattle.reading.specs.Steps.{parts_by}
use Rattle.reading.proofs.Fields.{Passed}
use Rattle.reading.proofs.Loops.{Written}
use Rattle.reading.proofs.record_fields.Given as goal

abbrev pub invariant-loop-j : goal.invariant-loop-j
invariant-loop-j l = Passed read_identity l.row (parts_by l.row l.s l.starts l.lens) l.j × Written l.row (parts_by l.row l.s l.starts l.lens) l.kinds l.j
