-- `reading::identity_fields` meets its contract. The loop's invariant: the fields before j are accepted.
-- Assumes nothing.
use Rattle.format.specs.Read.{nobody}
use Rattle.reading.specs.Steps.{parts_by}
use Rattle.reading.proofs.Fields.{Passed}
use Rattle.reading.proofs.identity_fields.Given as goal

abbrev pub invariant-loop-j : goal.invariant-loop-j
invariant-loop-j l = Passed nobody l.row (parts_by l.row l.s l.starts l.lens) l.j
