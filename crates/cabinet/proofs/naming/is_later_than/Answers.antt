-- `cabinet::naming::is_later_than` meets its contract.
-- Assumes nothing.
use mathlib.Core.Path.{ap, ap₂, ◌∙◌}
use Rattle.text.specs.Text.{Bytes}
use Rattle.text.specs.Later.{later}
use Rattle.subjects.specs.Subjects.{identity_part}
use Rattle.cabinet.specs.Steps.{is_later_than}
use Rattle.cabinet.proofs.naming.is_later_than.Goals as goal

pub returns : goal.returns
unfolding is_later_than
returns c = c.is_later.ensures ∙ ap₂ later c.field_in.ensures.holds (c.field_in-2.ensures.holds ∙ ap (λ (x : Bytes). identity_part x 3) c.subject_in.ensures)
