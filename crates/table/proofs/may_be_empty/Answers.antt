-- `table::may_be_empty` meets its contract.
-- Assumes nothing.
use mathlib.Core.Path.{◌∙◌}
use Rattle.table.proofs.Codes.{empty_codes}
use Rattle.table.proofs.may_be_empty.Goals as goal

pub returns : goal.returns
returns c = c.is_either.ensures ∙ empty_codes _
