-- `table::does_permit` meets its contract.
-- Assumes nothing.
use mathlib.Core.Path.{sym, ◌∙◌}
use native.Mathlib.Omega.{arith}
use Rattle.table.proofs.Codes.{SMMAN-codes, SMID-codes, KMCID-codes, no_permit}
use Rattle.table.proofs.does_permit.Goals as goal

pub returns-in-0 : goal.returns-in-0
returns-in-0 c = rw c.in-0.is (c.is_either.ensures ∙ SMMAN-codes _)

pub returns-in-1 : goal.returns-in-1
returns-in-1 c = rw c.in-1.is (c.is_either-in-1.ensures ∙ SMID-codes _)

pub returns-in-2 : goal.returns-in-2
returns-in-2 c = rw c.in-2.is (c.is_either-in-2.ensures ∙ KMCID-codes _)

pub returns-in_default : goal.returns-in_default
returns-in_default c = sym (no_permit _ _ (omega arith))
