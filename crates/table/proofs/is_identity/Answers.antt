-- `table::is_identity` meets its contract.
-- Assumes nothing.
use mathlib.Core.Path.{sym, ◌∙◌}
use borrow.Author.Tests.{le-leb, lt-leb}
use native.Mathlib.Omega.{arith}
use Rattle.text.proofs.Tests.{and_stop, and_on}
use Rattle.table.proofs.Codes.{identity_codes}
use Rattle.table.proofs.is_identity.Goals as goal

pub returns-then-code-ge-ID_SMMAN : goal.returns-then-code-ge-ID_SMMAN
returns-then-code-ge-ID_SMMAN c = sym (and_on _ _ (le-leb 6 _ c.if-code-ge-ID_SMMAN.true)) ∙ identity_codes c.args.code

pub returns-else-code-ge-ID_SMMAN : goal.returns-else-code-ge-ID_SMMAN
returns-else-code-ge-ID_SMMAN c = let e = lt-leb 6 c.args.code (omega (arith, c.if-code-ge-ID_SMMAN.false)) in e ∙ sym (and_stop _ _ e) ∙ identity_codes c.args.code
