-- `table::is_pubkey` meets its contract.
-- Assumes nothing.
use mathlib.Core.Path.{sym, ◌∙◌}
use borrow.Author.Tests.{eq-eqb, ne_eqb}
use Rattle.text.proofs.Tests.{or_stop, or_on}
use Rattle.table.proofs.Rows.{pubkey_rows}
use Rattle.table.proofs.is_pubkey.Goals as goal

pub returns-then-row-eq-ECDSA : goal.returns-then-row-eq-ECDSA
returns-then-row-eq-ECDSA c = let e = eq-eqb _ 3 c.if-row-eq-ECDSA.true in e ∙ sym (or_stop _ _ e) ∙ pubkey_rows c.args.row

pub returns-else-row-eq-ECDSA : goal.returns-else-row-eq-ECDSA
returns-else-row-eq-ECDSA c = sym (or_on _ _ (ne_eqb _ 3 c.if-row-eq-ECDSA.false)) ∙ pubkey_rows c.args.row
