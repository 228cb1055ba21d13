-- `table::is_called` meets its contract.
-- Assumes nothing.
use mathlib.Core.Path.{sym, ◌∙◌}
use borrow.Author.Tests.{le-ltb}
use native.Mathlib.Omega.{arith}
use Rattle.table.proofs.Rows.{past_rows}
use Rattle.table.proofs.is_called.Goals as goal

pub returns-else-row-lt-ROWS : goal.returns-else-row-lt-ROWS
returns-else-row-lt-ROWS c = le-ltb c.args.row 8 (omega (arith, c.if-row-lt-ROWS.false)) ∙ sym (past_rows _ _ _ (omega (arith, c.if-row-lt-ROWS.false)))
