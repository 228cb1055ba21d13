-- `table::kind_named` meets its contract. The loop's invariant: the rows from here on decide.
-- Assumes nothing.
use mathlib.Core.Path.{sym, ap, ◌∙◌}
use native.Mathlib.Omega.{arith}
use Rattle.table.specs.Table.{row_count, row_for}
use Rattle.table.proofs.Search.{name_search, search_hit, search_on}
use Rattle.table.proofs.kind_named.Goals as goal

pub returns-then-is_named : goal.returns-then-is_named
returns-then-is_named c = search_hit _ _ (name_search c.args.title.now) row_count c.loop-row.row (omega arith) (omega arith) (sym c.is_named.ensures ∙ c.if-is_named.true) ∙ ap row_for c.loop-row.invariant

pub loop-row-preserved : goal.loop-row-preserved
loop-row-preserved c = search_on _ _ (name_search c.args.title.now) row_count c.loop-row.row (omega arith) (omega arith) (sym c.is_named.ensures ∙ c.if-is_named.false) ∙ c.loop-row.invariant
