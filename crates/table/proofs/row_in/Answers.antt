-- `table::row_in` meets its contract. The loop's invariant: the rows from here on decide.
-- Assumes nothing.
use mathlib.Core.Path.{sym, ap, ◌∙◌}
use native.Mathlib.Omega.{arith}
use Rattle.table.specs.Table.{row_for}
use Rattle.table.proofs.Search.{kind_search, search_hit, search_on}
use Rattle.table.proofs.row_in.Goals as goal

pub returns-then-is_kind : goal.returns-then-is_kind
returns-then-is_kind c = search_hit _ _ (kind_search c.args.title.now c.args.mark) c.args.to c.loop-row.row (omega arith) (omega arith) (sym c.is_kind.ensures ∙ c.if-is_kind.true) ∙ ap row_for c.loop-row.invariant

pub loop-row-preserved : goal.loop-row-preserved
loop-row-preserved c = search_on _ _ (kind_search c.args.title.now c.args.mark) c.args.to c.loop-row.row (omega arith) (omega arith) (sym c.is_kind.ensures ∙ c.if-is_kind.false) ∙ c.loop-row.invariant
