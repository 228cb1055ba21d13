-- `table::is_kind` meets its contract.
-- Assumes nothing.
use Prim.Native.Nat.{ℕ, ◌<◌}
use mathlib.Core.Path.{◌≡◌, sym, ap₂, ◌∙◌}
use mathlib.Core.Bool.{Bool, false, ◌&&◌}
use lib.Dec.{eqb}
use Rattle.text.proofs.Tests.{and_stop, and_on}
use Rattle.text.specs.Text.{Bytes, same}
use Rattle.format.specs.Kinds.{name, mark}
use Rattle.table.specs.Table.{row_count, of_row, mark_of, is_kind}
use Rattle.table.proofs.Rows.{in_row}
use Rattle.table.proofs.is_kind.Goals as goal

-- the test of a row, by its name and its mark
both : (row : ℕ) (t : Bytes) (m : ℕ) → row < row_count → of_row (is_kind t m) false row ≡ (of_row (λ k. same t (name k)) false row && eqb m (mark_of row))
both row t m h = in_row (is_kind t m) false row h ∙ sym (ap₂ (λ (x : Bool) (y : ℕ). x && eqb m y) (in_row (λ k. same t (name k)) false row h) (in_row mark 0 row h))

pub returns-then-is_named : goal.returns-then-is_named
unfolding of_row
returns-then-is_named c = sym (both c.args.row c.args.title.now c.args.mark c.requires ∙ and_on _ _ (sym c.is_named.ensures ∙ c.if-is_named.true))

pub returns-else-is_named : goal.returns-else-is_named
returns-else-is_named c = c.if-is_named.false ∙ sym (both c.args.row c.args.title.now c.args.mark c.requires ∙ and_stop _ _ (sym c.is_named.ensures ∙ c.if-is_named.false))
