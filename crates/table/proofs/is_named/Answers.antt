-- `table::is_named` meets its contract: antt computes the names one after another and their places, and the arrays are these.
-- Assumes nothing.
use Prim.Native.Nat.{◌+◌}
use mathlib.Core.Path.{sym, ap, ◌∙◌}
use mathlib.Core.Bool.{false}
use mathlib.Core.List.{[], flatten}
use Rattle.text.specs.Text.{same}
use Rattle.format.specs.Kinds.{name}
use Rattle.table.proofs.Rows.{in_row}
use Rattle.table.proofs.Arrays.{entry_fits, starts, name_piece}
use Rattle.table.proofs.is_named.Goals as goal

pub overflow_cast-start : goal.overflow_cast-start
overflow_cast-start c = entry_fits starts tt c.args.row

pub overflow_cast-end : goal.overflow_cast-end
overflow_cast-end c = entry_fits starts tt (c.args.row + 1)

pub slice_bounds-are_same-count : goal.slice_bounds-are_same-count
slice_bounds-are_same-count c = (name_piece c.args.row c.requires).from_to

pub slice_bounds-are_same-start : goal.slice_bounds-are_same-start
slice_bounds-are_same-start c = (name_piece c.args.row c.requires).from_to

pub slice_bounds-are_same-end : goal.slice_bounds-are_same-end
unfolding flatten
slice_bounds-are_same-end c = (name_piece c.args.row c.requires).to_end

pub returns : goal.returns
unfolding flatten
returns c =
    c.are_same.ensures
    ∙ ap (same c.args.title.now) ((name_piece c.args.row c.requires).is ∙ in_row name [] c.args.row c.requires)
    ∙ sym (in_row (λ k. same c.args.title.now (name k)) false c.args.row c.requires)
