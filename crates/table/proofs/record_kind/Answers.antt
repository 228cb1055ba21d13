-- `table::record_kind` meets its contract.
-- Assumes nothing.
use mathlib.Core.Path.{ap, ◌∙◌}
use mathlib.Core.List.{List}
use native.Mathlib.Omega.{arith}
use Rattle.format.specs.Kinds.{Kind}
use Rattle.format.specs.Read.{kind_in}
use Rattle.table.specs.Table.{row_for}
use Rattle.table.proofs.Search.{range_from}
use Rattle.table.proofs.record_kind.Goals as goal

pub returns : goal.returns
returns c =
    let e = c.max.ensures in
    c.row_in.ensures
    ∙ ap (λ (ks : List Kind). row_for (kind_in ks c.args.title.now c.args.mark)) (range_from c.args.from c.args.to c.max.result (λ h. omega (arith, e)) (λ h. omega (arith, e)))
