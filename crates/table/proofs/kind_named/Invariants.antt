-- `table::kind_named` meets its contract. The loop's invariant: the rows from here on decide.
-- Assumes nothing.
use mathlib.Core.Path.{◌≡◌}
use lib.ListN.{drop}
use Rattle.format.specs.Kinds.{all_kinds}
use Rattle.table.specs.Table.{named}
use Rattle.table.proofs.kind_named.Given as goal

abbrev pub invariant-loop-row : goal.invariant-loop-row
invariant-loop-row l = named (drop l.row all_kinds) l.title ≡ named all_kinds l.title
