-- `table::row_in` meets its contract. The loop's invariant: the rows from here on decide.
-- Assumes nothing.
use mathlib.Core.Path.{◌≡◌}
use lib.ListN.{take, drop}
use Rattle.format.specs.Kinds.{all_kinds}
use Rattle.format.specs.Read.{kind_in}
use Rattle.table.proofs.row_in.Given as goal

abbrev pub invariant-loop-row : goal.invariant-loop-row
invariant-loop-row l = kind_in (drop l.row (take l.to all_kinds)) l.title l.mark ≡ kind_in (drop l.from (take l.to all_kinds)) l.title l.mark
