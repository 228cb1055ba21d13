-- `table::mark_of` meets its contract: antt computes the mark of each kind, and the array is that list.
-- Assumes nothing.
use mathlib.Core.Path.{ap, ◌∙◌}
use native.Mathlib.Omega.{arith}
use Rattle.std.specs.Option.{unwrap_or}
use Rattle.table.specs.Table.{of_row}
use Rattle.table.proofs.mark_of.Goals as goal

pub returns : goal.returns
unfolding of_row
returns c = c.unwrap_or.ensures ∙ ap (λ o. unwrap_or o 0) c.copied.ensures ∙ c.get.ensures.lookup.4 (omega arith) 0
