-- `text::calendar::days_of_years` meets its contract.
-- Assumes nothing.
use mathlib.Core.Path.{sym}
use native.Mathlib.Omega.{arith}
use Rattle.text.proofs.Counting.{years_closed}
use Rattle.text.proofs.calendar.days_of_years.Goals as goal

pub returns : goal.returns
returns c = (sym (years_closed c.args.n), omega arith)
