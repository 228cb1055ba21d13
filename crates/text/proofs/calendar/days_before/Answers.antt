-- `text::calendar::days_before` meets its contract.
-- Assumes nothing.
use Prim.Native.Nat.{ℕ, ◌+◌, ◌-◌}
use mathlib.Core.Path.{ap₂}
use native.Mathlib.Omega.{arith}
use Rattle.text.specs.Calendar.{days_before}
use Rattle.text.proofs.calendar.days_before.Goals as goal

pub returns : goal.returns
unfolding days_before
returns c =
    let a = c.args in
    (ap₂ (λ (x y : ℕ). x + y + (a.day - 1)) c.days_of_years.ensures.0 c.days_of_months.ensures.0, omega arith)
