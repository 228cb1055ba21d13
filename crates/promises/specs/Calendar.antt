-- The Gregorian calendar: document 02, E2.
-- Assumes nothing.
use Rattle.std.specs.Prelude.{ℕ, ◌+◌, ◌≡◌, T}
use Rattle.text.specs.Calendar.{days_of_month, sum_to, days_of_year}
use Rattle.text.specs.Text.{Bytes, between, year, month, day, is_timestamp}

pub record Calendar : Type 0 where
  -- "a day must exist in its month", in every TIMESTAMP
  pub exists : (s : Bytes) → T (is_timestamp s) → T (between 1 (days_of_month (year s) (month s)) (day s))
  -- the 400 years behind any year have 146,097 days
  pub every_400_years : (y : ℕ) → sum_to 400 (λ n. days_of_year (y + n)) ≡ 146097
