-- The Gregorian calendar: document 02, E2 and E9.
-- Assumes nothing.
use Rattle.std.specs.Prelude.{ℕ, zero, suc, ◌+◌, ◌-◌, ◌%◌, Bool, cond, not, ◌&&◌, ◌||◌, eqb}

abbrev pub divisible : ℕ → ℕ → Bool
divisible y n = eqb (y % n) 0

-- "29 February only in years divisible by 4 and not by 100, or by 400"
abbrev pub leap : ℕ → Bool
leap y = (divisible y 4 && not (divisible y 100)) || divisible y 400

-- of year y and month m, which counts from 1: thirty days have April, June, September and November
abbrev pub days_of_month : ℕ → ℕ → ℕ
days_of_month y m = cond (eqb m 2) (cond (leap y) 29 28) (cond (eqb m 4 || eqb m 6 || eqb m 9 || eqb m 11) 30 31)

-- ---- counting days (E9)

-- f 1 + .. + f n
unfoldable pub sum_to : ℕ → (ℕ → ℕ) → ℕ
sum_to zero f = 0
sum_to (suc n) f = sum_to n f + f (suc n)

abbrev pub days_of_year : ℕ → ℕ
days_of_year y = sum_to 12 (days_of_month y)

-- the days from 1 January of the year 1 to day d of month m of year y: whole years, whole months, whole days
unfoldable pub days_before : ℕ → ℕ → ℕ → ℕ
days_before y m d = sum_to (y - 1) days_of_year + sum_to (m - 1) (days_of_month y) + (d - 1)
