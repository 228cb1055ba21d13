-- The calendar: how the code tells a leap year and the days of a month, and the days of 400 years.
-- Assumes nothing.
use Prim.Native.Nat.{ℕ, zero, suc, ◌+◌, ◌%◌}
use mathlib.Core.Path.{◌≡◌, refl, ap, ◌∙◌}
use mathlib.Core.Logic.{◌⊎◌, inl, inr}
use mathlib.Core.Bool.{Bool, true, false, cond, and-true, and-false, or-false}
use native.Mathlib.Omega.{arith}
use native.Mathlib.Numerals.{add-one}
use native.Mathlib.Nat.{zero-add}
use lib.Dec.{T}
use borrow.Author.Tests.{eq-eqb, ne_eqb}
use Rattle.text.specs.Calendar.{divisible, leap, days_of_month, sum_to, days_of_year}
use Rattle.text.specs.Text.{Bytes, between, year, month, day, timestamp_tests, is_timestamp}
use Rattle.text.proofs.Tests.{at_every}

-- ---- a year that ends a century, and every other

pub century : (y : ℕ) → y % 100 ≡ 0 → leap y ≡ divisible y 400
century y e = rw (eq-eqb (y % 100) 0 e, and-false (divisible y 4))

pub no_century : (y : ℕ) → (y % 100 ≡ 0 → ⊥) → leap y ≡ divisible y 4
no_century y h =
    let not-400 : divisible y 400 ≡ false = ne_eqb (y % 400) 0 (λ e. h (omega (arith, e))) in
    rw (ne_eqb (y % 100) 0 h, not-400, or-false, and-true)

-- ---- the days of a month

module _ (y m : ℕ) where
  pub february : m ≡ 2 → (b : Bool) → leap y ≡ b → days_of_month y m ≡ cond b 29 28
  february e b f = rw (e, f)

  pub thirty : (m ≡ 4) ⊎ ((m ≡ 6) ⊎ ((m ≡ 9) ⊎ (m ≡ 11))) → days_of_month y m ≡ 30
  thirty (inl e) = rw e
  thirty (inr (inl e)) = rw e
  thirty (inr (inr (inl e))) = rw e
  thirty (inr (inr (inr e))) = rw e

  pub thirty_one : (m ≡ 2 → ⊥) → ((m ≡ 4) ⊎ ((m ≡ 6) ⊎ ((m ≡ 9) ⊎ (m ≡ 11))) → ⊥) → days_of_month y m ≡ 31
  thirty_one h k =
      rw (ne_eqb m 2 h, ne_eqb m 4 (λ e. k (inl e)), ne_eqb m 6 (λ e. k (inr (inl e))), ne_eqb m 9 (λ e. k (inr (inr (inl e)))), ne_eqb m 11 (λ e. k (inr (inr (inr e)))))

pub timestamp_day : (s : Bytes) → T (is_timestamp s) → T (between 1 (days_of_month (year s) (month s)) (day s))
unfolding is_timestamp
timestamp_day s t = at_every (λ b. b) true tt (timestamp_tests s) t 3

-- ---- every 400 years have as many days

leap_again : (y : ℕ) → leap (y + 400) ≡ leap y
leap_again y =
    let by_4 : (y + 400) % 4 ≡ y % 4 = omega arith in
    let by-100 : (y + 400) % 100 ≡ y % 100 = omega arith in
    let by-400 : (y + 400) % 400 ≡ y % 400 = omega arith in
    rw (by_4, by-100, by-400)

year_again : (y : ℕ) → days_of_year (y + 400) ≡ days_of_year y
unfolding sum_to
year_again y = simp (leap_again y)

module _ (f : ℕ → ℕ) where
  -- the first of a row of numbers, and those behind it
  first_apart : (y n : ℕ) → sum_to (suc n) (λ k. f (y + k)) ≡ f (suc y) + sum_to n (λ k. f (suc y + k))
  unfolding sum_to
  first_apart y zero = rw add-one (omega arith)
  first_apart y (suc n) =
      let e : f (y + suc (suc n)) ≡ f (suc y + suc n) = ap f (omega arith) in
      omega (arith, first_apart y n)

  -- where f comes again after n numbers, any n in a row have one sum
  same_sum : (n : ℕ) → ((y : ℕ) → f (y + n) ≡ f y) → (y : ℕ) → sum_to n (λ k. f (y + k)) ≡ sum_to n f
  unfolding sum_to
  same_sum n again zero = simp zero-add
  same_sum n again (suc y) =
      let e : f (y + suc n) ≡ f (suc y) = ap f (omega arith) ∙ again (suc y) in
      omega (arith, first_apart y n, same_sum n again y)

-- computed month by month
first_400_years : sum_to 400 days_of_year ≡ 146097
unfolding sum_to
first_400_years = refl

pub every_400_years : (y : ℕ) → sum_to 400 (λ n. days_of_year (y + n)) ≡ 146097
every_400_years y = same_sum days_of_year 400 year_again y ∙ first_400_years
