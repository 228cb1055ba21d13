-- Counting days: whole years and months in closed form, and that a later date has more days before it.
-- Assumes nothing.
use Prim.Native.Nat.{ℕ, zero, suc, ◌+◌, ◌-◌, ◌*◌, ◌/◌, ◌%◌, ◌≤◌, ◌<◌}
use mathlib.Core.Path.{◌≡◌, refl, sym, ap, ◌∙◌}
use mathlib.Core.Bool.{Bool, true, false, cond, not, ◌&&◌, ◌||◌}
use native.Mathlib.Omega.{arith}
use native.Mathlib.Nat.{div-add-mod', mod-lt, suc-mul}
use lib.Arith.{digits_div, digits_mod}
use lib.Dec.{T, eqb, leb, ltb, eqb→eq, leb→le, nleb→lt, ltb→lt, nltb→le}
use borrow.Author.Tests.{eq-eqb, ne_eqb}
use Rattle.text.specs.Calendar.{divisible, leap, days_of_month, sum_to, days_of_year, days_before}
use Rattle.text.proofs.Tests.{true_T, by_test, below, all_below}

-- ---- sums

module _ (f : ℕ → ℕ) where
  pub sum_next : (n : ℕ) → 1 ≤ n → sum_to n f ≡ sum_to (n - 1) f + f n
  unfolding sum_to
  sum_next zero h = absurd (omega arith)
  sum_next (suc n) h =
      let e : n ≡ suc n - 1 = omega arith in
      ap (λ (k : ℕ). sum_to k f + f (suc n)) e

  pub sum_mono : (a b : ℕ) → a ≤ b → sum_to a f ≤ sum_to b f
  unfolding sum_to
  sum_mono a zero h = let e : a ≡ 0 = omega arith in rw e (omega arith)
  sum_mono a (suc b) h =
      by_test (leb a b)
      (λ t. omega (arith, sum_mono a b (leb→le a b t)))
      (λ t. let l = nleb→lt a b t in let e : a ≡ suc b = omega arith in rw e (omega arith))

-- ---- the days of a year, and of the years 1 to n

-- of month m, in a leap year or in another
abbrev month_days : Bool → ℕ → ℕ
month_days l m = cond (eqb m 2) (cond l 29 28) (cond (eqb m 4 || eqb m 6 || eqb m 9 || eqb m 11) 30 31)

year_days : (y : ℕ) → days_of_year y ≡ cond (leap y) 366 365
unfolding sum_to
year_days y = go (leap y)
  where
    go : (l : Bool) → sum_to 12 (month_days l) ≡ cond l 366 365
    go true = refl
    go false = refl

-- n / d is the number of the numbers 1 to n that d divides
module _ (d : ℕ) (h : 0 < d) where
  div_next : (n : ℕ) → suc n / d ≡ n / d + cond (divisible (suc n) d) 1 0
  div_next n =
      let q = n / d in
      let r = n % d in
      let e : q * d + r ≡ n = div-add-mod' n d in
      let l : r < d = mod-lt n h in
      by_test (ltb (suc r) d)
      (λ t. let u = ltb→lt (suc r) d t in
      let n' : q * d + suc r ≡ suc n = omega arith in
      let rest : suc n % d ≡ suc r = ap (λ (x : ℕ). x % d) (sym n') ∙ digits_mod q u in
      rw (ne_eqb (suc n % d) 0 (λ z. omega arith)) (ap (λ (x : ℕ). x / d) (sym n') ∙ digits_div q u ∙ omega arith))
      (λ t. let u = nltb→le (suc r) d t in
      let n' : suc q * d + 0 ≡ suc n = omega (arith, suc-mul q d) in
      let rest : suc n % d ≡ 0 = ap (λ (x : ℕ). x % d) (sym n') ∙ digits_mod (suc q) h in
      rw (eq-eqb (suc n % d) 0 rest) (ap (λ (x : ℕ). x / d) (sym n') ∙ digits_div (suc q) h ∙ omega arith))

-- what a year has more than 365, by its three tests
leap-day : (a b c : Bool) → (T c → T b) → (T b → T a) → cond ((a && not b) || c) 366 365 + cond b 1 0 ≡ 365 + cond a 1 0 + cond c 1 0
leap-day true true true h k = refl
leap-day true true false h k = refl
leap-day true false true h k = absurd (h tt)
leap-day true false false h k = refl
leap-day false true c h k = absurd (k tt)
leap-day false false true h k = absurd (h tt)
leap-day false false false h k = refl

year_more : (y : ℕ) → days_of_year y + cond (divisible y 100) 1 0 ≡ 365 + cond (divisible y 4) 1 0 + cond (divisible y 400) 1 0
year_more y =
    ap (λ (n : ℕ). n + cond (divisible y 100) 1 0) (year_days y)
    ∙ leap-day (divisible y 4) (divisible y 100) (divisible y 400)
    (λ t. let e = eqb→eq (y % 400) 0 t in true_T _ (eq-eqb (y % 100) 0 (omega arith)))
    (λ t. let e = eqb→eq (y % 100) 0 t in true_T _ (eq-eqb (y % 4) 0 (omega arith)))

-- a sum that goes on: a, b and c count the years divisible by 4, 100 and 400
years_on : (n s a b c y i j k : ℕ) → s + b ≡ 365 * n + a + c → y + j ≡ 365 + i + k → s + y + (b + j) ≡ 365 * suc n + (a + i) + (c + k)
years_on n s a b c y i j k h e = omega arith

years_count : (n : ℕ) → sum_to n days_of_year + n / 100 ≡ 365 * n + n / 4 + n / 400
unfolding sum_to
years_count zero = refl
years_count (suc n) =
    let more : (d : ℕ) → ℕ = λ d. cond (divisible (suc n) d) 1 0 in
    rw (div_next 4 (omega arith) n, div_next 100 (omega arith) n, div_next 400 (omega arith) n)
    (years_on n (sum_to n days_of_year) (n / 4) (n / 100) (n / 400) (days_of_year (suc n)) (more 4) (more 100) (more 400) (years_count n) (year_more (suc n)))

closed : (n s a b c : ℕ) → s + b ≡ 365 * n + a + c → b ≤ a → s ≡ 365 * n + a - b + c
closed n s a b c h l = omega arith

pub years_closed : (n : ℕ) → sum_to n days_of_year ≡ 365 * n + n / 4 - n / 100 + n / 400
years_closed n = closed n (sum_to n days_of_year) (n / 4) (n / 100) (n / 400) (years_count n) (omega arith)

-- ---- the days of the months 1 to n

abbrev pub months_closed : Bool → ℕ → ℕ
months_closed l n = cond (ltb n 2) ((367 * n + 5) / 12) (cond l ((367 * n + 5) / 12 - 1) ((367 * n + 5) / 12 - 2))

pub months-closed : (y n : ℕ) → n < 12 → sum_to n (days_of_month y) ≡ months_closed (leap y) n
unfolding sum_to all_below
months-closed y n h = eqb→eq _ _ (below 12 (λ k. eqb (sum_to k (days_of_month y)) (months_closed (leap y) k)) (go (leap y)) n h)
  where
    go : (l : Bool) → T (all_below 12 (λ k. eqb (sum_to k (month_days l)) (months_closed l k)))
    go true = tt
    go false = tt

pub month_most : (y m : ℕ) → days_of_month y m ≤ 31
month_most y m = go (eqb m 2) (leap y) (eqb m 4 || eqb m 6 || eqb m 9 || eqb m 11)
  where
    go : (e l f : Bool) → cond e (cond l 29 28) (cond f 30 31) ≤ 31
    go true true f = omega arith
    go true false f = omega arith
    go false l true = omega arith
    go false l false = omega arith

-- ---- dates

pub record IsDate (y m d : ℕ) : Type 0 where
  pub year_from : 1 ≤ y
  pub month_from : 1 ≤ m
  pub month_to : m ≤ 12
  pub day_from : 1 ≤ d
  pub day_to : d ≤ days_of_month y m

module _ {y m d : ℕ} (a : IsDate y m d) where
  to_month_end : sum_to (m - 1) (days_of_month y) + d ≤ sum_to m (days_of_month y)
  to_month_end = omega (arith, sum_next (days_of_month y) m a.month_from, a.day_to)

  to_year_end : sum_to (y - 1) days_of_year + sum_to (m - 1) (days_of_month y) + d ≤ sum_to y days_of_year
  to_year_end = omega (arith, to_month_end, sum_mono (days_of_month y) m 12 a.month_to, sum_next days_of_year y a.year_from)

  pub earlier_year : (z n e : ℕ) → y < z → days_before y m d < days_before z n e
  unfolding days_before
  earlier_year z n e h = omega (arith, to_year_end, a.day_from, sum_mono days_of_year y (z - 1) (omega arith))

  pub earlier_month : (n e : ℕ) → m < n → days_before y m d < days_before y n e
  unfolding days_before
  earlier_month n e h = omega (arith, to_month_end, a.day_from, sum_mono (days_of_month y) m (n - 1) (omega arith))

  pub earlier_day : (e : ℕ) → d < e → days_before y m d < days_before y m e
  unfolding days_before
  earlier_day e h = omega (arith, a.day_from)

  -- ---- the day after has one day more before it

  pub next_day : days_before y m (suc d) ≡ suc (days_before y m d)
  unfolding days_before
  next_day = omega (arith, a.day_from)

  pub next_month : d ≡ days_of_month y m → days_before y (suc m) 1 ≡ suc (days_before y m d)
  unfolding days_before
  next_month e =
      let k : suc m - 1 ≡ m = omega arith in
      rw k (omega (arith, a.day_from, sum_next (days_of_month y) m a.month_from))

  pub next_year : d ≡ days_of_month y m → m ≡ 12 → days_before (suc y) 1 1 ≡ suc (days_before y m d)
  unfolding days_before sum_to
  next_year e q =
      let k : suc y - 1 ≡ y = omega arith in
      let whole : sum_to m (days_of_month y) ≡ days_of_year y = ap (λ (x : ℕ). sum_to x (days_of_month y)) q in
      rw k (omega (arith, whole, a.day_from, sum_next (days_of_month y) m a.month_from, sum_next days_of_year y a.year_from))
