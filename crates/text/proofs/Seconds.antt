-- A TIMESTAMP as a number: its parts, the order of numbers of seconds, and the eight bytes.
-- Assumes nothing.
use Prim.Native.Nat.{ℕ, zero, suc, ◌+◌, ◌-◌, ◌*◌, ◌/◌, ◌%◌, ◌^◌, ◌≤◌, ◌<◌}
use mathlib.Core.Path.{◌≡◌, refl, sym, ap, ap₂, subst, ◌∙◌}
use mathlib.Core.Bool.{Bool, true, false, cond, not, true≢false}
use mathlib.Core.List.{[], ◌∷◌, ◌++◌}
use native.Mathlib.Omega.{arith}
use native.Mathlib.Nat.{pow-suc, mul_comm, div-div-eq-div-mul}
use lib.Dec.{T, ltb, ltb→lt, nltb→le, lt→ltb}
use lib.ListN.{length}
use lib.IntN.{ℤ, pos, negsuc, nat_abs, sub_ℕ, ◌+ℤ◌, ◌-ℤ◌}
use lib.Signed.{◌<ℤ◌, mag, non_neg, lt_z, lt_z_yes}
use mir.Syntax.{w64}
use mir.Val.{Fits, SFits, of_z, to_z}
use mir.Facts.{Fits-nat_abs}
use mir.ValLaws.{to_z_pos, to_z-of_z, of_z_fits}
use borrow.Author.Tests.{lt-ltb, le-ltb, ltb-true}
use Rattle.std.specs.Int.{byte_at, bytes_high_first}
use Rattle.text.specs.Calendar.{days_of_month, days_before, sum_to}
use Rattle.text.specs.Text.{Bytes, between, number_from, year, month, day, hour, minute, second, timestamp_tests, is_timestamp}
use Rattle.text.specs.declared.moment.Moment.{Moment}
use Rattle.text.specs.Seconds.{since_year_one, start, seconds, moment_of, twos_complement, big_endian, seconds_bytes}
use Rattle.text.proofs.Tests.{by_test, between_low, between_high, at_every, T_true, T_false}
use Rattle.text.proofs.Counting.{IsDate, earlier_year}

-- ---- the parts of a TIMESTAMP

pub record Parts (s : Bytes) : Type 0 where
  pub date : IsDate (year s) (month s) (day s)
  pub year_to : year s ≤ 9999
  pub hour_to : hour s ≤ 23
  pub minute_to : minute s ≤ 59
  pub second_to : second s ≤ 59

pub parts : (s : Bytes) → T (is_timestamp s) → Parts s
unfolding is_timestamp
parts s t =
    let passes = at_every (λ b. b) true tt (timestamp_tests s) t in
    let y : T (between 1 9999 (year s)) = passes 1 in
    let m : T (between 1 12 (month s)) = passes 2 in
    let d : T (between 1 (days_of_month (year s) (month s)) (day s)) = passes 3 in
    record {
      date =
          record {
            year_from = between_low 1 9999 (year s) y;
            month_from = between_low 1 12 (month s) m;
            month_to = between_high 1 12 (month s) m;
            day_from = between_low 1 (days_of_month (year s) (month s)) (day s) d;
            day_to = between_high 1 (days_of_month (year s) (month s)) (day s) d;
          };
      year_to = between_high 1 9999 (year s) y;
      hour_to = between_high 0 23 (hour s) (passes 4);
      minute_to = between_high 0 59 (minute s) (passes 5);
      second_to = between_high 0 59 (second s) (passes 6);
    }

-- ---- differences

module _ (a c : ℕ) where
  sub_below : a < c → sub_ℕ a c ≡ negsuc (c - suc a)
  sub_below h = rw (lt-ltb a c h)

  sub_above : c ≤ a → sub_ℕ a c ≡ pos (a - c)
  sub_above h = rw (le-ltb a c h)

sub_less : (a b c : ℕ) → a < b → sub_ℕ a c <ℤ sub_ℕ b c
sub_less a b c h =
    by_test (ltb a c)
    (λ t. let u = ltb→lt a c t in
    by_test (ltb b c)
    (λ v. let w = ltb→lt b c v in rw (sub_below a c u, sub_below b c w) (lt_z_yes (lt→ltb (c - suc b) (c - suc a) (omega arith))))
    (λ v. rw (sub_below a c u, sub_above b c (nltb→le b c v)) (lt_z_yes tt)))
    (λ t. let u = nltb→le a c t in
    rw (sub_above a c u, sub_above b c (omega arith)) (lt_z_yes (lt→ltb (a - c) (b - c) (omega arith))))

-- a difference depends on no more than what is left when as much is taken from both
sub_shift : (a b c d : ℕ) → a + d ≡ b + c → sub_ℕ a c ≡ sub_ℕ b d
sub_shift a b c d e =
    by_test (ltb a c)
    (λ t. let u = ltb→lt a c t in sub_below a c u ∙ ap negsuc (omega arith) ∙ sym (sub_below b d (omega arith)))
    (λ t. let u = nltb→le a c t in sub_above a c u ∙ ap pos (omega arith) ∙ sym (sub_above b d (omega arith)))

pub sub_more : (a c k : ℕ) → sub_ℕ (a + k) c ≡ sub_ℕ a c +ℤ pos k
sub_more a c k =
    by_test (ltb a c)
    (λ t. let u = ltb→lt a c t in rw (sub_below a c u) (sub_shift (a + k) k c (suc (c - suc a)) (omega arith)))
    (λ t. let u = nltb→le a c t in rw (sub_above a c u) (sub_above (a + k) c (omega arith) ∙ ap pos (omega arith)))

-- ---- what the date call answers

pub moment_valid : (s : Bytes) → (moment_of s).valid ≡ is_timestamp s
unfolding moment_of
moment_valid s = go (is_timestamp s)
  where
    go : (b : Bool) → (cond {A = Moment} b (record { valid = true; seconds = seconds s }) (record { valid = false; seconds = pos 0 })).valid ≡ b
    go true = refl
    go false = refl

pub moment_seconds : (s : Bytes) → T (is_timestamp s) → (moment_of s).seconds ≡ seconds s
unfolding moment_of
moment_seconds s t = rw (T_true (is_timestamp s) t)

pub seconds_less : (s t : Bytes) → since_year_one s < since_year_one t → seconds s <ℤ seconds t
unfolding seconds
seconds_less s t h = sub_less (since_year_one s) (since_year_one t) (since_year_one start) h

-- days decide before the time of day does
pub sooner_day : (s t : Bytes) → T (is_timestamp s) → days_before (year s) (month s) (day s) < days_before (year t) (month t) (day t) → since_year_one s < since_year_one t
unfolding since_year_one
sooner_day s t h l = let p = parts s h in omega (arith, p.hour_to, p.minute_to, p.second_to)

-- ---- a signed number in the machine: each fits 64 bits

pub start_is : since_year_one start ≡ 62861443200
unfolding since_year_one days_before sum_to number_from
start_is = refl

sub_fits : (a : ℕ) → a < 2 ^ 40 → SFits w64 (sub_ℕ a 62861443200)
sub_fits a h =
    by_test (ltb a 62861443200)
    (λ t. let u = ltb→lt a 62861443200 t in rw (sub_below a 62861443200 u) (record { sfits = omega arith }))
    (λ t. let u = nltb→le a 62861443200 t in rw (sub_above a 62861443200 u) (record { sfits = omega arith }))

module _ (a : ℕ) (h : a < 2 ^ 40) where
  difference : to_z w64 a -ℤ pos 62861443200 ≡ sub_ℕ a 62861443200
  difference = ap (λ (z : ℤ). z -ℤ pos 62861443200) (to_z_pos w64 a (omega arith))

  pub difference_fits : SFits w64 (to_z w64 a -ℤ pos 62861443200)
  difference_fits = rw difference (sub_fits a h)

  pub difference_is : to_z w64 (of_z w64 (to_z w64 a -ℤ pos 62861443200)) ≡ sub_ℕ a (since_year_one start)
  difference_is = rw (difference, start_is) (to_z-of_z w64 (sub_ℕ a 62861443200) (sub_fits a h))

-- every TIMESTAMP is before the year 10000
module _ (s : Bytes) (h : T (is_timestamp s)) where
  days_most : days_before (year s) (month s) (day s) < 3652059
  unfolding days_before sum_to
  days_most = let p = parts s h in earlier_year p.date 10000 1 1 (omega (arith, p.year_to))

  since_most : since_year_one s < 2 ^ 40
  unfolding since_year_one
  since_most = let p = parts s h in omega (arith, days_most, p.hour_to, p.minute_to, p.second_to)

  pub seconds_fit : SFits w64 (seconds s)
  unfolding seconds
  seconds_fit = rw start_is (sub_fits (since_year_one s) since_most)

pub no_moment : (s : Bytes) → T (not (is_timestamp s)) → (moment_of s).seconds ≡ pos 0
unfolding moment_of
no_moment s t = rw (T_false (is_timestamp s) t)

-- the start is 0
pub start_zero : seconds start ≡ pos 0
unfolding seconds
start_zero = sub_above (since_year_one start) (since_year_one start) (omega arith) ∙ ap pos (omega arith)

pub start_moment : (moment_of start).seconds ≡ pos 0
start_moment = by_test (is_timestamp start) (λ t. moment_seconds start t ∙ start_zero) (no_moment start)

-- and so does the number that the date call gives for any other text
pub moment_fits : (s : Bytes) → SFits w64 (moment_of s).seconds
moment_fits s = by_test (is_timestamp s) (λ t. rw (moment_seconds s t) (seconds_fit s t)) (λ t. rw (no_moment s t) (record { sfits = omega arith }))

-- as the machine reads it back from the answer
pub moment_back : (s : Bytes) {m : Moment} → m ≡ moment_of s → to_z w64 (of_z w64 m.seconds) ≡ (moment_of s).seconds
moment_back s e = ap (λ (m : Moment). to_z w64 (of_z w64 m.seconds)) e ∙ to_z-of_z w64 (moment_of s).seconds (moment_fits s)

-- ---- the size of a signed number, as code takes it: the test of its sign, -1 - x, and the casts

-- what a cast to u64 asks
abbrev pub Casts : ℤ → Type 0
Casts z = T (non_neg z) × Fits w64 (nat_abs z)

-- what the machine reads back from the bits of x
abbrev pub back : ℤ → ℤ
back x = to_z w64 (of_z w64 x)

module _ (x : ℤ) (f : SFits w64 x) (test : lt_z (back x) (pos 0) ≡ true) where
  negative : lt_z x (pos 0) ≡ true
  negative = ap (λ (z : ℤ). lt_z z (pos 0)) (sym (to_z-of_z w64 x f)) ∙ test

  turned : (x : ℤ) → lt_z x (pos 0) ≡ true → negsuc 0 -ℤ x ≡ pos (mag x)
  turned (pos n) e = absurd (omega (arith, ltb-true n 0 e))
  turned (negsuc n) e = sub_above (suc n) 1 (omega arith) ∙ ap pos (omega arith)

  minus : negsuc 0 -ℤ back x ≡ pos (mag x)
  minus = rw (to_z-of_z w64 x f) (turned x negative)

  pub minus_fits : SFits w64 (negsuc 0 -ℤ back x)
  minus_fits = rw minus (record { sfits = f.sfits })

  minus_is : back (negsuc 0 -ℤ back x) ≡ pos (mag x)
  minus_is = rw minus (to_z-of_z w64 (pos (mag x)) (record { sfits = f.sfits }))

  pub minus_casts : Casts (back (negsuc 0 -ℤ back x))
  minus_casts = rw minus_is (tt, record { fits = omega (arith, f.sfits) })

module _ (x : ℤ) (f : SFits w64 x) (test : lt_z (back x) (pos 0) ≡ false) where
  not_negative : back x ≡ pos (twos_complement x)
  not_negative = to_z-of_z w64 x f ∙ go x (ap (λ (z : ℤ). lt_z z (pos 0)) (sym (to_z-of_z w64 x f)) ∙ test)
    where
      go : (x : ℤ) → lt_z x (pos 0) ≡ false → x ≡ pos (twos_complement x)
      go (pos n) e = refl
      go (negsuc n) e = absurd (true≢false e)

  pub casts : Casts (back x)
  casts =
      rw not_negative
      (tt, Fits-nat_abs {w = w64} {w' = w64} {z = pos (twos_complement x)} tt (subst (SFits w64) (sym (to_z-of_z w64 x f) ∙ not_negative) f))

-- ---- the eight bytes determine the number

pub complement_bits : (z : ℤ) → twos_complement z ≡ of_z w64 z
complement_bits (pos n) = refl
complement_bits (negsuc n) = refl

-- as the library says them
byte_up : (i n : ℕ) → byte_at (suc i) n ≡ byte_at i (n / 256)
byte_up zero n = refl
byte_up (suc i) n =
    ap (λ (d : ℕ). n / d % 256) (pow-suc 256 (suc i) ∙ mul_comm (256 ^ suc i) 256)
    ∙ ap (λ (x : ℕ). x % 256) (sym (div-div-eq-div-mul n 256 (256 ^ suc i)))

high_step : (k n : ℕ) → bytes_high_first (suc k) n ≡ bytes_high_first k (n / 256) ++ (n % 256 ∷ [])
high_step zero n = refl
high_step (suc k) n = ap₂ {C = Bytes} (λ (x : ℕ) (r : Bytes). x ∷ r) (byte_up k n) (high_step k n)

pub high_first : (k n : ℕ) → bytes_high_first k n ≡ big_endian k n
high_first zero n = refl
high_first (suc k) n = high_step k n ∙ ap (λ (s : Bytes). s ++ (n % 256 ∷ [])) (high_first k (n / 256))

-- the number that bytes stand for, after those that give n
abbrev value_from : ℕ → Bytes → ℕ
value_from n [] = n
value_from n (c ∷ s) = value_from (256 * n + c) s

value_last : (n : ℕ) (s : Bytes) (b : ℕ) → value_from n (s ++ (b ∷ [])) ≡ 256 * value_from n s + b
value_last n [] b = refl
value_last n (c ∷ s) b = value_last (256 * n + c) s b

-- x has no more than k bytes
abbrev Within : ℕ → ℕ → Type 0
Within zero x = x ≡ 0
Within (suc k) x = Within k (x / 256)

value_back : (k x : ℕ) → Within k x → value_from 0 (big_endian k x) ≡ x
value_back zero x h = sym h
value_back (suc k) x h = value_last 0 (big_endian k (x / 256)) (x % 256) ∙ omega (arith, value_back k (x / 256) h)

-- bound k is 256 ^ k, which does not compute on a variable
abbrev bound : ℕ → ℕ
bound zero = 1
bound (suc k) = 256 * bound k

within : (k x : ℕ) → x < bound k → Within k x
within zero x h = omega arith
within (suc k) x h = within k (x / 256) (less x (bound k) h)
  where
    less : (y b : ℕ) → y < 256 * b → y / 256 < b
    less y b h = omega arith

pub bytes_length : (z : ℤ) → length (seconds_bytes z) ≡ 8
unfolding seconds_bytes
bytes_length z = refl

pub bytes_inj : (y z : ℤ) → SFits w64 y → SFits w64 z → seconds_bytes y ≡ seconds_bytes z → y ≡ z
unfolding seconds_bytes
bytes_inj y z f g e =
    sym (to_z-of_z w64 y f)
    ∙ ap (to_z w64) (sym (complement_bits y) ∙ sym (whole y f) ∙ ap (value_from 0) e ∙ whole z g ∙ complement_bits z)
    ∙ to_z-of_z w64 z g
  where
    whole : (z : ℤ) → SFits w64 z → value_from 0 (big_endian 8 (twos_complement z)) ≡ twos_complement z
    whole z g = value_back 8 (twos_complement z) (within 8 (twos_complement z) (rw (complement_bits z) (of_z_fits w64 z g).fits))
