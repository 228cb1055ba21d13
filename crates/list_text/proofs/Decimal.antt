-- The decimal text of a number: how long it is, and that the fewest digits that hold the number make it.
-- Assumes nothing.
use Prim.Native.Nat.{ℕ, zero, suc, ◌+◌, ◌-◌, ◌/◌, ◌%◌, ◌^◌, ◌≤◌, ◌<◌}
use mathlib.Core.Path.{◌≡◌, refl, ap, sym, ◌∙◌}
use mathlib.Core.Bool.{Bool, true, false}
use mathlib.Core.List.{[], ◌∷◌}
use mathlib.Core.Logic.{⊎_elim}
use native.Mathlib.Omega.{arith}
use native.Mathlib.Nat.{add-zero, add-suc, suc-add, sub-zero, lt_of_not-le, eq-or-lt_of_le, pow-le-pow_right, zero-lt-suc}
use lib.ListN.{length, take, drop, length-append}
use lib.Dec.{ltb}
use borrow.Author.Tests.{ltb-true, ltb-false}
use Rattle.text.specs.Text.{Bytes}
use Rattle.io.specs.Digits.{hex_digit_ascii, last_digits, IsDigitCount}
use Rattle.list_text.specs.Listing.{fewest_from, decimal_text, before}

-- ---- lengths

digits_length : (k n : ℕ) → length (last_digits 10 k n) ≡ k
digits_length zero n = refl
digits_length (suc k) n =
    length-append (last_digits 10 k (n / 10)) (hex_digit_ascii (n % 10) ∷ []) ∙ ap (λ (m : ℕ). m + 1) (digits_length k (n / 10)) ∙ omega arith

-- as many digits as a power of ten above the number has zeros
fewest_few : (more k j n : ℕ) → n < 10 ^ (k + j) → fewest_from k more n ≤ k + j
fewest_few zero k j n h = omega arith
fewest_few (suc more) k j n h = go (λ j h. fewest_few more (suc k) j n h) j h (ltb n (10 ^ k)) refl
  where
    go : ((j : ℕ) → n < 10 ^ (suc k + j) → fewest_from (suc k) more n ≤ suc k + j)
        → (j : ℕ) → n < 10 ^ (k + j) → (b : Bool) → ltb n (10 ^ k) ≡ b → fewest_from k (suc more) n ≤ k + j
    go later j h true e = rw e (omega arith)
    go later zero h false e = absurd (let f : n < 10 ^ k = rw add-zero at h in omega (arith, f, ltb-false n (10 ^ k) e))
    go later (suc j) h false e = rw e (omega (arith, later j (rw (add-suc, ← suc-add) at h)))

decimal_few : (j n : ℕ) → n < 10 ^ (1 + j) → length (decimal_text n) ≤ 1 + j
unfolding decimal_text
decimal_few j n h = omega (arith, digits_length (fewest_from 1 19 n) n, fewest_few 19 1 j n h)

-- a number and its mark: at most six characters below 100,000, and at most four below 1,000
pub before_length : (mark n : ℕ) → length (before mark n) ≡ length (decimal_text n) + 1
before_length mark n = length-append (decimal_text n) (mark ∷ [])

pub before_six : (mark n : ℕ) → n < 100000 → length (before mark n) ≤ 6
before_six mark n h = omega (arith, before_length mark n, decimal_few 4 n h)

pub before_four : (mark n : ℕ) → n < 1000 → length (before mark n) ≤ 4
before_four mark n h = omega (arith, before_length mark n, decimal_few 2 n h)

-- ---- the fewest digits

fewest_is : (more k n r : ℕ) → 1 ≤ k → k ≤ r → r ≤ k + more → n < 10 ^ r → (1 < r → 10 ^ (r - 1) ≤ n) → r ≡ fewest_from k more n
fewest_is zero k n r one low high h l = omega arith
fewest_is (suc more) k n r one low high h l =
    go (λ s. fewest_is more (suc k) n r (omega arith) s (omega arith) h l) (ltb n (10 ^ k)) refl
  where
    go : (k < r → r ≡ fewest_from (suc k) more n) → (b : Bool) → ltb n (10 ^ k) ≡ b → r ≡ fewest_from k (suc more) n
    go later true e =
        rw e (⊎_elim (λ (s : k ≡ r). sym s) (λ (s : k < r). absurd (
        let p = pow-le-pow_right {n = 10} (zero-lt-suc 9) {i = k} {j = r - 1} (omega arith) in
        omega (arith, p, l (omega arith), ltb-true n (10 ^ k) e))) (eq-or-lt_of_le low))
    go later false e =
        rw e (⊎_elim (λ (s : k ≡ r). absurd (
        let f : 10 ^ r ≤ n = rw (← s) (ltb-false n (10 ^ k) e) in
        omega (arith, f, h))) later (eq-or-lt_of_le low))

-- a number of 64 bits has at most 20 digits
few : (n r : ℕ) → n < 2 ^ 64 → (1 < r → 10 ^ (r - 1) ≤ n) → r ≤ 20
few n r h l =
    let below : r < 21 = lt_of_not-le (λ (g : 21 ≤ r).
    let p = pow-le-pow_right {n = 10} (zero-lt-suc 9) {i = 20} {j = r - 1} (omega arith) in
    omega (arith, p, l (omega arith), h)) in
    omega arith

decimal_is : (n r : ℕ) → n < 2 ^ 64 → IsDigitCount 10 1 n r → last_digits 10 r n ≡ decimal_text n
unfolding decimal_text
decimal_is n r h f = ap (λ (k : ℕ). last_digits 10 k n) (fewest_is 19 1 n r (omega arith) f.0 (few n r h f.2) f.1 f.2)

-- what `io::decimal` left in d, and answered, k: the part of d that is the number's text
pub decimal_part : (d : Bytes) (n k : ℕ) → n < 2 ^ 64 → IsDigitCount 10 1 n k → take k d ≡ last_digits 10 k n → take (k - 0) (drop 0 d) ≡ decimal_text n
decimal_part d n k h f e = rw sub-zero (e ∙ decimal_is n k h f)
