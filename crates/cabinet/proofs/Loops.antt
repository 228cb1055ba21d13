-- The loops over a cabinet's places, and over bytes: each looks for the first that passes a test.
-- Assumes nothing.
use Prim.Native.Nat.{ℕ, zero, suc, ◌+◌, ◌-◌, ◌≤◌, ◌<◌}
use mathlib.Core.Path.{◌≡◌, refl, sym, ap, ◌∙◌, subst}
use mathlib.Core.Bool.{Bool, true, false, not, cond, ◌&&◌, and-true, and_assoc}
use native.Mathlib.Omega.{arith}
use native.Mathlib.Numerals.{add-one}
use lib.ListN.{length, drop, get_or, drop_of_length-le}
use lib.Seq.{drop-cons}
use lib.Bits.{bit_or, bit_and, or_add_and, and_le_r, or_zero_l}
use lib.Dec.{eqb, eqb→eq}
use mir.Facts.{T_not, yes_eqb}
use borrow.Author.Tests.{eq-eqb, ne_eqb, not-true}
use Rattle.text.proofs.Tests.{T_true, T_false, by_test}
use Rattle.text.specs.Text.{Bytes, every}
use Rattle.std.specs.Option.{is_some}
use Rattle.std.proofs.Common.{Option, None, Some}
use Rattle.cabinet.specs.Steps.{is_zero, first, first_from, Among, Below, start, onward, Lowest, all_pass, is_free_at, is_held_at, occupied_of}

-- ---- the first place that passes the test

pub record Sought (t : ℕ → Bool) (from i : ℕ) : Type 0 where
  pub within : i ≤ 64
  pub so_far : first_from t from ≡ first_from t i

pub sought_none : (t : ℕ → Bool) (from : ℕ) → from ≤ 64 → Sought t from from
sought_none t from l = record { within = l; so_far = refl }

next : (t : ℕ → Bool) (i : ℕ) → i < 64 → first_from t i ≡ cond (t i) i (first_from t (suc i))
unfolding first
next t i l = let e : 64 - i ≡ suc (64 - suc i) = omega arith in rw e

pub sought_on : {t : ℕ → Bool} {from i : ℕ} → Sought t from i → i < 64 → t i ≡ false → Sought t from (i + 1)
sought_on {t} {from} {i} k l e =
    record { within = omega arith; so_far = k.so_far ∙ next t i l ∙ rw e (ap (first_from t) (sym (add-one i))) }

pub sought_here : {t : ℕ → Bool} {from i : ℕ} → Sought t from i → i < 64 → t i ≡ true → (i ≡ first_from t from) × (i < 64)
sought_here {t} {from} {i} k l e = (sym (k.so_far ∙ next t i l ∙ rw e), l)

pub sought_end : {t : ℕ → Bool} {from i : ℕ} → Sought t from i → 64 ≤ i → first_from t from ≡ 64
unfolding first
sought_end {t} {from} {i} k l = let w = k.within in k.so_far ∙ (let e : 64 - i ≡ 0 = omega arith in rw e (omega arith))

pub below_all : {Said : ℕ → Bool → Type 0} {from i : ℕ} → Below Said from i → i ≡ 64 → Below Said from 64
below_all {Said} {from} w e = let P : ℕ → Type 0 = λ j. Below Said from j in subst P e w

-- what a test found that says of each place what t does
module _ (t : ℕ → Bool) {Said : ℕ → Bool → Type 0} (right : (i : ℕ) (b : Bool) → i < 64 → Said i b → b ≡ t i) where
  sought_below : {from i : ℕ} → from ≤ 64 → Below Said from i → Sought t from i
  sought_below {from} l start = sought_none t from l
  sought_below l (onward {i} w h s) = sought_on (sought_below l w) h (sym (right i false h s))

  pub lowest_among : {from : ℕ} → from ≤ 64 → (r : Option ℕ) → Lowest Said from r → Among (first_from t from) r
  lowest_among l None w = sought_end (sought_below l w) (omega arith)
  lowest_among l (Some i) (w, h, s) = sought_here (sought_below l w) h (sym (right i true h s))

-- whether none was found
pub none_among : (n : ℕ) (r : Option ℕ) {b : Bool} → Among n r → is_some r ≡ not b → b ≡ eqb n 64
none_among n None {b = true} e q = sym (eq-eqb n 64 e)
none_among n None {b = false} e q = let z : ◌≡◌ {A = ℕ} 0 1 = cc in absurd (omega arith)
none_among n (Some i) {b = true} e q = let z : ◌≡◌ {A = ℕ} 0 1 = cc in absurd (omega arith)
none_among n (Some i) {b = false} (e, l) q = sym (ne_eqb n 64 (λ f. omega arith))

-- ---- every place passes it

abbrev pub Passed : (ℕ → Bool) → ℕ → Type 0
Passed t i = Sought (λ j. not (t j)) 0 i

pub passed_on : (t : ℕ → Bool) {i : ℕ} → Passed t i → i < 64 → t i ≡ true → Passed t (i + 1)
passed_on t k l e = sought_on k l (ap not e)

pub passed_not : (t : ℕ → Bool) {i : ℕ} → Passed t i → i < 64 → t i ≡ false → false ≡ all_pass t
passed_not t {i} k l e = let f = (sought_here k l (ap not e)).0 in sym (ne_eqb (first_from (λ j. not (t j)) 0) 64 (λ z. omega arith))

pub passed_all : (t : ℕ → Bool) {i : ℕ} → Passed t i → 64 ≤ i → true ≡ all_pass t
passed_all t k l = sym (eq-eqb (first_from (λ j. not (t j)) 0) 64 (sought_end k l))

-- ---- how many are occupied

first_after : (t : ℕ → Bool) (n i : ℕ) → i ≤ first t n i
unfolding first
first_after t zero i = omega arith
first_after t (suc n) i =
    by_test (t i)
    (λ h. rw (T_true (t i) h) (omega arith))
    (λ h. rw (T_false (t i) h) (omega (arith, first_after t n (suc i))))

first_passes : (t : ℕ → Bool) (n i : ℕ) → first t n i < i + n → t (first t n i) ≡ true
unfolding first
first_passes t zero i l = absurd (omega arith)
first_passes t (suc n) i l =
    by_test (t i)
    (λ h. rw (T_true (t i) h) (T_true (t i) h))
    (λ h.
    let m : first t n (suc i) < i + suc n = rw (T_false (t i) h) at l in
    rw (T_false (t i) h) (first_passes t n (suc i) (omega arith)))

-- no place before the first that is occupied is counted
tally_skip : (s : Bytes) (n i : ℕ) → occupied_of s n i ≡ occupied_of s (i + n - first (is_held_at s) n i) (first (is_held_at s) n i)
unfolding first occupied_of
tally_skip s zero i = let e : i + 0 - i ≡ 0 = omega arith in rw e
tally_skip s (suc n) i =
    by_test (is_free_at s i)
    (λ h. let e : i + suc n ≡ suc i + n = omega arith in rw (T_true (is_free_at s i) h, e) (omega (arith, tally_skip s n (suc i))))
    (λ h. let e : i + suc n - i ≡ suc n = omega arith in rw (T_false (is_free_at s i) h, e) (rw (T_false (is_free_at s i) h)))

-- so many are before place `from`
pub record Tallied (s : Bytes) (from count : ℕ) : Type 0 where
  pub few : count ≤ from
  pub within : from ≤ 64
  pub so_far : count + occupied_of s (64 - from) from ≡ occupied_of s 64 0

pub tallied_none : (s : Bytes) → Tallied s 0 0
tallied_none s = record { few = omega arith; within = omega arith; so_far = omega arith }

-- none of those before the next that is occupied
tally_on : (s : Bytes) {from at : ℕ} → from ≤ 64 → at ≡ first_from (is_held_at s) from → occupied_of s (64 - from) from ≡ occupied_of s (64 - at) at
tally_on s {from} l a = let n : from + (64 - from) ≡ 64 = omega arith in tally_skip s (64 - from) from ∙ rw (n, ← a)

tally_one : (s : Bytes) (at : ℕ) → at < 64 → is_held_at s at ≡ true → occupied_of s (64 - at) at ≡ 1 + occupied_of s (64 - (at + 1)) (at + 1)
unfolding occupied_of
tally_one s at l h =
    let e : 64 - at ≡ suc (64 - (at + 1)) = omega arith in
    rw (e, not-true (is_free_at s at) h, add-one at)

module _ {s : Bytes} {from count at : ℕ} (k : Tallied s from count) (a : at ≡ first_from (is_held_at s) from) where
  pub next_after : from ≤ at
  next_after = omega (arith, first_after (is_held_at s) (64 - from) from)

  pub tallied_more : at < 64 → Tallied s (at + 1) (count + 1)
  tallied_more l =
      let w = k.within in
      let here : is_held_at s at ≡ true = rw a (first_passes (is_held_at s) (64 - from) from (omega (arith, a))) in
      record {
        few = omega (arith, k.few, next_after);
        within = omega arith;
        so_far = omega (arith, k.so_far, tally_on s w a, tally_one s at l here);
      }

pub tallied_all : {s : Bytes} {from count : ℕ} → Tallied s from count → first_from (is_held_at s) from ≡ 64 → count ≡ occupied_of s 64 0
unfolding occupied_of
tallied_all {s} k e = omega (arith, k.so_far, tally_on s k.within (sym e))

-- ---- all bytes are zeros: what was seen before i is in d

or_zero : (d c : ℕ) → eqb (bit_or d c) 0 ≡ (eqb d 0 && eqb c 0)
or_zero d c =
    by_test (eqb d 0)
    (λ t. rw (eqb→eq d 0 t, or_zero_l))
    (λ t. rw (T_false (eqb d 0) t) (ne_eqb (bit_or d c) 0 (λ z. T_not (eqb d 0) (yes_eqb (none_left (bit_or d c) (bit_and d c) d c (or_add_and d c) (and_le_r d c) z)) t)))
  where
    none_left : (o n a b : ℕ) → o + n ≡ a + b → n ≤ b → o ≡ 0 → a ≡ 0
    none_left o n a b e q z = omega arith

abbrev pub Zeros : Bytes → ℕ → ℕ → Type 0
Zeros s d i = every is_zero s ≡ (eqb d 0 && every is_zero (drop i s))

pub zeros_more : (s : Bytes) (d : ℕ) {i : ℕ} → Zeros s d i → i < length s → Zeros s (bit_or d (get_or s i 0)) (i + 1)
zeros_more s d {i} z l =
    let c = get_or s i 0 in
    let rest = every is_zero (drop (suc i) s) in
    let one : every is_zero (drop i s) ≡ (eqb c 0 && rest) = rw (drop-cons s i 0 l) in
    z ∙ ap (λ (r : Bool). eqb d 0 && r) one ∙ sym (and_assoc (eqb d 0) (eqb c 0) rest) ∙ rw (or_zero d c, add-one)

pub zeros_all : (s : Bytes) (d : ℕ) {i : ℕ} → Zeros s d i → length s ≤ i → eqb d 0 ≡ every is_zero s
zeros_all s d {i} z l = sym (z ∙ rw (drop_of_length-le s {i = i} l) (and-true (eqb d 0)))
