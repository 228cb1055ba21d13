-- Tests of lists as the library says them, and the numbers in digits.
-- Assumes nothing.
use Prim.Native.Nat.{ℕ, suc, ◌+◌, ◌-◌, ◌*◌, ◌≤◌, ◌<◌}
use mathlib.Core.Path.{◌≡◌, refl, sym, ap, ◌∙◌}
use mathlib.Core.Bool.{Bool, true, false, ◌&&◌, and-true, and-false, and_assoc}
use mathlib.Core.List.{[], ◌∷◌}
use mathlib.Core.Logic.{inl, inr}
use native.Mathlib.Omega.{arith}
use native.Mathlib.Numerals.{add-one}
use lib.ListN.{length, take, drop, get_or, drop_of_length-le, length-drop}
use lib.Seq.{drop-cons, take_all}
use lib.Dec.{T, eqb}
use mir.Facts.{and_yes}
use Rattle.std.specs.Borrow.{Bor}
use Rattle.std.specs.List.{list_all, zip}
use Rattle.std.specs.Option.{unwrap_or}
use Rattle.std.specs.Slice.{IsGetRangeResult}
use Rattle.std.proofs.Common.{Option, None, Some}
use Rattle.text.specs.Text.{Bytes, every, same, fits, looks, number, number_from, part, year}

-- the part from i to the end, as code takes it
pub rest_all : (s : Bytes) (i : ℕ) → take (length s - i) (drop i s) ≡ drop i s
rest_all s i = take_all (length s - i) (drop i s) (omega (arith, length-drop i s))

-- and as it takes it from a range that may not be there: nothing past the end
pub rest_got : (s : Bytes) {i : ℕ} (r : Option (Bor Bytes)) (d : Bor Bytes) → d.now ≡ [] → IsGetRangeResult s i (length s) r → (unwrap_or r d).now ≡ drop i s
rest_got s {i} None d z (inl h, there) = z ∙ sym (drop_of_length-le s {i = i} (omega arith))
rest_got s None d z (inr h, there) = absurd (omega arith)
rest_got s {i} (Some x) d z ((from, to, is, long), there) = is ∙ rest_all s i

-- ---- every byte

-- as the library says it
pub every_all : (p : ℕ → Bool) (s : Bytes) → list_all p s ≡ every p s
every_all p [] = refl
every_all p (c ∷ s) = ap (λ (b : Bool). p c && b) (every_all p s)

-- `all` says what holds of the bytes before place i, and what is left decides
module _ (p : ℕ → Bool) (s : Bytes) (i : ℕ) (all : Bool) (so : (all && every p (drop i s)) ≡ every p s) where
  pub every_on : i < length s → ((all && p (get_or s i 0)) && every p (drop (i + 1) s)) ≡ every p s
  every_on h = and_assoc all (p (get_or s i 0)) (every p (drop (i + 1) s)) ∙ ap (λ (b : Bool). all && b) (rw (drop-cons s i 0 h, add-one)) ∙ so

  pub every_end : length s ≤ i → all ≡ every p s
  every_end h = sym (and-true all) ∙ (rw (drop_of_length-le s h) at so)

-- ---- two lists, byte against byte: `same` and `looks` are such tests

-- f compares lists by p: byte against byte, and to the same end
pub record Pairwise (p : ℕ → ℕ → Bool) (f : Bytes → Bytes → Bool) : Type 0 where
  pub ends : f [] [] ≡ true
  pub short : (d : ℕ) (t : Bytes) → f [] (d ∷ t) ≡ false
  pub long : (c : ℕ) (s : Bytes) → f (c ∷ s) [] ≡ false
  pub both : (c d : ℕ) (s t : Bytes) → f (c ∷ s) (d ∷ t) ≡ (p c d && f s t)

pub same_pairwise : Pairwise eqb same
same_pairwise = record { ends = refl; short = λ d t. refl; long = λ c s. refl; both = λ c d s t. refl }

pub looks_pairwise : Pairwise fits looks
unfolding looks
looks_pairwise = record { ends = refl; short = λ d t. refl; long = λ c s. refl; both = λ c d s t. refl }

module _ (p : ℕ → ℕ → Bool) (f : Bytes → Bytes → Bool) (w : Pairwise p f) where
  pub apart : (a b : Bytes) → (length a ≡ length b → ⊥) → f a b ≡ false
  apart [] [] h = absurd (h refl)
  apart [] (y ∷ b) h = w.short y b
  apart (x ∷ a) [] h = w.long x a
  apart (x ∷ a) (y ∷ b) h = w.both x y a b ∙ rw (apart a b (λ (e : length a ≡ length b). h (rw e))) (and-false (p x y))

  pub pairwise_length : (a b : Bytes) → T (f a b) → length a ≡ length b
  pairwise_length [] [] t = refl
  pairwise_length [] (y ∷ b) t = absurd (rw (w.short y b) at t)
  pairwise_length (x ∷ a) [] t = absurd (rw (w.long x a) at t)
  pairwise_length (x ∷ a) (y ∷ b) t = ap suc (pairwise_length a b (and_yes (p x y) (f a b) (rw (w.both x y a b) at t)).1)

  -- of one length: each byte against the one at its place
  pub pairwise_zip : (a b : Bytes) → length a ≡ length b → list_all (λ (x : ℕ × ℕ). p x.0 x.1) (zip a b) ≡ f a b
  pairwise_zip [] [] e = sym w.ends
  pairwise_zip [] (y ∷ b) e = absurd (omega arith)
  pairwise_zip (x ∷ a) [] e = absurd (omega arith)
  pairwise_zip (x ∷ a) (y ∷ b) e = ap (λ (r : Bool). p x y && r) (pairwise_zip a b (omega arith)) ∙ sym (w.both x y a b)

-- ---- digits

pub number_two : (s : Bytes) (i : ℕ) → i + 2 ≤ length s → number (part i 2 s) ≡ 10 * (get_or s i 0 - 48) + (get_or s (i + 1) 0 - 48)
unfolding number_from
number_two s i h = rw (drop-cons s i 0 (omega arith), drop-cons s (suc i) 0 (omega arith), add-one) (omega arith)

pub year_twice : (s : Bytes) → 4 ≤ length s → year s ≡ 100 * number (part 0 2 s) + number (part 2 2 s)
unfolding number_from
year_twice [] h = absurd (omega arith)
year_twice (a ∷ []) h = absurd (omega arith)
year_twice (a ∷ b ∷ []) h = absurd (omega arith)
year_twice (a ∷ b ∷ c ∷ []) h = absurd (omega arith)
year_twice (a ∷ b ∷ c ∷ d ∷ s) h = omega arith

pub three_digits : (s : Bytes) → length s ≡ 3 → number s ≡ number (get_or s 0 0 ∷ get_or s 1 0 ∷ get_or s 2 0 ∷ [])
three_digits [] h = absurd (omega arith)
three_digits (a ∷ []) h = absurd (omega arith)
three_digits (a ∷ b ∷ []) h = absurd (omega arith)
three_digits (a ∷ b ∷ c ∷ []) h = refl
three_digits (a ∷ b ∷ c ∷ d ∷ s) h = absurd (omega arith)
