-- The loops of a hash, turn by turn as the code makes them, and words that are written one by one into an array.
-- Assumes nothing.
use Prim.Native.Nat.{ℕ, zero, suc, ◌+◌, ◌≤◌, ◌<◌}
use mathlib.Core.Path.{◌≡◌, refl, sym, ap, ◌∙◌}
use mathlib.Core.List.{List, [], ◌∷◌, ◌++◌}
use native.Mathlib.Omega.{arith}
use native.Mathlib.Nat.{add-zero, add-suc}
use native.Mathlib.Numerals.{add-one}
use lib.ListN.{length, take, set, length-set}
use lib.Seq.{take-suc-set, take_all}
use Rattle.hashing.specs.Turns.{turns, grown}

-- ---- turns

module _ {A : Type 0} (turn : A → ℕ → A) (v : A) where
  -- one more
  pub turns_more : (n : ℕ) {u r : A} → u ≡ turns turn v n → r ≡ turn u n → r ≡ turns turn v (n + 1)
  unfolding turns
  turns_more n e h = rw (add-one n, ← e) h

  -- four more
  pub turns_four : (n : ℕ) {u u₁ u₂ u₃ u₄ : A} → u ≡ turns turn v n
      → u₁ ≡ turn u n → u₂ ≡ turn u₁ (n + 1) → u₃ ≡ turn u₂ (n + 2) → u₄ ≡ turn u₃ (n + 3) → u₄ ≡ turns turn v (n + 4)
  turns_four n e e₁ e₂ e₃ e₄ =
      let s₂ : n + 1 + 1 ≡ n + 2 = omega arith in
      let s₃ : n + 2 + 1 ≡ n + 3 = omega arith in
      let s₄ : n + 3 + 1 ≡ n + 4 = omega arith in
      let r₁ = turns_more n e e₁ in
      let r₂ = turns_more (n + 1) r₁ e₂ ∙ ap (turns turn v) s₂ in
      let r₃ = turns_more (n + 2) r₂ e₃ ∙ ap (turns turn v) s₃ in
      turns_more (n + 3) r₃ e₄ ∙ ap (turns turn v) s₄

  -- the first q, and then n more
  pub turns_then : (q n : ℕ) → turns turn v (q + n) ≡ turns (λ u i. turn u (q + i)) (turns turn v q) n
  unfolding turns
  turns_then q zero = rw add-zero
  turns_then q (suc n) = rw add-suc (ap (λ (u : A). turn u (q + n)) (turns_then q n))

-- the same by other words
pub turns_same : {A : Type 0} (f g : A → ℕ → A) (v : A) (n : ℕ) → ((u : A) (i : ℕ) → i < n → f u i ≡ g u i) → turns f v n ≡ turns g v n
unfolding turns
turns_same f g v zero h = refl
turns_same {A} f g v (suc n) h = h (turns f v n) n (omega arith) ∙ ap (λ (u : A). g u n) (turns_same f g v n (λ u i l. h u i (omega arith)))

-- ---- the eighty words of a schedule

-- the first t of the 80 places of w hold the list l
pub record Filled (l w : List ℕ) (t : ℕ) : Type 0 where
  pub room : t ≤ 80
  pub whole : length w ≡ 80
  pub front : take t w ≡ l

pub filled_all : {l w : List ℕ} {t : ℕ} → Filled l w t → t ≡ 80 → w ≡ l
filled_all {l} {w} {t} f e = sym (take_all t w (omega (arith, f.whole))) ∙ f.front

module _ (next : List ℕ → ℕ → ℕ) (l : List ℕ) where
  -- one more
  pub grown_step : {w : List ℕ} {n t x : ℕ} → Filled (grown next l n) w t → t < 80 → x ≡ next (grown next l n) n → Filled (grown next l (n + 1)) (set w t x) (t + 1)
  unfolding grown turns
  grown_step {w} {n} {t} {x} f h e = record {
    room = omega arith;
    whole = length-set w t x ∙ f.whole;
    front = rw (add-one t, add-one n, ← e) (take-suc-set w t x (omega arith) ∙ ap (λ (z : List ℕ). z ++ x ∷ []) f.front);
  }

  -- the word after the first 16 + n, which is made of words that stand before it
  pub schedule_step : ((w : List ℕ) (n : ℕ) → next w n ≡ next (take (n + 16) w) n)
      → {w : List ℕ} {n x : ℕ} → Filled (grown next l n) w (n + 16) → n < 64 → x ≡ next w n → Filled (grown next l (n + 1)) (set w (n + 16) x) (n + 1 + 16)
  schedule_step front {w} {n} {x} f h e =
      let p : n + 1 + 16 ≡ n + 16 + 1 = omega arith in
      rw p (grown_step f (omega arith) (e ∙ front w n ∙ ap (λ (z : List ℕ). next z n) f.front))
