-- The order of lists in which the first part that differs decides: two lists compare one way at most, and lists that compare
-- neither way are equal.
-- Assumes nothing.
use Prim.Native.Nat.{ℕ, ◌<◌}
use mathlib.Core.Path.{◌≡◌, refl, sym, ap₂, ◌∙◌}
use mathlib.Core.Bool.{true, false, true≢false, false≢true}
use mathlib.Core.List.{List, [], ◌∷◌}
use native.Mathlib.Omega.{arith}
use borrow.Author.Tests.{lt-ltb, le-ltb, eq-eqb, ne_eqb}
use Rattle.text.specs.Text.{after}
use Rattle.text.proofs.Tests.{less_or}

pub by_order {ℓ} : {X : Type ℓ} (x y : ℕ) → (x < y → X) → (x ≡ y → X) → (y < x → X) → X
by_order x y f g h = less_or x y f (λ l. less_or y x h (λ k. g (omega arith)))

-- ---- the first part

module _ (x y : ℕ) (xs ys : List ℕ) where
  pub after_less : x < y → after (x ∷ xs) (y ∷ ys) ≡ false
  after_less h = rw (le-ltb y x (omega arith), ne_eqb x y (λ e. omega arith))

  pub after_equal : x ≡ y → after (x ∷ xs) (y ∷ ys) ≡ after xs ys
  after_equal e = rw (le-ltb y x (omega arith), eq-eqb x y e)

  pub after_more : y < x → after (x ∷ xs) (y ∷ ys) ≡ true
  after_more h = rw (lt-ltb y x h)

-- ---- the order

pub after_itself : (xs : List ℕ) → after xs xs ≡ false
after_itself [] = refl
after_itself (x ∷ xs) = after_equal x x xs xs refl ∙ after_itself xs

pub after_one_way : (xs ys : List ℕ) → after xs ys ≡ true → after ys xs ≡ false
after_one_way [] ys h = absurd (false≢true h)
after_one_way (x ∷ xs) [] h = refl
after_one_way (x ∷ xs) (y ∷ ys) h =
    by_order x y
    (λ l. absurd (true≢false (sym h ∙ after_less x y xs ys l)))
    (λ e. after_equal y x ys xs (sym e) ∙ after_one_way xs ys (sym (after_equal x y xs ys e) ∙ h))
    (after_less y x ys xs)

pub after_neither : (xs ys : List ℕ) → after xs ys ≡ false → after ys xs ≡ false → xs ≡ ys
after_neither [] [] h k = refl
after_neither [] (y ∷ ys) h k = absurd (true≢false k)
after_neither (x ∷ xs) [] h k = absurd (true≢false h)
after_neither (x ∷ xs) (y ∷ ys) h k =
    by_order x y
    (λ l. absurd (true≢false (sym (after_more y x ys xs l) ∙ k)))
    (λ e. ap₂ {C = List ℕ} (λ z zs. z ∷ zs) e
    (after_neither xs ys (sym (after_equal x y xs ys e) ∙ h) (sym (after_equal y x ys xs (sym e)) ∙ k)))
    (λ l. absurd (true≢false (sym (after_more x y xs ys l) ∙ h)))
