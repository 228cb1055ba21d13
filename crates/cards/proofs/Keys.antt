-- A name of three letters or digits as one number, its key: names are the same where their keys are, and ascend where their keys do.
-- Assumes nothing.
use Prim.Native.Nat.{ℕ, zero, suc, ◌≤◌, ◌<◌}
use mathlib.Core.Path.{◌≡◌, refl, sym, ap, ◌∙◌}
use mathlib.Core.Logic.{⊎_elim}
use mathlib.Core.Bool.{Bool, true, false, not, ◌&&◌, ◌||◌}
use mathlib.Core.List.{List, [], ◌∷◌, map}
use native.Mathlib.Omega.{arith}
use lib.Dec.{T, T_not, eqb, eqb→eq, ltb}
use mir.Facts.{and_yes, or_yes}
use borrow.Author.Tests.{eq-eqb, ne_eqb, lt-ltb, le-ltb}
use Rattle.text.specs.Text.{Bytes, between, every, all_of, same, after, decimal, alphanumeric, is_alphanumeric}
use Rattle.text.proofs.Tests.{by_test, T_true, T_false, between_low, between_high, same→eq, same_refl}
use Rattle.text.proofs.Types.{alphanumeric_length}
use Rattle.text.proofs.Order.{by_order, after_less, after_equal, after_more, after_neither}
use Rattle.format.specs.Attributes.{Row, holds}
use Rattle.std.proofs.Common.{Option as Maybe, Some, None}
use Rattle.std.specs.Option.{is_some, option_eq}
use Rattle.cards.specs.Steps.{key_of, as_key, holds_at}

-- ---- three characters, each of them a byte, and the first not 0

pub data Name : Bytes → Type 0 where
  name : (a b c : ℕ) → 0 < a → a < 256 → b < 256 → c < 256 → Name (a ∷ b ∷ c ∷ [])

module _ (c : ℕ) where
  within : (low high : ℕ) → 0 < low → high < 256 → T (between low high c) → (0 < c) × (c < 256)
  within low high l h t = let x = between_low low high c t in let y = between_high low high c t in (omega arith, omega arith)

  is_byte : T (alphanumeric c) → (0 < c) × (c < 256)
  is_byte t =
      ⊎_elim (within 48 57 (omega arith) (omega arith))
      (λ u. ⊎_elim (within 65 90 (omega arith) (omega arith)) (within 97 122 (omega arith) (omega arith)) (or_yes (between 65 90 c) (between 97 122 c) u))
      (or_yes (decimal c) (between 65 90 c || between 97 122 c) t)

letters : (a b c : ℕ) → T (every alphanumeric (a ∷ b ∷ c ∷ [])) → Name (a ∷ b ∷ c ∷ [])
letters a b c t =
    let t₁ = and_yes (alphanumeric a) (alphanumeric b && (alphanumeric c && true)) t in
    let t₂ = and_yes (alphanumeric b) (alphanumeric c && true) t₁.1 in
    let t₃ = and_yes (alphanumeric c) true t₂.1 in
    name a b c (is_byte a t₁.0).0 (is_byte a t₁.0).1 (is_byte b t₂.0).1 (is_byte c t₃.0).1

pub is_name : (n : Bytes) → T (is_alphanumeric 3 n) → Name n
unfolding is_alphanumeric
is_name [] t = absurd t
is_name (a ∷ []) t = absurd t
is_name (a ∷ b ∷ []) t = absurd t
is_name (a ∷ b ∷ c ∷ []) t = letters a b c t
is_name (a ∷ b ∷ c ∷ d ∷ n) t = absurd (omega (arith, alphanumeric_length 3 (a ∷ b ∷ c ∷ d ∷ n) t))

-- ---- names by their keys

pub after_key : {n m : Bytes} → Name n → Name m → after n m ≡ ltb (key_of m) (key_of n)
after_key (name a b c a₀ a₁ b₁ c₁) (name x y z x₀ x₁ y₁ z₁) =
    by_order a x
    (λ h. after_less a x (b ∷ c ∷ []) (y ∷ z ∷ []) h ∙ not_behind (omega arith))
    (λ d. after_equal a x (b ∷ c ∷ []) (y ∷ z ∷ []) d ∙ by_order b y
    (λ h. after_less b y (c ∷ []) (z ∷ []) h ∙ not_behind (omega arith))
    (λ e. after_equal b y (c ∷ []) (z ∷ []) e ∙ by_order c z
    (λ h. after_less c z [] [] h ∙ not_behind (omega arith))
    (λ f. after_equal c z [] [] f ∙ not_behind (omega arith))
    (λ h. after_more c z [] [] h ∙ behind (omega arith)))
    (λ h. after_more b y (c ∷ []) (z ∷ []) h ∙ behind (omega arith)))
    (λ h. after_more a x (b ∷ c ∷ []) (y ∷ z ∷ []) h ∙ behind (omega arith))
  where
    behind : key_of (x ∷ y ∷ z ∷ []) < key_of (a ∷ b ∷ c ∷ []) → true ≡ ltb (key_of (x ∷ y ∷ z ∷ [])) (key_of (a ∷ b ∷ c ∷ []))
    behind h = sym (lt-ltb (key_of (x ∷ y ∷ z ∷ [])) (key_of (a ∷ b ∷ c ∷ [])) h)

    not_behind : key_of (a ∷ b ∷ c ∷ []) ≤ key_of (x ∷ y ∷ z ∷ []) → false ≡ ltb (key_of (x ∷ y ∷ z ∷ [])) (key_of (a ∷ b ∷ c ∷ []))
    not_behind h = sym (le-ltb (key_of (x ∷ y ∷ z ∷ [])) (key_of (a ∷ b ∷ c ∷ [])) h)

-- before the first card stands the empty name
pub after_none : {n : Bytes} → Name n → after n [] ≡ ltb 0 (key_of n)
after_none (name a b c a₀ a₁ b₁ c₁) = sym (lt-ltb 0 (key_of (a ∷ b ∷ c ∷ [])) (omega arith))

pub same_key : (n m : Bytes) → Name n → Name m → same n m ≡ eqb (key_of n) (key_of m)
same_key n m p q =
    by_test (same n m)
    (λ t. T_true (same n m) t ∙ sym (eq-eqb (key_of n) (key_of m) (ap key_of (same→eq n m t))))
    (λ t. T_false (same n m) t ∙ sym (ne_eqb (key_of n) (key_of m) (λ e. T_not (same n m) t (rw (equal e) (same_refl m)))))
  where
    equal : key_of n ≡ key_of m → n ≡ m
    equal e =
        after_neither n m (after_key p q ∙ le-ltb (key_of m) (key_of n) (omega arith)) (after_key q p ∙ le-ltb (key_of n) (key_of m) (omega arith))

-- ---- what rows say, by the name's key

-- the names of the rows are such names
abbrev pub AllNamed : List Row → Type 0
AllNamed rs = T (all_of (map (λ (r : Row). is_alphanumeric 3 r.name) rs))

pub first_named : (r : Row) (rs : List Row) → AllNamed (r ∷ rs) → Name r.name × AllNamed rs
first_named r rs a =
    let a' = and_yes (is_alphanumeric 3 r.name) (all_of (map (λ (r : Row). is_alphanumeric 3 r.name) rs)) a in
    (is_name r.name a'.0, a'.1)

pub holds_key : (rs : List Row) → AllNamed rs → (n v : Bytes) → Name n → holds rs n v ≡ holds_at rs (key_of n) v
holds_key [] a n v p = refl
holds_key (r ∷ rs) a n v p =
    let a' = first_named r rs a in
    rw (same_key n r.name p a'.0, holds_key rs a'.1 n v p)

-- ---- keys as the code has them

pub name_above : {n : Bytes} → Name n → 0 < key_of n
name_above (name a b c a₀ a₁ b₁ c₁) = omega arith

pub some_key : (k n : ℕ) → 0 < k → n ≡ k → Some k ≡ as_key n
some_key zero n h e = absurd (omega arith)
some_key (suc k) n h e = rw e

pub some_back : (k n : ℕ) → Some k ≡ as_key n → k ≡ n
some_back k zero e = absurd (cc)
some_back k (suc n) e = cc

pub none_back : (n : ℕ) → None ≡ as_key n → n ≡ 0
none_back zero e = refl
none_back (suc n) e = absurd (cc)

pub none_told : (n : ℕ) (o : Maybe ℕ) (r : Bool) → o ≡ as_key n → is_some o ≡ not r → r ≡ eqb n 0
none_told zero o true e t = refl
none_told zero o false e t = let f = rw e at t in absurd (cc)
none_told (suc n) o true e t = let f = rw e at t in absurd (cc)
none_told (suc n) o false e t = sym (ne_eqb (suc n) 0 (λ q. omega arith))

-- what a comparison of a key with another says
pub told_apart : (o : Maybe ℕ) (k : ℕ) → not (option_eq eqb o (Some k)) ≡ true → o ≡ Some k → ⊥
told_apart None k t q = cc
told_apart (Some x) k t q = let e : x ≡ k = cc in let f = rw (eq-eqb x k e) at t in cc

told_same : (o : Maybe ℕ) (k : ℕ) → not (option_eq eqb o (Some k)) ≡ false → o ≡ Some k
told_same None k t = absurd (cc)
told_same (Some x) k t = by_test (eqb x k) (λ u. ap Some (eqb→eq x k u)) (λ u. let f = rw (T_false (eqb x k) u) at t in absurd (cc))

pub same_told : (n k : ℕ) (o : Maybe ℕ) → o ≡ as_key n → not (option_eq eqb o (Some k)) ≡ false → k ≡ n
same_told n k o e t = some_back k n (sym (told_same o k t) ∙ e)
