-- Tests in a row: the first that decides.
-- Assumes nothing.
use Prim.Native.Nat.{ℕ, zero, suc, ◌≤◌, ◌<◌}
use mathlib.Core.Path.{◌≡◌, refl, sym, ap₂, subst}
use mathlib.Core.Logic.{◌≢◌, ⊎_elim}
use mathlib.Core.Bool.{Bool, true, false, not, cond, ◌&&◌, ◌||◌}
use mathlib.Core.List.{List, [], ◌∷◌, ◌++◌, map}
use native.Mathlib.Nat.{le_of_suc-le-suc, not-suc-le-zero}
use native.Mathlib.Omega.{arith}
use lib.ListN.{length, get_or}
use lib.Dec.{T, not_T, leb, ltb, eqb, leb→le, ltb→lt, nltb→le, eqb→eq, eqb_refl}
use mir.Facts.{and_yes, yes_and, or_yes}
use Rattle.text.specs.Text.{Bytes, every, all_of, same, between, one_of}

pub or_stop : (a b : Bool) → a ≡ true → (a || b) ≡ true
or_stop a b e = rw e

pub or_on : (a b : Bool) → a ≡ false → (a || b) ≡ b
or_on a b e = rw e

pub and_stop : (a b : Bool) → a ≡ false → (a && b) ≡ false
and_stop a b e = rw e

pub and_on : (a b : Bool) → a ≡ true → (a && b) ≡ b
and_on a b e = rw e

pub T_true : (b : Bool) → T b → b ≡ true
T_true true t = refl
T_true false t = absurd t

pub true_T : (b : Bool) → b ≡ true → T b
true_T b e = rw e tt

pub T_false : (b : Bool) → T (not b) → b ≡ false
T_false true t = absurd t
T_false false t = refl

pub or_left : (a b : Bool) → T a → T (a || b)
or_left true b t = tt
or_left false b t = absurd t

pub or_right : (a b : Bool) → T b → T (a || b)
or_right true b t = tt
or_right false b t = t

pub cond_yes {ℓ} : {X : Type ℓ} (b : Bool) (x y : X) → T b → cond b x y ≡ x
cond_yes true x y t = refl
cond_yes false x y t = absurd t

pub cond_no {ℓ} : {X : Type ℓ} (b : Bool) (x y : X) → T (not b) → cond b x y ≡ y
cond_no true x y t = absurd t
cond_no false x y t = refl

pub by_test {ℓ} : {X : Type ℓ} (b : Bool) → (T b → X) → (T (not b) → X) → X
by_test true f g = f tt
by_test false f g = g tt

pub less_or {ℓ} : {X : Type ℓ} (a b : ℕ) → (a < b → X) → (b ≤ a → X) → X
less_or a b f g = by_test (ltb a b) (λ h. f (ltb→lt a b h)) (λ h. g (nltb→le a b h))

pub between_low : (low high n : ℕ) → T (between low high n) → low ≤ n
between_low low high n t = leb→le low n (and_yes (leb low n) (leb n high) t).0

pub between_high : (low high n : ℕ) → T (between low high n) → n ≤ high
between_high low high n t = leb→le n high (and_yes (leb low n) (leb n high) t).1

pub every_mono : (p q : ℕ → Bool) → ((c : ℕ) → T (p c) → T (q c)) → (s : Bytes) → T (every p s) → T (every q s)
every_mono p q f [] h = tt
every_mono p q f (c ∷ s) h =
    let h' = and_yes (p c) (every p s) h in
    yes_and (q c) (every q s) (f c h'.0) (every_mono p q f s h'.1)

pub one-of : (p : ℕ → Bool) (ds : Bytes) → T (every p ds) → (c : ℕ) → T (one_of ds c) → T (p c)
one-of p [] h c t = absurd t
one-of p (d ∷ ds) h c t =
    let h' = and_yes (p d) (every p ds) h in
    ⊎_elim (λ e. subst (λ (x : ℕ). T (p x)) (sym (eqb→eq c d e)) h'.0) (one-of p ds h'.1 c) (or_yes (eqb c d) (one_of ds c) t)

pub every_append : (p : ℕ → Bool) (s t : Bytes) → T (every p s) → T (every p t) → T (every p (s ++ t))
every_append p [] t hs ht = ht
every_append p (c ∷ s) t hs ht =
    let h = and_yes (p c) (every p s) hs in
    yes_and (p c) (every p (s ++ t)) h.0 (every_append p s t h.1 ht)

pub every_parts : (p : ℕ → Bool) (s t : Bytes) → T (every p (s ++ t)) → T (every p s) × T (every p t)
every_parts p [] t h = (tt, h)
every_parts p (c ∷ s) t h =
    let h' = and_yes (p c) (every p (s ++ t)) h in
    let i = every_parts p s t h'.1 in
    (yes_and (p c) (every p s) h'.0 i.0, i.1)

-- ---- two texts

pub same→eq : (s t : Bytes) → T (same s t) → s ≡ t
same→eq [] [] h = refl
same→eq [] (d ∷ t) h = absurd h
same→eq (c ∷ s) [] h = absurd h
same→eq (c ∷ s) (d ∷ t) h =
    let h' = and_yes (eqb c d) (same s t) h in
    ap₂ {C = Bytes} (λ x r. x ∷ r) (eqb→eq c d h'.0) (same→eq s t h'.1)

pub same_refl : (s : Bytes) → T (same s s)
same_refl [] = tt
same_refl (c ∷ s) = yes_and (eqb c c) (same s s) (eqb_refl c) (same_refl s)

pub same_true : (s t : Bytes) → s ≡ t → same s t ≡ true
same_true s t e = T_true (same s t) (rw e (same_refl t))

pub same_false : (s t : Bytes) → s ≢ t → same s t ≡ false
same_false s t n = T_false (same s t) (not_T (same s t) (λ h. n (same→eq s t h)))

-- of two parts each, the first of one length
pub same_append : (a b c d : Bytes) → length a ≡ length c → same (a ++ b) (c ++ d) ≡ (same a c && same b d)
same_append [] b [] d e = refl
same_append [] b (y ∷ c) d e = absurd (omega arith)
same_append (x ∷ a) b [] d e = absurd (omega arith)
same_append (x ∷ a) b (y ∷ c) d e = rw (same_append a b c d (omega arith)) (go (eqb x y))
  where
    go : (q : Bool) → (q && (same a c && same b d)) ≡ ((q && same a c) && same b d)
    go true = refl
    go false = refl

-- ---- a test of every entry of a list, computed, and of what stands for an entry that is not there

pub at_every : {A : Type 0} (p : A → Bool) (d : A) → T (p d) → (xs : List A) → T (all_of (map p xs)) → (i : ℕ) → T (p (get_or xs i d))
at_every p d u [] t i = u
at_every p d u (x ∷ xs) t zero = (and_yes (p x) (all_of (map p xs)) t).0
at_every p d u (x ∷ xs) t (suc i) = at_every p d u xs (and_yes (p x) (all_of (map p xs)) t).1 i

-- ---- a test of all numbers below k, computed

unfoldable pub all_below : ℕ → (ℕ → Bool) → Bool
all_below zero p = true
all_below (suc k) p = p zero && all_below k (λ n. p (suc n))

pub below : (k : ℕ) (p : ℕ → Bool) → T (all_below k p) → (n : ℕ) → n < k → T (p n)
unfolding all_below
below zero p t n h = absurd (not-suc-le-zero h)
below (suc k) p t zero h = (and_yes (p zero) (all_below k (λ n. p (suc n))) t).0
below (suc k) p t (suc n) h = below k (λ m. p (suc m)) (and_yes (p zero) (all_below k (λ m. p (suc m))) t).1 n (le_of_suc-le-suc h)
