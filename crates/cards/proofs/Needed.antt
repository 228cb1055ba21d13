-- One walk over keys that ascend finds every key that is needed, where these ascend too: each is looked for in its turn.
-- Assumes nothing.
use Prim.Native.Nat.{ℕ, zero, suc, ◌<◌}
use mathlib.Core.Path.{◌≡◌, refl, sym, ap, ◌∙◌}
use mathlib.Core.Bool.{Bool, true, false, cond, ◌&&◌, ◌||◌}
use mathlib.Core.List.{List, [], ◌∷◌}
use native.Mathlib.Omega.{arith}
use lib.ListN.{get_or}
use lib.Dec.{T, eqb, eqb→eq, ltb, ltb→lt, lt→ltb}
use mir.Facts.{and_yes, yes_and}
use borrow.Author.Tests.{eq-eqb, ne_eqb}
use Rattle.text.proofs.Tests.{by_test, T_true, T_false}
use Rattle.text.proofs.Order.{by_order}
use Rattle.format.specs.Attributes.{appendix_b}
use Rattle.std.proofs.Common.{Option as Maybe, Some}
use Rattle.cards.specs.Steps.{as_key, needed_in, following, needed_after}

-- what the second test says counts only where the first passes
pub and_alike : (a b c d : Bool) → a ≡ c → (T a → b ≡ d) → (a && b) ≡ (c && d)
and_alike true b c d e f = rw (← e) (f tt)
and_alike false b c d e f = rw (← e)

pub either_way : (b : Bool) (n : ℕ) → cond b n n ≡ n
either_way true n = refl
either_way false n = refl

-- ---- keys that ascend, the first of them behind b

abbrev pub ascend : ℕ → List ℕ → Bool
ascend b [] = true
ascend b (x ∷ xs) = ltb b x && ascend x xs

ascend_first : (b x : ℕ) (xs : List ℕ) → T (ascend b (x ∷ xs)) → (b < x) × T (ascend x xs)
ascend_first b x xs t = let t' = and_yes (ltb b x) (ascend x xs) t in (ltb→lt b x t'.0, t'.1)

ascend_on : (b x : ℕ) (xs : List ℕ) → b < x → T (ascend x xs) → T (ascend b (x ∷ xs))
ascend_on b x xs h t = yes_and (ltb b x) (ascend x xs) (lt→ltb b x h) t

-- keys behind x are behind what x is behind
ascend_more : (b x : ℕ) (xs : List ℕ) → b < x → T (ascend x xs) → T (ascend b xs)
ascend_more b x [] h t = tt
ascend_more b x (y ∷ ys) h t = let t' = ascend_first x y ys t in let l = t'.0 in ascend_on b y ys (omega arith) t'.1

-- ---- every key of ks is among xs

abbrev pub has_key : List ℕ → ℕ → Bool
has_key [] k = false
has_key (x ∷ xs) k = eqb x k || has_key xs k

abbrev pub has_keys : List ℕ → List ℕ → Bool
has_keys [] xs = true
has_keys (k ∷ ks) xs = has_key xs k && has_keys ks xs

-- a key that stands before all of xs is not among them
missing : (k : ℕ) (xs : List ℕ) → T (ascend k xs) → has_key xs k ≡ false
missing k [] t = refl
missing k (x ∷ xs) t =
    let t' = ascend_first k x xs t in
    let h = t'.0 in
    rw (ne_eqb x k (λ e. omega arith)) (missing k xs (ascend_more k x xs h t'.1))

-- x stands before all of ks, and is none of them
before_all : (x : ℕ) (ks xs : List ℕ) → T (ascend x ks) → has_keys ks (x ∷ xs) ≡ has_keys ks xs
before_all x [] xs t = refl
before_all x (k ∷ ks) xs t =
    let t' = ascend_first x k ks t in
    let h = t'.0 in
    rw (ne_eqb x k (λ e. omega arith), before_all x ks xs (ascend_more x k ks h t'.1))

-- k is passed: it is missing, whether x is one of the others or not
passed_by : (k x : ℕ) (ks xs : List ℕ) → k < x → T (ascend x xs) → has_keys (k ∷ ks) xs ≡ has_keys (k ∷ ks) (x ∷ xs)
passed_by k x ks xs h t =
    rw (ne_eqb x k (λ e. omega arith), missing k xs (ascend_more k x xs h t))

-- ---- the walk: behind the key b, and n is looked for

unfoldable pub walk : ℕ → ℕ → List ℕ → Bool
walk b n [] = eqb n 0
walk b n (x ∷ xs) = ltb b x && walk x (needed_after n x) xs

-- n is looked for first of ks, which are the last of those that are needed
data Turn : ℕ → List ℕ → Type 0 where
  done : Turn 0 []
  next : (k n : ℕ) (ks : List ℕ) → T (ascend 0 (k ∷ ks)) → following (needed_in appendix_b) k ≡ n → Turn n ks → Turn k (k ∷ ks)

another : (n x : ℕ) → (x ≡ n → ⊥) → needed_after n x ≡ n
unfolding needed_after
another n x h = rw (ne_eqb x n h)

this : (n x : ℕ) → x ≡ n → needed_after n x ≡ following (needed_in appendix_b) n
unfolding needed_after
this n x e = rw (eq-eqb x n e)

-- a turn of the walk, behind which it holds
turned : (x : ℕ) (xs : List ℕ) → 0 < x → ((n : ℕ) (ks : List ℕ) → Turn n ks → walk x n xs ≡ (ascend x xs && has_keys ks xs))
    → (n : ℕ) (ks : List ℕ) → Turn n ks → walk x (needed_after n x) xs ≡ (ascend x xs && has_keys ks (x ∷ xs))
turned x xs h on n ks done = rw (another 0 x (λ e. omega arith)) (on 0 [] done)
turned x xs h on n ks (next k m ls t e u) =
    let after-k = (ascend_first 0 k ls t).1 in
    by_order x k
    (λ l. rw (another k x (λ z. omega arith)) (on k (k ∷ ls) (next k m ls t e u)
    ∙ ap (λ (b : Bool). ascend x xs && b) (sym (before_all x (k ∷ ls) xs (ascend_on x k ls l after-k)))))
    (λ q. rw (this k x q, e) (on m ls u
    ∙ ap (λ (b : Bool). ascend x xs && b) (sym (rw (eq-eqb x k q) (before_all x ls xs (rw q after-k))))))
    (λ l. rw (another k x (λ z. omega arith)) (on k (k ∷ ls) (next k m ls t e u)
    ∙ and_alike (ascend x xs) (has_keys (k ∷ ls) xs) (ascend x xs) (has_keys (k ∷ ls) (x ∷ xs)) refl (passed_by k x ls xs l)))

walked : (xs : List ℕ) (b n : ℕ) (ks : List ℕ) → Turn n ks → walk b n xs ≡ (ascend b xs && has_keys ks xs)
unfolding walk
walked [] b n ks done = refl
walked [] b n ks (next k m ls t e u) = let h = (ascend_first 0 k ls t).0 in ne_eqb k 0 (λ z. omega arith)
walked (x ∷ xs) b n ks u =
    by_test (ltb b x)
    (λ t. let h = ltb→lt b x t in rw (T_true (ltb b x) t) (turned x xs (omega arith) (walked xs x) n ks u))
    (λ t. rw (T_false (ltb b x) t))

-- all that are needed, from the first on
all_turns : Turn (get_or (needed_in appendix_b) 0 0) (needed_in appendix_b)
all_turns =
    next _ _ _ tt refl (next _ _ _ tt refl (next _ _ _ tt refl (next _ _ _ tt refl (next _ _ _ tt refl (next _ _ _ tt refl (next _ _ _ tt refl done))))))

pub all_walked : (xs : List ℕ) → walk 0 (get_or (needed_in appendix_b) 0 0) xs ≡ (ascend 0 xs && has_keys (needed_in appendix_b) xs)
all_walked xs = walked xs 0 (get_or (needed_in appendix_b) 0 0) (needed_in appendix_b) all_turns

-- where the card is another one, the same is looked for
pub other_card : (n k : ℕ) (o : Maybe ℕ) → o ≡ as_key n → (o ≡ Some k → ⊥) → o ≡ as_key (needed_after n k)
unfolding needed_after
other_card n k o e h = by_test (eqb k n) (λ t. none n k (eqb→eq k n t) e h) (λ t. rw (T_false (eqb k n) t) e)
  where
    none : (n k : ℕ) → k ≡ n → o ≡ as_key n → (o ≡ Some k → ⊥) → o ≡ as_key (cond (eqb k n) (following (needed_in appendix_b) n) n)
    none zero k q e h = rw q e
    none (suc n) k q e h = absurd (h (e ∙ ap Some (sym q)))
