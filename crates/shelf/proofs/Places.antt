-- Laws of the places: what a change of one place does to look-ups, to distinctness and to the number of occupied places.
-- Assumes nothing.
use Prim.Native.Nat.{ℕ, zero, suc, ◌+◌, ◌≤◌, ◌<◌}
use mathlib.Core.Path.{◌≡◌, refl, sym, ap, ◌∙◌, subst}
use mathlib.Core.Logic.{◌≢◌}
use mathlib.Core.Bool.{Bool, true, false, not, cond, ◌&&◌}
use mathlib.Core.Option.{Option, none, some}
use mathlib.Core.List.{List, [], ◌∷◌}
use native.Mathlib.Omega.{arith}
use lib.ListN.{length, set, get_or}
use lib.Dec.{T}
use mir.Facts.{and_yes, yes_and}
use Rattle.text.specs.Text.{same}
use Rattle.text.proofs.Tests.{T_true, T_false, by_test, cond_yes, cond_no, same→eq, same_refl}
use Rattle.shelf.specs.Places.{Names, named, same_names, Held, Place, free, held, is_free, holds, contents, lookup, change, lowest, occupied, any_free, missing, alone, distinct}

-- ---- names

pub names_eq : (k l : Names) → T (same_names k l) → k ≡ l
names_eq (named a b c) (named x y z) t =
    let t' = and_yes (same a x) (same b y && same c z) t in
    let t'' = and_yes (same b y) (same c z) t'.1 in
    let e : a ≡ x = same→eq a x t'.0 in
    let f : b ≡ y = same→eq b y t''.0 in
    let g : c ≡ z = same→eq c z t''.1 in
    cc

pub names_refl : (k : Names) → T (same_names k k)
names_refl (named a b c) = yes_and (same a a) (same b b && same c c) (same_refl a) (yes_and (same b b) (same c c) (same_refl b) (same_refl c))

pub eq_names : (k l : Names) → k ≡ l → T (same_names k l)
eq_names k l e = subst (λ (x : Names). T (same_names k x)) e (names_refl k)

-- q holds nothing, or something of the names k
abbrev pub Only : Names → Place → Type 0
Only k free = Unit {0}
Only k (held h) = h.names ≡ k

-- two names that one place holds are one
pub holds_one : (k l : Names) (p : Place) → T (holds k p) → T (holds l p) → k ≡ l
holds_one k l free t u = absurd t
holds_one k l (held h) t u = names_eq k h.names t ∙ sym (names_eq l h.names u)

pub clash : {X : Type 0} (b : Bool) → T b → T (not b) → X
clash true t u = absurd u
clash false t u = absurd t

pub not_holds : (k l : Names) (p : Place) → T (holds k p) → T (not (same_names l k)) → T (not (holds l p))
not_holds k l p t u = by_test (holds l p) (λ v. clash (same_names l k) (eq_names l k (holds_one l k p v t)) u) (λ v. v)

pub missing_none : (o : Option Held) → T (missing o) → o ≡ none
missing_none none t = refl
missing_none (some h) t = absurd t

pub none_missing : (o : Option Held) → o ≡ none → T (missing o)
none_missing o e = rw e tt

-- where the names are held here, they are held nowhere behind
pub alone_none : (k : Names) (p : Place) (ps : List Place) → T (alone p ps) → T (holds k p) → lookup k ps ≡ none
alone_none k free ps a t = absurd t
alone_none k (held h) ps a t = rw (names_eq k h.names t) (missing_none (lookup h.names ps) a)

pub lookup_here : (k : Names) (p : Place) (ps : List Place) → T (holds k p) → lookup k (p ∷ ps) ≡ contents p
lookup_here k p ps t = cond_yes (holds k p) (contents p) (lookup k ps) t

pub lookup_there : (k : Names) (p : Place) (ps : List Place) → T (not (holds k p)) → lookup k (p ∷ ps) ≡ lookup k ps
lookup_there k p ps t = cond_no (holds k p) (contents p) (lookup k ps) t

-- a place that holds k has contents
pub holds_some : (k : Names) (p : Place) → T (holds k p) → contents p ≡ none → ⊥
holds_some k free t e = absurd t
holds_some k (held h) t e = let z : ◌≡◌ {A = ℕ} 0 1 = cc in omega arith

-- ---- the place that holds k becomes q

pub only_not : (k l : Names) (q : Place) → Only k q → T (not (same_names l k)) → T (not (holds l q))
only_not k l free o s = tt
only_not k l (held h) o s = by_test (same_names l h.names) (λ v. clash (same_names l k) (eq_names l k (names_eq l h.names v ∙ o)) s) (λ v. v)

pub only_lookup : (k : Names) (q : Place) (ps : List Place) → Only k q → lookup k ps ≡ none → lookup k (q ∷ ps) ≡ contents q
only_lookup k free ps o e = e
only_lookup k (held h) ps o e = lookup_here k (held h) ps (eq_names k h.names (sym o))

pub lookup_change_head : (k : Names) (q : Place) → Only k q → (l : Names) (p : Place) (ps : List Place) → T (alone p ps) → T (holds k p)
    → lookup l (q ∷ ps) ≡ cond (same_names l k) (contents q) (lookup l (p ∷ ps))
lookup_change_head k q o l p ps a t = by_test (same_names l k) yes_k no_k
  where
    yes_k : T (same_names l k) → lookup l (q ∷ ps) ≡ cond (same_names l k) (contents q) (lookup l (p ∷ ps))
    yes_k s =
        subst (λ (x : Names). lookup x (q ∷ ps) ≡ contents q) (sym (names_eq l k s)) (only_lookup k q ps o (alone_none k p ps a t))
        ∙ sym (cond_yes (same_names l k) (contents q) (lookup l (p ∷ ps)) s)

    no_k : T (not (same_names l k)) → lookup l (q ∷ ps) ≡ cond (same_names l k) (contents q) (lookup l (p ∷ ps))
    no_k s =
        lookup_there l q ps (only_not k l q o s)
        ∙ sym (lookup_there l p ps (not_holds k l p t s))
        ∙ sym (cond_no (same_names l k) (contents q) (lookup l (p ∷ ps)) s)

-- a place p that does not hold k, in front
pub lookup_change_tail : (k l : Names) (q p : Place) (ps qs : List Place) → T (not (holds k p))
    → lookup l qs ≡ cond (same_names l k) (contents q) (lookup l ps)
    → lookup l (p ∷ qs) ≡ cond (same_names l k) (contents q) (lookup l (p ∷ ps))
lookup_change_tail k l q p ps qs t e = by_test (same_names l k) yes_k no_k
  where
    yes_k : T (same_names l k) → lookup l (p ∷ qs) ≡ cond (same_names l k) (contents q) (lookup l (p ∷ ps))
    yes_k s =
        lookup_there l p qs (subst (λ (x : Names). T (not (holds x p))) (sym (names_eq l k s)) t)
        ∙ e
        ∙ cond_yes (same_names l k) (contents q) (lookup l ps) s
        ∙ sym (cond_yes (same_names l k) (contents q) (lookup l (p ∷ ps)) s)

    no_k : T (not (same_names l k)) → lookup l (p ∷ qs) ≡ cond (same_names l k) (contents q) (lookup l (p ∷ ps))
    no_k s =
        ap (λ (x : Option Held). cond (holds l p) (contents p) x) (e ∙ cond_no (same_names l k) (contents q) (lookup l ps) s)
        ∙ sym (cond_no (same_names l k) (contents q) (lookup l (p ∷ ps)) s)

pub lookup_change : (k : Names) (q : Place) → Only k q → (l : Names) (ps : List Place) → T (distinct ps) → lookup k ps ≢ none
    → lookup l (change (holds k) q ps) ≡ cond (same_names l k) (contents q) (lookup l ps)
lookup_change k q o l [] d n = absurd (n refl)
lookup_change k q o l (p ∷ ps) d n =
    by_test (holds k p)
    (λ t.
    rw (cond_yes (holds k p) (q ∷ ps) (p ∷ change (holds k) q ps) t)
    (lookup_change_head k q o l p ps (and_yes (alone p ps) (distinct ps) d).0 t))
    (λ t.
    rw (cond_no (holds k p) (q ∷ ps) (p ∷ change (holds k) q ps) t)
    (lookup_change_tail k l q p ps (change (holds k) q ps) t
    (lookup_change k q o l ps (and_yes (alone p ps) (distinct ps) d).1 (λ e. n (lookup_there k p ps t ∙ e)))))

pub none_not_holds : (k : Names) (p : Place) (ps : List Place) → lookup k (p ∷ ps) ≡ none → T (not (holds k p))
none_not_holds k p ps e = by_test (holds k p) (λ t. absurd (holds_some k p t (sym (lookup_here k p ps t) ∙ e))) (λ t. t)

-- the lowest free place becomes one that holds h
pub lookup_fill : (h : Held) (l : Names) (ps : List Place) → lookup h.names ps ≡ none → T (any_free ps)
    → lookup l (change is_free (held h) ps) ≡ cond (same_names l h.names) (some h) (lookup l ps)
lookup_fill h l [] e f = absurd f
lookup_fill h l (free ∷ ps) e f = refl
lookup_fill h l (held g ∷ ps) e f =
    lookup_change_tail h.names l (held h) (held g) ps (change is_free (held h) ps) (none_not_holds h.names (held g) ps e)
    (lookup_fill h l ps (sym (lookup_there h.names (held g) ps (none_not_holds h.names (held g) ps e)) ∙ e) f)

-- ---- distinctness

pub not_same_sym : (k l : Names) → T (not (same_names k l)) → T (not (same_names l k))
not_same_sym k l t = by_test (same_names l k) (λ u. clash (same_names k l) (eq_names k l (sym (names_eq l k u))) t) (λ u. u)

-- p, which does not hold k, stays alone where look-ups change at k only
pub alone_keep : (k : Names) (q p : Place) (ps qs : List Place) → T (not (holds k p)) → T (alone p ps)
    → ((l : Names) → lookup l qs ≡ cond (same_names l k) (contents q) (lookup l ps)) → T (alone p qs)
alone_keep k q free ps qs t a f = tt
alone_keep k q (held h) ps qs t a f =
    none_missing (lookup h.names qs)
    (f h.names
    ∙ cond_no (same_names h.names k) (contents q) (lookup h.names ps) (not_same_sym k h.names t)
    ∙ missing_none (lookup h.names ps) a)

pub only_alone : (k : Names) (q : Place) (ps : List Place) → Only k q → lookup k ps ≡ none → T (alone q ps)
only_alone k free ps o e = tt
only_alone k (held h) ps o e = none_missing (lookup h.names ps) (ap (λ (x : Names). lookup x ps) o ∙ e)

pub distinct_change : (k : Names) (q : Place) → Only k q → (ps : List Place) → T (distinct ps) → lookup k ps ≢ none
    → T (distinct (change (holds k) q ps))
distinct_change k q o [] d n = tt
distinct_change k q o (p ∷ ps) d n =
    let d' = and_yes (alone p ps) (distinct ps) d in
    by_test (holds k p)
    (λ t.
    rw (cond_yes (holds k p) (q ∷ ps) (p ∷ change (holds k) q ps) t)
    (yes_and (alone q ps) (distinct ps) (only_alone k q ps o (alone_none k p ps d'.0 t)) d'.1))
    (λ t.
    let n' : lookup k ps ≢ none = λ e. n (lookup_there k p ps t ∙ e) in
    rw (cond_no (holds k p) (q ∷ ps) (p ∷ change (holds k) q ps) t)
    (yes_and (alone p (change (holds k) q ps)) (distinct (change (holds k) q ps))
    (alone_keep k q p ps (change (holds k) q ps) t d'.0 (λ l. lookup_change k q o l ps d'.1 n'))
    (distinct_change k q o ps d'.1 n')))

pub distinct_fill : (h : Held) (ps : List Place) → T (distinct ps) → lookup h.names ps ≡ none → T (any_free ps)
    → T (distinct (change is_free (held h) ps))
distinct_fill h [] d e f = absurd f
distinct_fill h (free ∷ ps) d e f = yes_and (missing (lookup h.names ps)) (distinct ps) (none_missing (lookup h.names ps) e) d
distinct_fill h (held g ∷ ps) d e f =
    let d' = and_yes (missing (lookup g.names ps)) (distinct ps) d in
    let t = none_not_holds h.names (held g) ps e in
    let e' : lookup h.names ps ≡ none = sym (lookup_there h.names (held g) ps t) ∙ e in
    yes_and (alone (held g) (change is_free (held h) ps)) (distinct (change is_free (held h) ps))
    (alone_keep h.names (held h) (held g) ps (change is_free (held h) ps) t d'.0 (λ l. lookup_fill h l ps e' f))
    (distinct_fill h ps d'.1 e' f)

-- ---- the number of occupied places

pub occupied_fill : (h : Held) (ps : List Place) → T (any_free ps) → occupied (change is_free (held h) ps) ≡ suc (occupied ps)
occupied_fill h [] f = absurd f
occupied_fill h (free ∷ ps) f = omega arith
occupied_fill h (held g ∷ ps) f = let e = occupied_fill h ps f in omega arith

pub occupied_replace : (k : Names) (h : Held) (ps : List Place) → occupied (change (holds k) (held h) ps) ≡ occupied ps
occupied_replace k h [] = refl
occupied_replace k h (free ∷ ps) = ap (λ (x : ℕ). 0 + x) (occupied_replace k h ps)
occupied_replace k h (held g ∷ ps) =
    by_test (same_names k g.names)
    (λ t. rw (T_true (same_names k g.names) t))
    (λ t. rw (T_false (same_names k g.names) t) (ap (λ (x : ℕ). 1 + x) (occupied_replace k h ps)))

pub occupied_remove : (k : Names) (ps : List Place) → lookup k ps ≢ none → suc (occupied (change (holds k) free ps)) ≡ occupied ps
occupied_remove k [] n = absurd (n refl)
occupied_remove k (free ∷ ps) n = let e = occupied_remove k ps n in omega arith
occupied_remove k (held g ∷ ps) n =
    by_test (same_names k g.names)
    (λ t. rw (T_true (same_names k g.names) t) (omega arith))
    (λ t.
    let e = occupied_remove k ps (λ x. n (lookup_there k (held g) ps t ∙ x)) in
    rw (T_false (same_names k g.names) t) (omega arith))

pub length_change : (t : Place → Bool) (q : Place) (ps : List Place) → length (change t q ps) ≡ length ps
length_change t q [] = refl
length_change t q (p ∷ ps) =
    by_test (t p)
    (λ u. rw (cond_yes (t p) (q ∷ ps) (p ∷ change t q ps) u))
    (λ u. rw (cond_no (t p) (q ∷ ps) (p ∷ change t q ps) u) (ap suc (length_change t q ps)))

-- the change is the store at the lowest place that passes the test
pub change_set : (t : Place → Bool) (q : Place) (ps : List Place) → change t q ps ≡ set ps (lowest t ps) q
change_set t q [] = refl
change_set t q (p ∷ ps) =
    by_test (t p)
    (λ u. rw (T_true (t p) u))
    (λ u. rw (T_false (t p) u) (ap (λ (x : List Place). p ∷ x) (change_set t q ps)))

-- ---- the lowest place that passes a test

pub lookup_lowest : (k : Names) (ps : List Place) → lookup k ps ≡ contents (get_or ps (lowest (holds k) ps) free)
lookup_lowest k [] = refl
lookup_lowest k (p ∷ ps) =
    by_test (holds k p)
    (λ t. rw (T_true (holds k p) t))
    (λ t. rw (T_false (holds k p) t) (lookup_lowest k ps))

pub lowest_passes : (t : Place → Bool) (ps : List Place) → lowest t ps < length ps → T (t (get_or ps (lowest t ps) free))
lowest_passes t [] l = absurd (omega arith)
lowest_passes t (p ∷ ps) l =
    by_test (t p)
    (λ u. rw (T_true (t p) u) u)
    (λ u.
    let l' : suc (lowest t ps) < length (p ∷ ps) = subst (λ (b : Bool). cond b 0 (suc (lowest t ps)) < length (p ∷ ps)) (T_false (t p) u) l in
    rw (T_false (t p) u) (lowest_passes t ps (omega arith)))

pub lowest_most : (t : Place → Bool) (ps : List Place) → lowest t ps ≤ length ps
lowest_most t [] = omega arith
lowest_most t (p ∷ ps) =
    let h = lowest_most t ps in
    by_test (t p)
    (λ u. rw (T_true (t p) u) (omega arith))
    (λ u. rw (T_false (t p) u) (omega arith))

pub free_lowest : (ps : List Place) → lowest is_free ps < length ps → T (any_free ps)
free_lowest [] l = absurd (omega arith)
free_lowest (free ∷ ps) l = tt
free_lowest (held h ∷ ps) l = free_lowest ps (omega arith)

pub no_free_lowest : (ps : List Place) → length ps ≤ lowest is_free ps → T (not (any_free ps))
no_free_lowest [] l = tt
no_free_lowest (free ∷ ps) l = absurd (omega arith)
no_free_lowest (held h ∷ ps) l = no_free_lowest ps (omega arith)

pub lowest_there : (k : Names) (ps : List Place) (h : Held) → lookup k ps ≡ some h → lowest (holds k) ps < length ps
lowest_there k [] h e = let z : ◌≡◌ {A = ℕ} 0 1 = cc in absurd (omega arith)
lowest_there k (p ∷ ps) h e =
    by_test (holds k p)
    (λ t. rw (T_true (holds k p) t) (omega arith))
    (λ t. let i = lowest_there k ps h (sym (lookup_there k p ps t) ∙ e) in rw (T_false (holds k p) t) (omega arith))

-- ---- where a record stands

-- the names that place j holds are found at or before it
pub held_found : (j : ℕ) (ps : List Place) (h : Held) → j < length ps → get_or ps j free ≡ held h → lookup h.names ps ≢ none
held_found j [] h l e n = omega arith
held_found zero (p ∷ ps) h l e n =
    holds_some h.names p (rw e (names_refl h.names)) (sym (lookup_here h.names p ps (rw e (names_refl h.names))) ∙ n)
held_found (suc j) (p ∷ ps) h l e n =
    by_test (holds h.names p)
    (λ t. holds_some h.names p t (sym (lookup_here h.names p ps t) ∙ n))
    (λ t. held_found j ps h (omega arith) e (sym (lookup_there h.names p ps t) ∙ n))

-- what was found stands in a place
pub found-at : (k : Names) (ps : List Place) (h : Held) → lookup k ps ≡ some h → (j : ℕ) × (j < length ps) × (get_or ps j free ≡ held h) × (h.names ≡ k)
found-at k [] h e = let z : ◌≡◌ {A = ℕ} 0 1 = cc in absurd (omega arith)
found-at k (p ∷ ps) h e =
    by_test (holds k p)
    (λ t. (0, omega arith, this p t (sym (lookup_here k p ps t) ∙ e), its p t (sym (lookup_here k p ps t) ∙ e)))
    (λ t. let (j, l, g, n) = found-at k ps h (sym (lookup_there k p ps t) ∙ e) in (suc j, omega arith, g, n))
  where
    this : (q : Place) → T (holds k q) → contents q ≡ some h → q ≡ held h
    this free t f = absurd t
    this (held g) t f = let i : g ≡ h = cc in ap held i

    its : (q : Place) → T (holds k q) → contents q ≡ some h → h.names ≡ k
    its free t f = absurd t
    its (held g) t f = let i : g ≡ h = cc in ap (λ (x : Held). x.names) (sym i) ∙ sym (names_eq k g.names t)

-- each of the names stands in one place
abbrev pub Once : List Place → Type 0
Once ps = (i j : ℕ) (g h : Held) → i < length ps → j < length ps → get_or ps i free ≡ held g → get_or ps j free ≡ held h → g.names ≡ h.names → i ≡ j

alone_apart : (g h : Held) (j : ℕ) (ps : List Place) → T (alone (held g) ps) → j < length ps → get_or ps j free ≡ held h → g.names ≡ h.names → ⊥
alone_apart g h j ps a l e n = held_found j ps h l e (ap (λ (k : Names). lookup k ps) (sym n) ∙ missing_none (lookup g.names ps) a)

pub distinct_once : (ps : List Place) → T (distinct ps) → Once ps
distinct_once [] d i j g h a b x y n = absurd (omega arith)
distinct_once (p ∷ ps) d zero zero g h a b x y n = refl
distinct_once (p ∷ ps) d zero (suc j) g h a b x y n =
    absurd (alone_apart g h j ps (rw x at (and_yes (alone p ps) (distinct ps) d).0) (omega arith) y n)
distinct_once (p ∷ ps) d (suc i) zero g h a b x y n =
    absurd (alone_apart h g i ps (rw y at (and_yes (alone p ps) (distinct ps) d).0) (omega arith) x (sym n))
distinct_once (p ∷ ps) d (suc i) (suc j) g h a b x y n = ap suc (distinct_once ps (and_yes (alone p ps) (distinct ps) d).1 i j g h (omega arith) (omega arith) x y n)

pub once_distinct : (ps : List Place) → Once ps → T (distinct ps)
once_distinct [] o = tt
once_distinct (p ∷ ps) o =
    yes_and (alone p ps) (distinct ps) (first p refl)
    (once_distinct ps (λ i j g h a b x y n. let e = o (suc i) (suc j) g h (omega arith) (omega arith) x y n in omega arith))
  where
    first : (q : Place) → p ≡ q → T (alone q ps)
    first free e = tt
    first (held g) e =
        none_missing (lookup g.names ps)
        (go (lookup g.names ps) refl)
      where
        go : (x : Option Held) → lookup g.names ps ≡ x → lookup g.names ps ≡ none
        go none f = f
        go (some h) f =
            let (j, l, y, n) = found-at g.names ps h f in
            let z = o 0 (suc j) g h (omega arith) (omega arith) e y (sym n) in
            absurd (omega arith)

-- so what place j holds is what is found, and there
pub lookup_at : (j : ℕ) (ps : List Place) (h : Held) → T (distinct ps) → j < length ps → get_or ps j free ≡ held h → (lookup h.names ps ≡ some h) × (lowest (holds h.names) ps ≡ j)
lookup_at j ps h d l e =
    let m = lowest_found (lookup h.names ps) refl in
    let c = lookup_lowest h.names ps in
    (c ∙ ap (λ (i : ℕ). contents (get_or ps i free)) m ∙ ap contents e, m)
  where
    lowest_found : (x : Option Held) → lookup h.names ps ≡ x → lowest (holds h.names) ps ≡ j
    lowest_found none f = absurd (held_found j ps h l e f)
    lowest_found (some g) f =
        let (i, a, y, n) = found-at h.names ps g f in
        let low : lowest (holds h.names) ps < length ps = lowest_there h.names ps g f in
        let p = lowest_passes (holds h.names) ps low in
        at_lowest (get_or ps (lowest (holds h.names) ps) free) refl p low
      where
        at_lowest : (q : Place) → get_or ps (lowest (holds h.names) ps) free ≡ q → T (holds h.names q) → lowest (holds h.names) ps < length ps → lowest (holds h.names) ps ≡ j
        at_lowest free y t low = absurd t
        at_lowest (held r) y t low = distinct_once ps d (lowest (holds h.names) ps) j r h low l y e (sym (names_eq h.names r.names t))

-- ---- the lowest free place

pub lowest_free_at : (j : ℕ) (ps : List Place) → j < length ps → get_or ps j free ≡ free → ((i : ℕ) → i < j → (h : Held) × (get_or ps i free ≡ held h)) → lowest is_free ps ≡ j
lowest_free_at j [] l e f = absurd (omega arith)
lowest_free_at zero (p ∷ ps) l e f = rw e
lowest_free_at (suc j) (p ∷ ps) l e f =
    let (h, g) = f 0 (omega arith) in
    rw g (ap suc (lowest_free_at j ps (omega arith) e (λ i m. f (suc i) (omega arith))))
