-- The places of a cabinet, one by one: what the code finds by their bytes is what the definitions say of them.
-- Assumes nothing.
use Prim.Native.Nat.{ℕ, zero, suc, ◌+◌, ◌-◌, ◌*◌, ◌≤◌, ◌<◌}
use mathlib.Core.Path.{◌≡◌, refl, sym, ap, ap₂, ◌∙◌}
use mathlib.Core.Bool.{Bool, false, not, cond}
use mathlib.Core.Option.{Option, none, some}
use mathlib.Core.List.{List, [], ◌∷◌}
use native.Mathlib.Omega.{arith}
use native.Mathlib.Nat.{suc-mul, zero-mul, zero-add, add_comm}
use lib.ListN.{length, take, drop, get_or}
use lib.Seq.{drop-drop}
use lib.Dec.{eqb, eqb→eq}
use mir.Facts.{T_not, yes_eqb}
use borrow.Author.Tests.{eq-eqb, ne_eqb}
use Rattle.text.specs.Text.{Bytes}
use Rattle.text.proofs.Tests.{T_true, T_false, by_test}
use Rattle.shelf.specs.Places.{Names, Place, free, held, holds, lookup, lowest, missing, alone, distinct}
use Rattle.shelf.specs.Cabinet.{decode, decode_all, parts, both}
use Rattle.shelf.proofs.Images.{both_some}
use Rattle.cabinet.specs.Steps.{is_place, is_some, part_at, first, is_place_at}

-- ---- the first that passes a test

pub first_shift : (t : ℕ → Bool) (n i : ℕ) → first t n (suc i) ≡ suc (first (λ j. t (suc j)) n i)
unfolding first
first_shift t zero i = refl
first_shift t (suc n) i =
    by_test (t (suc i))
    (λ h. rw (T_true (t (suc i)) h))
    (λ h. rw (T_false (t (suc i)) h) (first_shift t n (suc i)))

pub first_same : (t u : ℕ → Bool) (n i : ℕ) → ((j : ℕ) → i ≤ j → j < i + n → t j ≡ u j) → first t n i ≡ first u n i
unfolding first
first_same t u zero i h = refl
first_same t u (suc n) i h = ap₂ (λ (b : Bool) (x : ℕ). cond b i x) (h i (omega arith) (omega arith)) (first_same t u n (suc i) (λ j a b. h j (omega arith) (omega arith)))

pub first_none : (t : ℕ → Bool) (n i : ℕ) → ((j : ℕ) → i ≤ j → j < i + n → t j ≡ false) → first t n i ≡ i + n
unfolding first
first_none t zero i h = omega arith
first_none t (suc n) i h = rw (h i (omega arith) (omega arith)) (first_none t n (suc i) (λ j a b. h j (omega arith) (omega arith)) ∙ omega arith)

eqb_suc : (a b : ℕ) → eqb (suc a) (suc b) ≡ eqb a b
eqb_suc a b =
    by_test (eqb a b)
    (λ h. rw (T_true (eqb a b) h) (eq-eqb (suc a) (suc b) (ap suc (eqb→eq a b h))))
    (λ h. rw (T_false (eqb a b) h) (ne_eqb (suc a) (suc b) (λ e. let f : a ≡ b = omega arith in T_not (eqb a b) (yes_eqb f) h)))

-- ---- of a list of places

pub lowest_first : (t : Place → Bool) (ps : List Place) → lowest t ps ≡ first (λ j. t (get_or ps j free)) (length ps) 0
unfolding first
lowest_first t [] = refl
lowest_first t (p ∷ ps) = ap (λ (x : ℕ). cond (t p) 0 x) (ap suc (lowest_first t ps) ∙ sym (first_shift (λ j. t (get_or (p ∷ ps) j free)) (length ps) 0))

-- from place i on
pub lowest_drop : (t : Place → Bool) (i : ℕ) (ps : List Place) → i ≤ length ps → i + lowest t (drop i ps) ≡ first (λ j. t (get_or ps j free)) (length ps - i) i
lowest_drop t zero ps l = zero-add (lowest t ps) ∙ lowest_first t ps ∙ (let e : length ps - 0 ≡ length ps = omega arith in rw e)
lowest_drop t (suc i) [] l = absurd (omega arith)
lowest_drop t (suc i) (p ∷ ps) l =
    let e : length (p ∷ ps) - suc i ≡ length ps - i = omega arith in
    rw e (omega (arith, lowest_drop t i ps (omega arith), first_shift (λ j. t (get_or (p ∷ ps) j free)) (length ps - i) i))

pub missing_lowest : (k : Names) (ps : List Place) → missing (lookup k ps) ≡ eqb (lowest (holds k) ps) (length ps)
missing_lowest k [] = refl
missing_lowest k (free ∷ ps) = missing_lowest k ps ∙ sym (eqb_suc (lowest (holds k) ps) (length ps))
missing_lowest k (held h ∷ ps) =
    by_test (holds k (held h))
    (λ t. rw (T_true (holds k (held h)) t) (sym (ne_eqb 0 (suc (length ps)) (λ e. omega arith))))
    (λ t. rw (T_false (holds k (held h)) t) (missing_lowest k ps ∙ sym (eqb_suc (lowest (holds k) ps) (length ps))))

-- no later place shares the names of place i
abbrev pub alone_in : List Place → ℕ → Bool
alone_in ps i = alone (get_or ps i free) (drop (suc i) ps)

pub distinct_first : (ps : List Place) → distinct ps ≡ eqb (first (λ i. not (alone_in ps i)) (length ps) 0) (length ps)
unfolding first
distinct_first [] = refl
distinct_first (p ∷ ps) =
    by_test (alone p ps)
    (λ t.
    rw (T_true (alone p ps) t)
    (distinct_first ps ∙ sym (eqb_suc (first (λ i. not (alone_in ps i)) (length ps) 0) (length ps)) ∙ ap (λ (x : ℕ). eqb x (suc (length ps))) (sym (first_shift (λ i. not (alone_in (p ∷ ps) i)) (length ps) 0))))
    (λ t. rw (T_false (alone p ps) t) (sym (ne_eqb 0 (suc (length ps)) (λ e. omega arith))))

-- ---- of bytes

part_next : (s : Bytes) (i : ℕ) → part_at s (suc i) ≡ part_at (drop 1024 s) i
part_next s i =
    ap (take 1024) (ap (λ (n : ℕ). drop n s) (suc-mul i 1024 ∙ add_comm (i * 1024) 1024) ∙ sym (drop-drop (i * 1024) 1024 s))

part_front : (s : Bytes) → part_at s 0 ≡ take 1024 s
part_front s = ap (λ (n : ℕ). take 1024 (drop n s)) (zero-mul 1024)

-- every part is a place exactly where they can all be read
some_both : (p : Place) (r : Option (List Place)) → is_some (both (some p) r) ≡ is_some r
some_both p none = refl
some_both p (some ps) = refl

-- one place more in front of n
one_more : (o : Option Place) (r : Option (List Place)) (a n : ℕ) → is_some r ≡ eqb a n → is_some (both o r) ≡ eqb (cond (not (is_place o)) 0 (suc a)) (suc n)
one_more none r a n e = sym (ne_eqb 0 (suc n) (λ z. omega arith))
one_more (some p) r a n e = some_both p r ∙ e ∙ sym (eqb_suc a n)

pub all_places : (n : ℕ) (s : Bytes) → is_some (decode_all (parts 1024 n s)) ≡ eqb (first (λ i. not (is_place_at s i)) n 0) n
unfolding first
all_places zero s = refl
all_places (suc n) s =
    one_more (decode (take 1024 s)) (decode_all (parts 1024 n (drop 1024 s))) (first (λ i. not (is_place_at (drop 1024 s) i)) n 0) n (all_places n (drop 1024 s))
    ∙ ap₂ (λ (x : Bytes) (a : ℕ). eqb (cond (not (is_place (decode x))) 0 a) (suc n)) (sym (part_front s)) (sym behind)
  where
    behind : first (λ i. not (is_place_at s i)) n 1 ≡ suc (first (λ i. not (is_place_at (drop 1024 s) i)) n 0)
    behind =
        first_shift (λ i. not (is_place_at s i)) n 0
        ∙ ap suc (first_same (λ i. not (is_place_at s (suc i))) (λ i. not (is_place_at (drop 1024 s) i)) n 0 (λ j a b. ap (λ (x : Bytes). not (is_place (decode x))) (part_next s j)))

-- and then these are the places
pub place_at : (n : ℕ) (s : Bytes) (ps : List Place) → decode_all (parts 1024 n s) ≡ some ps → (i : ℕ) → i < n → decode (part_at s i) ≡ some (get_or ps i free)
place_at zero s ps e i l = absurd (omega arith)
place_at (suc n) s ps e zero l =
    let (p, qs, ep, eq, f) = both_some (decode (take 1024 s)) (decode_all (parts 1024 n (drop 1024 s))) ps e in
    ap decode (part_front s) ∙ ep ∙ ap (λ (x : List Place). some (get_or x 0 free)) f
place_at (suc n) s ps e (suc i) l =
    let (p, qs, ep, eq, f) = both_some (decode (take 1024 s)) (decode_all (parts 1024 n (drop 1024 s))) ps e in
    ap decode (part_next s i) ∙ place_at n (drop 1024 s) qs eq i (omega arith) ∙ ap (λ (x : List Place). some (get_or x (suc i) free)) f
