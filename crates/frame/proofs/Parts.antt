-- The parts between marks, by places: the next mark, and a walk over the parts.
-- Assumes nothing.
use Prim.Native.Nat.{ℕ, zero, suc, ◌+◌, ◌-◌, ◌≤◌, ◌<◌}
use mathlib.Core.Path.{◌≡◌, refl, ap, sym, ◌∙◌}
use mathlib.Core.Bool.{Bool, true, false, cond}
use mathlib.Core.List.{List, [], ◌∷◌}
use native.Mathlib.Omega.{arith}
use native.Mathlib.Numerals.{add-one}
use native.Mathlib.Nat.{add-zero}
use lib.ListN.{length, take, drop, get_or, drop_of_length-le, length-append, length-take, length-drop, take-append-drop, get_or-eq_default}
use lib.Seq.{take_all, length-take-le, take-append-le, drop-append-le, drop-cons, drop-drop, get_or-drop}
use lib.Dec.{eqb}
use borrow.Author.Tests.{eq-eqb, ne_eqb, lt-ltb, le-ltb}
use Rattle.std.proofs.Common.{Option as Maybe}
use Rattle.std.specs.Option.{MatchOption, unwrap_or}
use Rattle.std.specs.List.{AllWithin, HoldsAt}
use Rattle.std.proofs.lemmas.Iterator.{index_from_first}
use Rattle.text.specs.Text.{Bytes}
use Rattle.text.proofs.Tests.{less_or}
use Rattle.format.specs.Kinds.{Kind, mark}
use Rattle.format.specs.Build.{joined}
use Rattle.format.specs.Read.{body, check, cut, on_first, fields_in}
use Rattle.format.specs.Files.{up_to}
use Rattle.format.proofs.Lines.{take_up_to}
use Rattle.frame.specs.Frame.{next_mark, part_start, part_place, part_of}

-- ---- the next mark

pub up_to_first : (m : ℕ) (s : Bytes) (r : Maybe ℕ)
    → MatchOption r (AllWithin (λ x. x ≡ m → ⊥) s 0 (length s)) (λ i. (i < length s) × HoldsAt (λ x. x ≡ m) s i × AllWithin (λ x. x ≡ m → ⊥) s 0 i)
    → length (up_to m s) ≡ unwrap_or r (length s)
up_to_first m =
    index_from_first (λ xs. length (up_to m xs)) (λ x. x ≡ m) (λ x. x ≡ m → ⊥) refl
    (λ x xs e. rw (eq-eqb x m e)) (λ x xs n. rw (ne_eqb x m n, add-one))

pub next_end : (m : ℕ) (s : Bytes) (i : ℕ) → length s ≤ i → next_mark m s i ≡ i
unfolding next_mark
next_end m s i h = rw (drop_of_length-le s h, add-zero)

up_to_within : (m : ℕ) (s : Bytes) → length (up_to m s) ≤ length s
up_to_within m s = omega (arith, ap length (take_up_to m s), length-take (length (up_to m s)) s)

-- the first part, and the parts of what follows its mark
cut_first : (m c : ℕ) (s : Bytes) → cut m (c ∷ s) ≡ up_to m (c ∷ s) ∷ cut m (drop (suc (length (up_to m (c ∷ s)))) (c ∷ s))
cut_first m c [] = go (eqb c m)
  where
    go : (b : Bool) → cond b ([] ∷ []) ((c ∷ []) ∷ []) ≡ cond b [] (c ∷ []) ∷ cut m (drop (suc (length (cond b [] (c ∷ [])))) (c ∷ []))
    go true = refl
    go false = refl
cut_first m c (d ∷ s) = go (eqb c m) (cut_first m d s)
  where
    go : (b : Bool) → cut m (d ∷ s) ≡ up_to m (d ∷ s) ∷ cut m (drop (suc (length (up_to m (d ∷ s)))) (d ∷ s))
        → cond b ([] ∷ cut m (d ∷ s)) (on_first c (cut m (d ∷ s))) ≡ cond b [] (c ∷ up_to m (d ∷ s)) ∷ cut m (drop (suc (length (cond b [] (c ∷ up_to m (d ∷ s))))) (c ∷ d ∷ s))
    go true e = refl
    go false e = ap (on_first c) e

module _ (m : ℕ) (s : Bytes) (i : ℕ) where
  pub next_from : i ≤ next_mark m s i
  unfolding next_mark
  next_from = omega arith

  pub next_within : i ≤ length s → next_mark m s i ≤ length s
  unfolding next_mark
  next_within h = omega (arith, up_to_within m (drop i s), length-drop i s)

  -- at i there is a part, to the next mark, and then the parts of what follows
  pub cut_at : i < length s → cut m (drop i s) ≡ take (next_mark m s i - i) (drop i s) ∷ cut m (drop (next_mark m s i + 1) s)
  unfolding next_mark
  cut_at h =
      let n = length (up_to m (drop i s)) in
      let a : i + length (up_to m (drop i s)) - i ≡ length (up_to m (drop i s)) = omega arith in
      let b : i + length (up_to m (drop i s)) + 1 ≡ i + suc (length (up_to m (drop i s))) = omega arith in
      let f : cut m (drop i s) ≡ up_to m (drop i s) ∷ cut m (drop (suc (length (up_to m (drop i s)))) (drop i s)) = rw (drop-cons s i 0 h) (cut_first m (get_or s i 0) (drop (suc i) s)) in
      rw (a, b, take_up_to, ← drop-drop) f

  pub cut_none : length s ≤ i → cut m (drop i s) ≡ []
  cut_none h = rw (drop_of_length-le s h)

-- the parts but for the first
pub cut_rest : (m : ℕ) (s : Bytes) → drop 1 (cut m s) ≡ cut m (drop (next_mark m s 0 + 1) s)
unfolding next_mark
cut_rest m [] = refl
cut_rest m (c ∷ s) = ap (drop 1) (cut_at m (c ∷ s) 0 (omega arith))

-- ---- a walk over the parts: from place i on stand the parts from number k on, behind those before
pub record Walk (m : ℕ) (s : Bytes) (k i : ℕ) : Type 0 where
  pub parts : drop k (cut m s) ≡ cut m (drop i s)
  pub start : i ≡ part_start m s k
  pub few : k ≤ i
  pub many : k ≤ length (cut m s)

-- one part more
joined_more : (m k : ℕ) (ps qs : List Bytes) (p : Bytes) → drop k ps ≡ p ∷ qs → length (joined m (take (suc k) ps)) ≡ length (joined m (take k ps)) + length p + 1
joined_more m zero ps qs p e = rw e (length-append p (m ∷ []) ∙ omega arith)
joined_more m (suc k) [] qs p e = absurd (omega (arith, ap length e))
joined_more m (suc k) (f ∷ ps) qs p e =
    length-append f (m ∷ joined m (take (suc k) ps)) ∙ omega (arith, length-append f (m ∷ joined m (take k ps)), joined_more m k ps qs p e)

module _ (m : ℕ) (s : Bytes) (k i : ℕ) (w : Walk m s k i) (h : i < length s) where
  this : drop k (cut m s) ≡ take (next_mark m s i - i) (drop i s) ∷ cut m (drop (next_mark m s i + 1) s)
  this = w.parts ∙ cut_at m s i h

  pub walk_on : (e : ℕ) → e ≡ next_mark m s i → Walk m s (k + 1) (e + 1)
  unfolding part_start
  walk_on e q =
      record {
        parts = rw q (sym (drop-drop 1 k (cut m s)) ∙ ap (drop 1) this);
        start = rw (q, add-one k) (omega (arith, w.start, next_from m s i, length-take-le (next_mark m s i - i) (drop i s) (omega (arith, next_within m s i (omega arith), length-drop i s)), joined_more m k (cut m s) _ _ this));
        few = omega (arith, w.few, next_from m s i);
        many = omega (arith, length-drop k (cut m s), ap length this);
      }

  pub walk_part : (e : ℕ) → e ≡ next_mark m s i → take (e - i) (drop i s) ≡ part_of m s k
  unfolding part_of
  walk_part e q = rw q (sym (sym (rw add-zero at (get_or-drop k (cut m s) 0 [])) ∙ ap (λ (x : List Bytes). get_or x 0 []) this))

pub walk_start : (m : ℕ) (s : Bytes) → Walk m s 0 0
unfolding part_start
walk_start m s = record { parts = refl; start = refl; few = omega arith; many = omega arith }

module _ (m : ℕ) (s : Bytes) (k i : ℕ) (w : Walk m s k i) (h : length s ≤ i) where
  walk_done : length (cut m s) ≤ k
  walk_done = omega (arith, length-drop k (cut m s), ap length (w.parts ∙ cut_none m s i h))

  -- behind the last part
  pub walk_last : (n : ℕ) → k ≤ n → i ≡ part_start m s n
  unfolding part_start
  walk_last n l = w.start ∙ ap (λ (ps : List Bytes). length (joined m ps)) (take_all k (cut m s) walk_done ∙ sym (take_all n (cut m s) (omega (arith, walk_done))))

-- ---- part n, from where it starts

module _ (m : ℕ) (s : Bytes) where
  on_from : (n : ℕ) → Walk m s n (part_start m s n) → part_start m s n < length s → Walk m s (suc n) (part_start m s (suc n))
  on_from n w h = let v = rw add-one at (walk_on m s n _ w h _ refl) in rw (← v.start) v

  -- the walk to part n, and the parts' end where there are not so many
  pub walk_to : (n : ℕ) → n ≤ length (cut m s) → Walk m s n (part_start m s n)
  unfolding part_start
  walk_to zero h = walk_start m s
  walk_to (suc n) h = go (walk_to n (omega arith))
    where
      go : Walk m s n (part_start m s n) → Walk m s (suc n) (part_start m s (suc n))
      go w = less_or (part_start m s n) (length s) (on_from n w) (λ l. absurd (omega (arith, walk_done m s n _ w l)))

  -- the parts end with the bytes
  walk_past : (n : ℕ) → length (cut m s) ≤ n → length s ≤ part_start m s n
  unfolding part_start
  walk_past n h =
      let all = length (cut m s) in
      rw (take_all n (cut m s) h, ← take_all all (cut m s) (omega arith))
      (less_or (part_start m s all) (length s)
      (λ l. absurd (omega (arith, (walk_on m s all _ (walk_to all (omega arith)) l _ refl).many)))
      (λ l. l))

  -- a part that is there starts within the bytes, and what would start within them is there
  pub start_within : (n : ℕ) → n < length (cut m s) → part_start m s n < length s
  start_within n h =
      less_or (part_start m s n) (length s) (λ l. l) (λ l. absurd (omega (arith, walk_done m s n _ (walk_to n (omega arith)) l)))

  -- i is the start of part n as the code has it
  module _ (n i : ℕ) (q : i ≡ part_start m s n) where
    pub is_there : i < length s → n < length (cut m s)
    is_there h = less_or n (length (cut m s)) (λ l. l) (λ l. absurd (omega (arith, q, walk_past n l)))

    pub is_not : length s ≤ i → length (cut m s) ≤ n
    is_not h = less_or n (length (cut m s)) (λ l. absurd (omega (arith, q, start_within n l))) (λ l. l)

    pub part_there : i < length s → (e : ℕ) → e ≡ next_mark m s i → take (e - i) (drop i s) ≡ part_of m s n
    part_there h = walk_part m s n i (rw q (walk_to n (omega (arith, is_there h)))) h

    pub place_there : i < length s → i ≡ part_place m s n
    unfolding part_place
    place_there h = q ∙ rw (lt-ltb n (length (cut m s)) (is_there h))

    -- none where part n would start at the end or behind it
    pub part_none : length s ≤ i → [] ≡ part_of m s n
    unfolding part_of
    part_none h = sym (get_or-eq_default (cut m s) [] {n = n} (is_not h))

    pub place_none : length s ≤ i → 0 ≡ part_place m s n
    unfolding part_place
    place_none h = rw (le-ltb n (length (cut m s)) (is_not h))

-- ---- the fields of a record are the parts of its body from part 1 on: part 0 is the kind's name

pub field_part : (k : Kind) (s : Bytes) (n : ℕ) → part_of (mark k) (body s) (suc n) ≡ get_or (fields_in k s) n []
unfolding part_of
field_part k s n = let z : suc n ≡ 1 + n = omega arith in rw z (sym (get_or-drop 1 (cut (mark k) (body s)) n []))

-- ---- a part of a record's body is the same part of the record

pub body_bytes : (s : Bytes) (i j : ℕ) → i ≤ length (body s) → j ≤ length (body s) → take (j - i) (drop i s) ≡ take (j - i) (drop i (body s))
body_bytes s i j h l =
    ap (λ (x : Bytes). take (j - i) (drop i x)) (sym (take-append-drop (length s - 4) s))
    ∙ ap (take (j - i)) (drop-append-le i (body s) (check s) h)
    ∙ take-append-le (j - i) (drop i (body s)) (check s) (omega (arith, l, length-drop i (body s)))
