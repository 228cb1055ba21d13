-- The parts that stand at these places are the fields.
-- Assumes nothing.
use Prim.Native.Nat.{ℕ, zero, suc, ◌+◌, ◌-◌, ◌≤◌, ◌<◌}
use mathlib.Core.Path.{◌≡◌, refl, ap, sym, ◌∙◌}
use mathlib.Core.Bool.{true, false, and-false}
use mathlib.Core.List.{List, [], ◌∷◌}
use native.Mathlib.Omega.{arith}
use native.Mathlib.Nat.{add-zero}
use lib.ListN.{length, take, drop, get_or, length-append, length-drop, get_or-eq_default}
use lib.Seq.{length-take-le, ext_get_or}
use lib.Dec.{ltb}
use borrow.Author.Tests.{le-leb, lt-leb, lt-ltb, le-ltb}
use denote.Ref.{Bor}
use Rattle.text.specs.Text.{Bytes}
use Rattle.text.specs.Part.{Part, NoPart}
use Rattle.text.proofs.Tests.{less_or}
use Rattle.format.specs.Kinds.{Kind, name, mark}
use Rattle.format.specs.Build.{joined}
use Rattle.format.specs.Read.{body, cut}
use Rattle.frame.specs.Frame.{next_mark, part_start}
use Rattle.frame.proofs.Parts.{cut_at, cut_none, cut_rest, next_from, next_within, walk_on, walk_start, body_bytes}
use Rattle.places.specs.Places.{starts_from, lengths, seven, starts_of, lens_of, places_of, is_place, part_at, start_at, IsPartAt, field_at, field_start_at, IsFieldAt, parts_from}
use Rattle.places.proofs.Seven.{seven_at}

-- ---- by the code's tests

module _ (s : Bytes) (starts lens : List ℕ) (j : ℕ) where
  past_seven : 7 ≤ j → is_place s starts lens j ≡ false
  past_seven h = rw (le-ltb j 7 h)

  past_end : length s < get_or starts j 0 + get_or lens j 0 → is_place s starts lens j ≡ false
  past_end h = rw (lt-leb (get_or starts j 0 + get_or lens j 0) (length s) h, and-false (ltb j 7))

  in_place : j < 7 → get_or starts j 0 + get_or lens j 0 ≤ length s → is_place s starts lens j ≡ true
  in_place f h = rw (lt-ltb j 7 f, le-leb (get_or starts j 0 + get_or lens j 0) (length s) h)

-- the part r of the caller's bytes s that the code hands back
module _ {s r : Bor Bytes} (starts lens : List ℕ) (j : ℕ) where
  none_at : is_place s.now starts lens j ≡ false → NoPart s r → IsPartAt s starts lens j r
  unfolding start_at part_at
  none_at e p = rw e p

  pub at_past : 7 ≤ j → NoPart s r → IsPartAt s starts lens j r
  at_past h = none_at (past_seven s.now starts lens j h)

  pub at_outside : length s.now < get_or starts j 0 + get_or lens j 0 → NoPart s r → IsPartAt s starts lens j r
  at_outside h = none_at (past_end s.now starts lens j h)

  pub at_there : j < 7 → get_or starts j 0 + get_or lens j 0 ≤ length s.now
      → Part s (get_or starts j 0) (take (get_or starts j 0 + get_or lens j 0 - get_or starts j 0) (drop (get_or starts j 0) s.now)) r
      → IsPartAt s starts lens j r
  unfolding start_at part_at
  at_there f h p =
      let l : get_or starts j 0 + get_or lens j 0 - get_or starts j 0 ≡ get_or lens j 0 = omega arith in
      rw (in_place s.now starts lens j f h) (rw l at p)

module _ {s r : Bor Bytes} (starts lens : List ℕ) where
  pub field_none : (n : ℕ) → n ≡ 0 → NoPart s r → IsFieldAt s starts lens n r
  unfolding field_start_at field_at
  field_none zero e p = p
  field_none (suc n) e p = absurd (omega arith)

  pub field_next : (n : ℕ) → (n ≡ 0 → ⊥) → IsPartAt s starts lens (n - 1) r → IsFieldAt s starts lens n r
  unfolding field_start_at field_at
  field_next zero h p = absurd (h refl)
  field_next (suc n) h p = let e : suc n - 1 ≡ n = omega arith in rw e at p

-- ---- the lists as long as the fields

pub starts_count : (i : ℕ) (fs : List Bytes) → length (starts_from i fs) ≡ length fs
starts_count i [] = refl
starts_count i (f ∷ fs) = ap suc (starts_count (i + length f + 1) fs)

pub lengths_count : (fs : List Bytes) → length (lengths fs) ≡ length fs
lengths_count [] = refl
lengths_count (f ∷ fs) = ap suc (lengths_count fs)

pub lengths_at : (fs : List Bytes) (j : ℕ) → get_or (lengths fs) j 0 ≡ length (get_or fs j [])
lengths_at [] j = refl
lengths_at (f ∷ fs) zero = refl
lengths_at (f ∷ fs) (suc j) = lengths_at fs j

-- ---- field j of those that stand in b from place i on

pub record Stands (b : Bytes) (start : ℕ) (f : Bytes) : Type 0 where
  pub within : start + length f ≤ length b
  pub bytes : take (length f) (drop start b) ≡ f

-- the first of them, and the rest behind its mark
module _ (m : ℕ) (b f : Bytes) (fs : List Bytes) (i : ℕ) (q : f ∷ fs ≡ cut m (drop i b)) where
  inside : i < length b
  inside = less_or i (length b) (λ l. l) (λ l. absurd (omega (arith, ap length (q ∙ cut_none m b i l))))

  ends : next_mark m b i ≤ length b
  ends = next_within m b i (omega (arith, inside))

  parts : f ∷ fs ≡ take (next_mark m b i - i) (drop i b) ∷ cut m (drop (next_mark m b i + 1) b)
  parts = q ∙ cut_at m b i inside

  long : length f ≡ next_mark m b i - i
  long = ap (λ (l : List Bytes). length (get_or l 0 [])) parts ∙ length-take-le (next_mark m b i - i) (drop i b) (omega (arith, ends, length-drop i b))

  first : Stands b i f
  first = record { within = omega (arith, long, ends, next_from m b i); bytes = rw long (sym (ap (λ (l : List Bytes). get_or l 0 []) parts)) }

  rest : fs ≡ cut m (drop (i + length f + 1) b)
  rest = let e : i + length f + 1 ≡ next_mark m b i + 1 = omega (arith, long, next_from m b i) in rw e (ap (drop 1) parts)

pub stands : (m : ℕ) (b : Bytes) (fs : List Bytes) (i : ℕ) → fs ≡ cut m (drop i b) → (j : ℕ) → j < length fs → Stands b (get_or (starts_from i fs) j 0) (get_or fs j [])
stands m b [] i q j h = absurd (omega arith)
stands m b (f ∷ fs) i q zero h = first m b f fs i q
stands m b (f ∷ fs) i q (suc j) h = stands m b fs (i + length f + 1) (rest m b f fs i q) j (omega arith)

-- ---- by places among seven: at most seven fields fs that stand in s at the starts ss

module _ (s : Bytes) (ss : List ℕ) (fs : List Bytes) (few : length fs ≤ 7) (as_many : length ss ≡ length fs) (all : (j : ℕ) → j < length fs → Stands s (get_or ss j 0) (get_or fs j [])) where
  pub start-at : (j : ℕ) → get_or (seven 0 ss) j 0 ≡ get_or ss j 0
  start-at = seven_at 0 ss (omega (arith, as_many))

  pub len_at : (j : ℕ) → get_or (lens_of fs) j 0 ≡ length (get_or fs j [])
  len_at j = seven_at 0 (lengths fs) (omega (arith, lengths_count fs)) j ∙ lengths_at fs j

  -- behind the last field stand start 0 and length 0
  pub place_at : (j : ℕ) → (get_or (seven 0 ss) j 0 + get_or (lens_of fs) j 0 ≤ length s) × (take (get_or (lens_of fs) j 0) (drop (get_or (seven 0 ss) j 0) s) ≡ get_or fs j [])
  place_at j = rw (start-at j, len_at j) (less_or j (length fs) (λ h. ((all j h).within, (all j h).bytes)) past)
    where
      past : length fs ≤ j → (get_or ss j 0 + length (get_or fs j []) ≤ length s) × (take (length (get_or fs j [])) (drop (get_or ss j 0) s) ≡ get_or fs j [])
      past h = rw (get_or-eq_default fs [] {n = j} h, get_or-eq_default ss 0 {n = j} (omega (arith, as_many))) (omega arith, refl)

  pub part-at : (j : ℕ) → part_at s (seven 0 ss) (lens_of fs) j ≡ get_or fs j []
  unfolding part_at
  part-at j =
      less_or j 7
      (λ l. rw (in_place s (seven 0 ss) (lens_of fs) j l (place_at j).0) (place_at j).1)
      (λ l. rw (past_seven s (seven 0 ss) (lens_of fs) j l) (sym (get_or-eq_default fs [] {n = j} (omega (arith, few)))))

-- ---- the parts at several places

module _ (s : Bytes) (starts lens : List ℕ) where
  pub parts_count : (j n : ℕ) → length (parts_from s starts lens j n) ≡ n
  parts_count j zero = refl
  parts_count j (suc n) = ap suc (parts_count (suc j) n)

  parts_get : (j n i : ℕ) → i < n → get_or (parts_from s starts lens j n) i [] ≡ part_at s starts lens (j + i)
  parts_get j zero i h = absurd (omega arith)
  parts_get j (suc n) zero h = rw add-zero
  parts_get j (suc n) (suc i) h = let e : j + suc i ≡ suc j + i = omega arith in rw e (parts_get (suc j) n i (omega arith))

  pub parts_at : (n i : ℕ) → i < n → get_or (parts_from s starts lens 0 n) i [] ≡ part_at s starts lens i
  parts_at n i h = let e : 0 + i ≡ i = omega arith in rw e at (parts_get 0 n i h)

  -- all that there are
  pub parts_all : (fs : List Bytes) (n : ℕ) → length fs ≡ n → ((j : ℕ) → part_at s starts lens j ≡ get_or fs j []) → parts_from s starts lens 0 n ≡ fs
  parts_all fs n e all =
      ext_get_or [] (parts_from s starts lens 0 n) fs (parts_count 0 n ∙ sym e) (λ i h. parts_at n i (omega (arith, parts_count 0 n)) ∙ all i)

-- ---- the fields of a body, as the walk finds them

pub body_part : (m : ℕ) (b : Bytes) → length (drop 1 (cut m b)) ≤ 7 → (j : ℕ) → part_at b (places_of m b).starts (places_of m b).lens j ≡ get_or (drop 1 (cut m b)) j []
unfolding places_of
body_part m b few = part-at b (starts_from (next_mark m b 0 + 1) (drop 1 (cut m b))) (drop 1 (cut m b)) few (starts_count _ (drop 1 (cut m b))) (stands m b (drop 1 (cut m b)) (next_mark m b 0 + 1) (cut_rest m b))

-- ---- the fields of a record s of kind k

-- the first stands behind the kind's name and its mark
pub first_start : (m : ℕ) (b p : Bytes) (ps : List Bytes) → cut m b ≡ p ∷ ps → next_mark m b 0 + 1 ≡ length p + 1
unfolding part_start
first_start m b p ps e =
    less_or 0 (length b)
    (λ h. (walk_on m b 0 0 (walk_start m b) h _ refl).start ∙ rw e (length-append p (m ∷ [])))
    (λ h. absurd (omega (arith, ap length (sym e ∙ cut_none m b 0 h))))

-- behind the fields before, as the build rules write them
starts_joined : (m i : ℕ) (fs : List Bytes) (j : ℕ) → j < length fs → get_or (starts_from i fs) j 0 ≡ i + length (joined m (take j fs))
starts_joined m i [] j h = absurd (omega arith)
starts_joined m i (f ∷ fs) zero h = omega arith
starts_joined m i (f ∷ fs) (suc j) h = omega (arith, starts_joined m (i + length f + 1) fs j (omega arith), length-append f (m ∷ joined m (take j fs)))

module _ (k : Kind) (s : Bytes) (fs : List Bytes) (few : length fs ≤ 7) (parts : cut (mark k) (body s) ≡ name k ∷ fs) where
  in_body : (j : ℕ) → j < length fs → Stands (body s) (get_or (starts_from (length (name k) + 1) fs) j 0) (get_or fs j [])
  in_body = stands (mark k) (body s) fs (length (name k) + 1) (rw (← first_start (mark k) (body s) (name k) fs parts) (sym (ap (drop 1) parts) ∙ cut_rest (mark k) (body s)))

  in_record : (j : ℕ) → j < length fs → Stands s (get_or (starts_from (length (name k) + 1) fs) j 0) (get_or fs j [])
  in_record j h =
      let i = get_or (starts_from (length (name k) + 1) fs) j 0 in
      let n = length (get_or fs j []) in
      let e : i + n - i ≡ n = omega arith in
      record {
        within = omega (arith, (in_body j h).within, length-take-le (length s - 4) s (omega arith));
        bytes = rw e at (body_bytes s i (i + n) (omega (arith, (in_body j h).within)) (in_body j h).within) ∙ (in_body j h).bytes;
      }

  -- a start by the build rules, and its field's length
  pub record_start : (j : ℕ) → j < length fs → get_or (starts_of k fs) j 0 ≡ length (joined (mark k) (take (suc j) (name k ∷ fs)))
  record_start j h = start-at s (starts_from (length (name k) + 1) fs) fs few (starts_count _ fs) in_record j ∙ omega (arith, starts_joined (mark k) (length (name k) + 1) fs j h, length-append (name k) (mark k ∷ joined (mark k) (take j fs)))

  pub record-place : (j : ℕ) → (get_or (starts_of k fs) j 0 + get_or (lens_of fs) j 0 ≤ length s) × (take (get_or (lens_of fs) j 0) (drop (get_or (starts_of k fs) j 0) s) ≡ get_or fs j [])
  record-place = place_at s (starts_from (length (name k) + 1) fs) fs few (starts_count _ fs) in_record

  -- the part at place j is field j, and empty where there is none
  pub record_part : (j : ℕ) → part_at s (starts_of k fs) (lens_of fs) j ≡ get_or fs j []
  record_part = part-at s (starts_from (length (name k) + 1) fs) fs few (starts_count _ fs) in_record

  -- the field of a number, from 1
  pub record-field : (n : ℕ) → field_at s (starts_of k fs) (lens_of fs) n ≡ get_or ([] ∷ fs) n []
  unfolding field_at
  record-field zero = refl
  record-field (suc j) = record_part j
