-- One field of an accepted record, by its number.
-- Assumes nothing.
use Prim.Native.Nat.{ℕ, zero, suc, ◌+◌, ◌-◌, ◌≤◌, ◌<◌}
use mathlib.Core.Path.{◌≡◌, refl, ap, sym, ◌∙◌}
use mathlib.Core.Bool.{not, cond}
use mathlib.Core.List.{List, [], ◌∷◌}
use native.Mathlib.Omega.{arith}
use lib.ListN.{length, take, drop, get_or, length-drop, get_or-eq_default}
use lib.Seq.{length-take-le}
use lib.Dec.{T, leb, leb→le}
use mir.Facts.{and_yes}
use borrow.Author.Tests.{le-leb, lt-leb}
use denote.Ref.{Bor}
use Rattle.text.specs.Text.{Bytes, between}
use Rattle.text.proofs.Part.{same_part}
use Rattle.text.proofs.Tests.{by_test, less_or, T_true, T_false}
use Rattle.format.specs.Kinds.{Kind, name, mark, fields_of, identity_kinds}
use Rattle.format.specs.Build.{joined, Built}
use Rattle.format.specs.Read.{Outcome, accepted, refused}
use Rattle.format.proofs.Outcomes.{Honest}
use Rattle.format.proofs.Exactly.{identity_says, read_says, its_parts, its_count, its_few}
use Rattle.table.specs.Table.{count_of}
use Rattle.table.proofs.Rows.{of-kind}
use Rattle.table.proofs.Arrays.{count-few}
use Rattle.places.specs.Places.{starts_of, lens_of}
use Rattle.places.proofs.Stands.{record_start, record-place}
use Rattle.reading.specs.Reading.{answer_of}
use Rattle.fields.specs.Fields.{wanted_part, wanted_no, wanted_start, PartSaid, PlaceSaid, Placed}
use Rattle.fields.specs.Steps.{Reads, identity, records, Handed}
use Rattle.reading.specs.declared.Answer.{Answer}
use Rattle.fields.specs.declared.Place.{Place}
use Rattle.reading.proofs.Answers.{told, Taken, taken, untaken}

-- ---- the number

-- a reading call accepts only what is built
says : {s : Bytes} {o : Outcome} → Reads s o → (ks : List Kind) × Honest (Built ks s) o
says {s} identity = (identity_kinds, identity_says s)
says {s} (records ks) = (ks, read_says ks s)

module _ (o : Outcome) (s : Bytes) (r : Reads s o) (a : Answer) (e : a ≡ answer_of o) (wanted : ℕ) where
  pub wanted_refused : (a.no ≡ 0 → ⊥) → a.no ≡ wanted_no o wanted
  unfolding wanted_no
  wanted_refused z = sym (ap (λ (x : Outcome). wanted_no x wanted) (untaken o a e z))

  module _ (z : a.no ≡ 0) where
    abbrev t : Taken (Built (says r).0 s) o a.kind
    t = taken (Built (says r).0 s) o a (says r).1 e z

    count_is : count_of a.kind ≡ length t.fields
    count_is = ap count_of t.at ∙ of-kind (λ k. length (fields_of k)) 0 t.kind ∙ sym (its_count t.holds)

    by_count : wanted_no o wanted ≡ cond (between 1 (count_of a.kind) wanted) 0 12
    unfolding wanted_no
    by_count = ap (λ (x : Outcome). wanted_no x wanted) t.is ∙ rw (sym count_is)

    pub wanted_zero : wanted ≡ 0 → 12 ≡ wanted_no o wanted
    wanted_zero h = sym (by_count ∙ rw h)

    pub wanted_past : (wanted ≡ 0 → ⊥) → count_of a.kind < wanted → 12 ≡ wanted_no o wanted
    wanted_past n h = sym (by_count ∙ rw (le-leb 1 wanted (omega (arith, n)), lt-leb wanted (count_of a.kind) h))

    pub wanted_there : (wanted ≡ 0 → ⊥) → wanted ≤ count_of a.kind → 0 ≡ wanted_no o wanted
    wanted_there n h = sym (by_count ∙ rw (le-leb 1 wanted (omega (arith, n)), le-leb wanted (count_of a.kind) h))

-- no kind has more than seven fields
pub wanted_few : (wanted row : ℕ) → (wanted ≡ 0 → ⊥) → wanted ≤ count_of row → T (between 1 7 wanted)
wanted_few wanted row z h = rw (le-leb 1 wanted (omega (arith, z)), le-leb wanted 7 (omega (arith, h, count-few row))) tt

-- ---- where the field stands

-- a number out of range: nothing, and no_field
pub outside : (fs : List Bytes) (w : ℕ) → T (not (between 1 (length fs) w)) → [] ≡ get_or ([] ∷ fs) w []
outside fs zero h = refl
outside fs (suc w) h =
    less_or w (length fs)
    (λ l. absurd (rw (le-leb 1 (suc w) (omega arith), le-leb (suc w) (length fs) l) at h))
    (λ l. sym (get_or-eq_default fs [] l))

pub no_field : (o : Outcome) (wanted : ℕ) → (wanted_no o wanted ≡ 0 → ⊥) → (0 ≡ wanted_start o wanted) × ([] ≡ wanted_part o wanted)
unfolding wanted_no wanted_part wanted_start
no_field (accepted k fs) wanted n =
    by_test (between 1 (length fs) wanted)
    (λ t. absurd (n (rw (T_true (between 1 (length fs) wanted) t))))
    (λ t. (rw (T_false (between 1 (length fs) wanted) t), outside fs wanted t))
no_field (refused m i) wanted n = (refl, refl)

-- a place by its pieces
pub placed : (s : Bytes) {m g start : ℕ} {part : Bytes} (n f at len : ℕ) → n ≡ m → f ≡ g → at ≡ start → at + len ≤ length s → take len (drop at s) ≡ part
    → PlaceSaid m g start part s (record { no = n; field = f; start = at; len = len })
placed s {part = part} n f at len p q b h e =
    let l : len ≡ length part = sym (length-take-le len (drop at s) (omega (arith, length-drop at s))) ∙ ap length e in
    record { said = cc; inside = h; bytes = e }

module _ (s : Bytes) (wanted : ℕ) where
  -- a field of an accepted record
  module _ (ks : List Kind) (k : Kind) (fs : List Bytes) (b : Built ks s k fs) where
    record Here (v : ℕ) : Type 0 where
      start : get_or (starts_of k fs) (v - 1) 0 ≡ length (joined (mark k) (take v (name k ∷ fs)))
      within : get_or (starts_of k fs) (v - 1) 0 + get_or (lens_of fs) (v - 1) 0 ≤ length s
      bytes : take (get_or (lens_of fs) (v - 1) 0) (drop (get_or (starts_of k fs) (v - 1) 0) s) ≡ get_or ([] ∷ fs) v []

    here : (v : ℕ) → T (between 1 (length fs) v) → Here v
    here zero h = absurd h
    here (suc v) h =
        let e : suc v - 1 ≡ v = omega arith in
        let l : v < length fs = omega (arith, leb→le (suc v) (length fs) (and_yes (leb 1 (suc v)) (leb (suc v) (length fs)) h).1) in
        let place = record-place k s fs (its_few b) (its_parts b) v in
        record { start = rw e (record_start k s fs (its_few b) (its_parts b) v l); within = rw e place.0; bytes = rw e place.1 }

  there_said : (o : Outcome) (ks : List Kind) → Honest (Built ks s) o → (a : Answer) → a ≡ answer_of o → wanted_no o wanted ≡ 0 → (i n : ℕ)
      → i ≡ get_or a.starts (wanted - 1) 0 → n ≡ get_or a.lens (wanted - 1) 0
      → (i ≡ wanted_start o wanted) × (i + n ≤ length s) × (take n (drop i s) ≡ wanted_part o wanted)
  unfolding wanted_no wanted_start wanted_part
  there_said (accepted k fs) ks b a q z i n p r =
      by_test (between 1 (length fs) wanted)
      (λ t.
      let h = here ks k fs b wanted t in
      let p' = p ∙ ap (λ (x : Answer). get_or x.starts (wanted - 1) 0) q in
      let r' = r ∙ ap (λ (x : Answer). get_or x.lens (wanted - 1) 0) q in
      rw (p', r', T_true (between 1 (length fs) wanted) t) (h.start, h.within, h.bytes))
      (λ t. absurd (omega (arith, sym (rw (T_false (between 1 (length fs) wanted) t) at z))))
  there_said (refused zero f) ks b a q z i n p r = absurd b
  there_said (refused (suc m) f) ks b a q z i n p r = absurd (omega arith)

  module _ (o : Outcome) (r : Reads s o) (a : Answer) (q : a ≡ answer_of o) (n : ℕ) (e : n ≡ wanted_no o wanted) where
    pub place_none : (n ≡ 0 → ⊥) → Placed o wanted s (record { no = n; field = a.field; start = 0; len = 0 })
    place_none z = let h = no_field o wanted (λ (y : wanted_no o wanted ≡ 0). z (e ∙ y)) in placed s n a.field 0 0 e (told o a q).1 h.0 (omega arith) h.1

    -- i and l are the start and the length as the code has them
    pub place_there : n ≡ 0 → (i l : ℕ) → i ≡ get_or a.starts (wanted - 1) 0 → l ≡ get_or a.lens (wanted - 1) 0 → Placed o wanted s (record { no = n; field = a.field; start = i; len = l })
    place_there z i l p u = let h = there_said o (says r).0 (says r).1 a q (sym e ∙ z) i l p u in placed s n a.field i l e (told o a q).1 h.0 h.1 h.2

-- ---- the part at a place

pub part_said : {n f start : ℕ} {bytes : Bytes} {s r : Bor Bytes} {no field : ℕ} {at : Place} → PlaceSaid n f start bytes s.now at → Handed at s r no field → PartSaid n f start bytes s r no field
part_said p h = record { its_part = same_part (ap (λ (x : Place). x.start) p.said) p.bytes h.its_part; its_no = h.its_no ∙ ap (λ (x : Place). x.no) p.said; its_field = h.its_field ∙ ap (λ (x : Place). x.field) p.said }
