-- The reading promises, from the laws of format and the contracts of reading.
-- Assumes nothing.
use Prim.Native.Nat.{ℕ, ◌+◌, ◌≤◌, ◌<◌}
use mathlib.Core.Path.{◌≡◌, refl, sym, ap, ◌∙◌}
use mathlib.Core.Logic.{◌↔◌, ◌≢◌}
use mathlib.Core.Bool.{cond}
use mathlib.Core.List.{List, [], ◌∷◌}
use native.Mathlib.Numerals.{add-one}
use lib.Dec.{T}
use native.Mathlib.Omega.{arith}
use lib.ListN.{length, take, drop, get_or, replicate, get_or-eq_default}
use denote.Ref.{Bor}
use Rattle.text.specs.Text.{Bytes, between, Ident}
use Rattle.text.specs.Part.{Part, NoPart}
use Rattle.text.proofs.Tests.{T_true}
use Rattle.text.proofs.Part.{same_part}
use Rattle.numbers.specs.Numbers.{missing_item}
use Rattle.format.specs.Kinds.{Kind, Text, name, fields_of, identity_kinds, record_kinds}
use Rattle.format.specs.Build.{Built}
use Rattle.format.specs.Read.{Outcome, accepted, refused, answer, place, read_identity, read_record}
use Rattle.format.proofs.Outcomes.{Honest, honest_zero}
use Rattle.format.proofs.Exactly.{identity_says, identity_exact, record_says, record_exact, its_parts, its_few, built_unique, built_length, built_shorter, identity_length, unsigned_length, signed_length, key_length}
use Rattle.table.specs.Table.{row_of, missing_row}
use Rattle.places.specs.Places.{starts_from, starts_of}
use Rattle.places.proofs.Seven.{seven_at}
use Rattle.places.proofs.Stands.{starts_count, record_start, record-place}
use Rattle.reading.specs.declared.Answer.{Answer}
use Rattle.reading.specs.Reading.{kind_within, answer_of}
use Rattle.reading.proofs.Types.{kinds_at}
use Rattle.reading.proofs.Answers.{told}
use Rattle.fields.specs.Fields.{wanted_part, wanted_no, wanted_start, start_in, PartSaid, PlaceSaid, FieldSaid, Placed}
use Rattle.fields.specs.declared.Place.{Place}
use Rattle.fields.proofs.Wanted.{no_field}
use Rattle.promises.proofs.Statements.Reading.{Reading}

-- a call whose outcome is accepted exactly for what is built, and whose refusals have another number than 0
module _ (o : Outcome) (B : Kind → List Bytes → Type 0) (exact : (k : Kind) (fs : List Bytes) → (o ≡ accepted k fs) ↔ B k fs)
    (says : Honest B o) where
  pub exactly : (r : Answer) → r ≡ answer_of o → (r.no ≡ 0) ↔ ((k : Kind) × (fs : List Bytes) × B k fs)
  exactly r e =
      let q = (told o r e).0 in (
        λ z. let (k, fs, h) = honest_zero B o says (sym q ∙ z) in (k, fs, (exact k fs).0 h),
        λ b. q ∙ ap answer ((exact b.0 b.1).1 b.2),
      )

  says_kind : (r : Answer) → r ≡ answer_of o → (k : Kind) (fs : List Bytes) → B k fs → r.kind ≡ row_of k
  says_kind r e k fs b = ap (λ (a : Answer). a.kind) (e ∙ ap answer_of ((exact k fs).1 b))

  hands_back : (wanted : ℕ) (lent part : Bor Bytes) (no field : ℕ) → FieldSaid o wanted lent part no field → (k : Kind) (fs : List Bytes) → B k fs
      → (T (between 1 (length fs) wanted) → Part lent (start_in k fs wanted) (get_or ([] ∷ fs) wanted []) part)
      × (no ≡ cond (between 1 (length fs) wanted) 0 missing_item)
  unfolding wanted_part wanted_no wanted_start
  hands_back wanted lent part n i p k fs b =
      let q : FieldSaid (accepted k fs) wanted lent part n i = rw ((exact k fs).1 b) at p in
      (λ t. rw (T_true (between 1 (length fs) wanted) t) at q.its_part, q.its_no)

  points_to : (wanted : ℕ) (s : Bytes) (r : Place) → Placed o wanted s r → (k : Kind) (fs : List Bytes) → B k fs
      → (T (between 1 (length fs) wanted)
      → (r.start ≡ start_in k fs wanted) × (r.start + r.len ≤ length s) × (take r.len (drop r.start s) ≡ get_or ([] ∷ fs) wanted []))
      × (r.no ≡ cond (between 1 (length fs) wanted) 0 missing_item)
  unfolding wanted_part wanted_no wanted_start
  points_to wanted s r p k fs b =
      let q : Placed (accepted k fs) wanted s r = rw ((exact k fs).1 b) at p in (
        λ t. (ap (λ (x : Place). x.start) q.said ∙ rw (T_true (between 1 (length fs) wanted) t), q.inside, q.bytes),
        ap (λ (x : Place). x.no) q.said,
      )

-- no start is told past the last field
past_last : (k : Kind) (fs : List Bytes) → length fs ≤ 7 → (j : ℕ) → length fs ≤ j → get_or (starts_of k fs) j 0 ≡ 0
past_last k fs few j h =
    let starts : List ℕ = starts_from (length (name k) + 1) fs in
    let count = starts_count (length (name k) + 1) fs in
    seven_at 0 starts (omega (arith, count)) j ∙ get_or-eq_default starts 0 (omega (arith, count))

-- the places of all fields of what is built
module _ (ks : List Kind) (s : Bytes) (o : Outcome) (exact : (k : Kind) (fs : List Bytes) → (o ≡ accepted k fs) ↔ Built ks s k fs) (r : Answer) (e : r ≡ answer_of o) (k : Kind) (fs : List Bytes) (b : Built ks s k fs) where
  said : r ≡ answer_of (accepted k fs)
  said = e ∙ ap answer_of ((exact k fs).1 b)

  says_places : (j : ℕ)
      → (j < length fs → get_or r.starts j 0 ≡ start_in k fs (j + 1))
      × (length fs ≤ j → get_or r.starts j 0 ≡ 0)
      × (get_or r.starts j 0 + get_or r.lens j 0 ≤ length s)
      × (take (get_or r.lens j 0) (drop (get_or r.starts j 0) s) ≡ get_or fs j [])
      × (get_or r.kinds j missing_row ≡ kind_within (get_or (fields_of k) j (Text Ident)) (get_or fs j []))
  says_places j =
      let place = record-place k s fs (its_few b) (its_parts b) j in
      rw said ((λ h. rw (add-one j) (record_start k s fs (its_few b) (its_parts b) j h)), (λ h. past_last k fs (its_few b) j h), place.0, place.1, kinds_at k fs j)

pub no_places : (o : Outcome) (r : Answer) → r ≡ answer_of o → r.no ≢ 0
    → (r.kind ≡ missing_row) × (r.starts ≡ replicate 7 0) × (r.lens ≡ replicate 7 0) × (r.kinds ≡ replicate 7 missing_row)
no_places (accepted k fs) r e n = absurd (n (ap (λ (a : Answer). a.no) e))
no_places (refused m i) r e n = (ap (λ (a : Answer). a.kind) e, ap (λ (a : Answer). a.starts) e, ap (λ (a : Answer). a.lens) e, ap (λ (a : Answer). a.kinds) e)

-- ---- with a refusal: of a part that is said, where nothing stands with another number than 0

abbrev Nothing : ℕ → ℕ → Bytes → Type 0
Nothing n start bytes = (n ≡ 0 → ⊥) → (0 ≡ start) × ([] ≡ bytes)

pub nothing : (n f start : ℕ) (bytes : Bytes) → Nothing n start bytes → (lent part : Bor Bytes) (no field : ℕ) → PartSaid n f start bytes lent part no field → no ≢ 0 → NoPart lent part
nothing n f start bytes none lent part m i p z = let h = none (λ e. z (p.its_no ∙ e)) in same_part (sym h.0) (sym h.1) p.its_part

pub nowhere_refused : (n f start : ℕ) (bytes : Bytes) → Nothing n start bytes → (s : Bytes) (r : Place) → PlaceSaid n f start bytes s r → r.no ≢ 0 → (r.start ≡ 0) × (r.len ≡ 0)
nowhere_refused n f start bytes none s r p z =
    let h = none (λ e. z (ap (λ (x : Place). x.no) p.said ∙ e)) in
    (ap (λ (x : Place). x.start) p.said ∙ sym h.0, ap (λ (x : Place). x.len) p.said ∙ sym (ap length h.1))

-- and where g gives a refusal's own number
pub own_first : (g : Outcome → ℕ) → ((n i : ℕ) → g (refused n i) ≡ n) → (o : Outcome) (no field : ℕ) → no ≡ g o → field ≡ place o
    → ((n i : ℕ) → o ≡ refused n i → (no ≡ n) × (field ≡ i)) × ((k : Kind) (fs : List Bytes) → o ≡ accepted k fs → field ≡ 0)
own_first g own o m j e f = (λ n i h. (e ∙ ap g h ∙ own n i, f ∙ ap place h), λ k fs h. f ∙ ap place h)

wanted_own : (wanted n i : ℕ) → wanted_no (refused n i) wanted ≡ n
unfolding wanted_no
wanted_own wanted n i = refl

pub reading : Reading
reading = record {
  identity_exactly = λ κs a r s p. exactly _ (Built identity_kinds _) (identity_exact _) (identity_says _) r p;
  record_exactly = λ κs a r s p. exactly _ (Built record_kinds _) (record_exact _) (record_says _) r p;
  identity-kind = λ κs a r s p. says_kind _ (Built identity_kinds _) (identity_exact _) (identity_says _) r p;
  record-kind = λ κs a r s p. says_kind _ (Built record_kinds _) (record_exact _) (record_says _) r p;
  identity_places = λ κs a r s p. says_places identity_kinds _ _ (identity_exact _) r p;
  record_places = λ κs a r s p. says_places record_kinds _ _ (record_exact _) r p;
  identity_no_places = λ κs a r s p n. no_places (read_identity _) r p n;
  record_no_places = λ κs a r s p n. no_places (read_record _) r p n;
  identity-fields = λ κs a r s p. hands_back _ (Built identity_kinds _) (identity_exact _) (identity_says _) _ _ _ _ _ p;
  record_fields = λ κs a r s p. hands_back _ (Built record_kinds _) (record_exact _) (record_says _) _ _ _ _ _ p;
  identity_nothing = λ κs a r s p n. nothing _ _ _ _ (no_field (read_identity a.0.now) a.1.0) _ _ _ _ p n;
  record_nothing = λ κs a r s p n. nothing _ _ _ _ (no_field (read_record a.0.now) a.1.0) _ _ _ _ p n;
  identity_field_own = λ κs a r s p. own_first (λ o. wanted_no o a.1.0) (wanted_own a.1.0) _ _ _ p.its_no p.its_field;
  record_field_own = λ κs a r s p. own_first (λ o. wanted_no o a.1.0) (wanted_own a.1.0) _ _ _ p.its_no p.its_field;
  identity_place_own = λ κs a r s p. own_first (λ o. wanted_no o a.1.0) (wanted_own a.1.0) _ _ _ (ap (λ (x : Place). x.no) p.said) (ap (λ (x : Place). x.field) p.said);
  record_place_own = λ κs a r s p. own_first (λ o. wanted_no o a.1.0) (wanted_own a.1.0) _ _ _ (ap (λ (x : Place). x.no) p.said) (ap (λ (x : Place). x.field) p.said);
  identity_points = λ κs a r s p. points_to _ (Built identity_kinds _) (identity_exact _) (identity_says _) _ _ r p;
  record_points = λ κs a r s p. points_to _ (Built record_kinds _) (record_exact _) (record_says _) _ _ r p;
  identity_nowhere = λ κs a r s p n. nowhere_refused _ _ _ _ (no_field (read_identity a.0.now) a.1.0) _ r p n;
  record_nowhere = λ κs a r s p n. nowhere_refused _ _ _ _ (no_field (read_record a.0.now) a.1.0) _ r p n;
  unique = built_unique;
  longest = built_length;
  longest_other = built_shorter;
  identity_length = identity_length;
  unsigned_length = unsigned_length;
  signed_length = signed_length;
  key_length = key_length;
}
