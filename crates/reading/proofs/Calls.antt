-- The whole call, step by step.
-- Assumes nothing.
use mathlib.Core.Logic.{⊎_elim}
use Rattle.std.specs.Prelude.{Result, Ok, Err}
use Prim.Native.Nat.{ℕ, ◌≤◌, ◌<◌}
use mathlib.Core.Path.{◌≡◌, refl, ap, sym, ◌∙◌}
use mathlib.Core.List.{List, ◌∷◌}
use native.Mathlib.Omega.{arith}
use lib.ListN.{length, take, drop, length-take}
use lib.Dec.{T, lit<}
use borrow.Author.Tests.{eq-eqb, ne_eqb}
use Rattle.text.specs.Text.{Bytes}
use Rattle.format.specs.Kinds.{Kind, name, mark, fields_of, identity_kinds, record_kinds, among}
use Rattle.format.specs.Read.{Outcome, accepted, refused, passing, title, mark_after, kind_in, of_kind, body, cut, fields_in, whole_answer, judged, read_over, nobody, read_identity, read_under, read_of, read_record}
use Rattle.format.specs.declared.Rules.{Rules}
use Rattle.format.specs.declared.Rules.TheVariants.{Today}
use Rattle.format.proofs.Table.{all_among, kind_in_some}
use Rattle.table.specs.Table.{row_of, row_for, mark_of, count_of}
use Rattle.table.proofs.Rows.{Found, found, of-kind}
use Rattle.table.proofs.Arrays.{count-few}
use Rattle.places.specs.Places.{starts_of, lens_of, places_of}
use Rattle.places.specs.declared.Places.{Places}
use Rattle.places.proofs.Stands.{parts_all, body_part, first_start}
use Rattle.reading.specs.Reading.{kind_within, kinds_of, no_kinds, judged_by}
use Rattle.reading.specs.declared.Refused.{Refused}
use Rattle.reading.specs.Steps.{form_no, places_in, kinds_or, parts_by, AllPass, FirstRefused}
use Rattle.reading.proofs.Outcomes.{passing_stop, passing_on, over_kind}
use Rattle.reading.proofs.Form.{from_fields, from_count, of_form, form_found, Placed, placed, unplaced}
use Rattle.reading.proofs.Answers.{denied_so, agreed_so, agreed_kinds}
use Rattle.reading.proofs.Fields.{judged_on, judged_stop}
use Rattle.reading.proofs.Whole.{judged_kind}

-- ---- past number 1: the row that was found

pub record Begun (ks : List Kind) (s : Bytes) (row : ℕ) : Type 0 where
  pub short : length s ≤ 1024
  pub row_is : row ≡ row_for (kind_in ks (title s) (mark_after s))

-- t and m are the title and its mark as the code has them
pub begun : (ks : List Kind) (s : Bytes) (row : ℕ) (t : Bytes) (m : ℕ) → length s ≤ 1024 → t ≡ title s → m ≡ mark_after s → row ≡ row_for (kind_in ks t m) → Begun ks s row
begun ks s row t m l et em e = record { short = l; row_is = rw (← et, ← em) e }

module _ (ask : Bytes → Outcome) {ks : List Kind} {s : Bytes} {row : ℕ} (b : Begun ks s row) where
  to_form : (rules : Rules) → read_over rules ask ks s ≡ passing (form_no row s) 0 (of_kind (kind_in ks (title s) (mark_after s)) (from_count rules ask s))
  to_form rules = over_kind rules ask ks s b.short ∙ of_form rules ask s (kind_in ks (title s) (mark_after s)) row b.row_is

  -- ---- past number 4: the kind, and what the fields are answered

  module _ (z : form_no row s ≡ 0) where
    pub its_kind : Found (kind_in ks (title s) (mark_after s)) row
    its_kind = found (kind_in ks (title s) (mark_after s)) row b.row_is (form_found row s z)

    to_count : (rules : Rules) → read_over rules ask ks s ≡ from_count rules ask s its_kind.kind
    to_count rules = to_form rules ∙ passing_on _ 0 _ z ∙ ap (λ o. of_kind o (from_count rules ask s)) its_kind.is

    its_mark : mark_of row ≡ mark its_kind.kind
    its_mark = ap mark_of its_kind.at ∙ of-kind mark 0 its_kind.kind

    all_fields : drop 1 (cut (mark_of row) (body s)) ≡ fields_in its_kind.kind s
    all_fields = rw its_mark

    its_count : count_of row ≡ length (fields_of its_kind.kind)
    its_count = ap count_of its_kind.at ∙ of-kind (λ j. length (fields_of j)) 0 its_kind.kind

    found_count : (places_of (mark_of row) (body s)).count ≡ length (take 8 (fields_in its_kind.kind s))
    unfolding places_of
    found_count = ap (λ (fs : List Bytes). length (take 8 fs)) all_fields

    call_many : (rules : Rules) → ((places_of (mark_of row) (body s)).count ≡ count_of row → ⊥) → read_over rules ask ks s ≡ refused 5 0
    call_many rules h =
        to_count rules
        ∙ rw (ne_eqb (length (fields_in its_kind.kind s)) (length (fields_of its_kind.kind)) (λ e. h (omega (arith, found_count, its_count, count-few row, length-take 8 (fields_in its_kind.kind s)))))

  pub call_places_not : (n : ℕ) → Err n ≡ places_in row s → (rules : Rules) → read_over rules ask ks s ≡ refused n 0
  call_places_not n e rules =
      ⊎_elim (λ t. to_form rules ∙ passing_stop _ 0 _ t.1 ∙ ap (λ m. refused m 0) (sym t.0))
      (λ t. call_many t.0 rules t.2 ∙ ap (λ m. refused m 0) (sym t.1))
      (unplaced row s n e)

  -- ---- past number 5: the places of the fields are p, and d is the body as the code has it

  module _ {p : Places} (e : Ok p ≡ places_in row s) where
    abbrev ep : Placed row s p
    ep = placed row s p e

    abbrev pub call_kind : Found (kind_in ks (title s) (mark_after s)) row
    call_kind = its_kind ep.formed

    pub call_among : T (among call_kind.kind ks)
    call_among = (kind_in_some ks (title s) (mark_after s) call_kind.kind call_kind.is).0

    abbrev pub call_parts : List Bytes
    call_parts = fields_in call_kind.kind s

    as_many : length call_parts ≡ count_of row
    as_many = omega (arith, found_count ep.formed, ap (λ (x : Places). x.count) ep.is, ep.counted, count-few row, length-take 8 call_parts)

    pub to_fields : (rules : Rules) → read_over rules ask ks s ≡ from_fields rules ask s call_kind.kind
    to_fields rules = to_count ep.formed rules ∙ rw (eq-eqb (length call_parts) (length (fields_of call_kind.kind)) (as_many ∙ its_count ep.formed))

    pub call_starts : cut (mark call_kind.kind) (body s) ≡ name call_kind.kind ∷ call_parts → p.starts ≡ starts_of call_kind.kind call_parts
    unfolding places_of
    call_starts c = ap (λ (x : Places). x.starts) ep.is ∙ rw (all_fields ep.formed, first_start (mark_of row) (body s) (name call_kind.kind) call_parts (rw (its_mark ep.formed) c))

    pub call_lens : p.lens ≡ lens_of call_parts
    unfolding places_of
    call_lens = ap (λ (x : Places). x.lens) ep.is ∙ ap lens_of (all_fields ep.formed)

    pub call_places : (d : Bytes) → d ≡ body s → parts_by row d p.starts p.lens ≡ call_parts
    call_places d ed =
        rw (ed, ep.is) (parts_all (body s) (places_of (mark_of row) (body s)).starts (places_of (mark_of row) (body s)).lens (drop 1 (cut (mark_of row) (body s))) (count_of row) (ap length (all_fields ep.formed) ∙ as_many) (body_part (mark_of row) (body s) (omega (arith, ap length (all_fields ep.formed), as_many, count-few row))))
        ∙ all_fields ep.formed

    module _ (d : Bytes) (ed : d ≡ body s) where
      pub call_field : {r : Refused} → FirstRefused ask row (parts_by row d p.starts p.lens) r → (rules : Rules) → read_over rules ask ks s ≡ refused r.no r.field
      call_field c rules = to_fields rules ∙ judged_stop rules call_kind.kind call_kind.at (rw (call_places d ed) at c) _

      pub call_accepted : AllPass ask row (parts_by row d p.starts p.lens) → (rules : Rules) → whole_answer rules call_kind.kind call_parts ≡ 0 → read_over rules ask ks s ≡ accepted call_kind.kind call_parts
      call_accepted c rules w = to_fields rules ∙ judged_on rules call_kind.kind call_kind.at (rw (call_places d ed) at c) _ ∙ passing_on _ 0 _ w

-- ---- the calls by name

pub identity_is : (s : Bytes) → read_identity s ≡ read_over Today nobody identity_kinds s
unfolding read_identity
identity_is s = refl

pub under_is : (rules : Rules) (ks : List Kind) (s : Bytes) → read_under rules ks s ≡ read_over rules read_identity ks s
unfolding read_under
under_is rules ks s = refl

pub record_is : (s : Bytes) → read_record s ≡ read_of record_kinds s
unfolding read_record
record_is s = refl

-- ---- what is known of identity kinds

module _ {s : Bytes} {row : ℕ} (b : Begun identity_kinds s row) {p : Places} (e : Ok p ≡ places_in row s) where
  pub identity_below : row < 3
  identity_below = rw (call_kind nobody b e).at (all_among (λ k. row_of k < 3) identity_kinds (lit< tt, (lit< tt, (lit< tt, tt))) (call_kind nobody b e).kind (call_among nobody b e))

  pub identity_plain : whole_answer Today (call_kind nobody b e).kind (call_parts nobody b e) ≡ 0
  unfolding whole_answer
  identity_plain = all_among (λ k. whole_answer Today k (call_parts nobody b e) ≡ 0) identity_kinds (refl, (refl, (refl, tt))) (call_kind nobody b e).kind (call_among nobody b e)

  pub identity-kinds : no_kinds ≡ kinds_of (call_kind nobody b e).kind (call_parts nobody b e)
  unfolding kinds_of kind_within
  identity-kinds = all_among (λ k. no_kinds ≡ kinds_of k (call_parts nobody b e)) identity_kinds (refl, (refl, (refl, tt))) (call_kind nobody b e).kind (call_among nobody b e)

-- ---- the fields of a record as `judge_under` has them: r is what it says of the parts in d

module _ (rules : Rules) {ks : List Kind} {s : Bytes} {row : ℕ} (b : Begun ks s row) {p : Places} (e : Ok p ≡ places_in row s) (d : Bytes) (ed : d ≡ body s) {r : Result (List ℕ) Refused} (er : r ≡ kinds_or (judged_by rules row (parts_by row d p.starts p.lens))) where
  abbrev kind : Kind
  kind = (call_kind read_identity b e).kind

  abbrev parts : List Bytes
  parts = call_parts read_identity b e

  said : r ≡ kinds_or (judged rules read_identity kind parts (accepted kind parts))
  said = er ∙ ap (λ (x : List Bytes). kinds_or (judged_by rules row x)) (call_places read_identity b e d ed) ∙ ap kinds_or (judged_kind rules kind row parts (call_kind read_identity b e).at)

  read : read_under rules ks s ≡ judged rules read_identity kind parts (accepted kind parts)
  read = under_is rules ks s ∙ to_fields read_identity b e rules

  pub record_refused : (x : Refused) → Err x ≡ r → read_under rules ks s ≡ refused x.no x.field
  record_refused x u = read ∙ denied_so rules kind parts said x u (accepted kind parts)

  pub record_accepted : (kinds : List ℕ) → Ok kinds ≡ r → read_under rules ks s ≡ accepted kind parts
  record_accepted kinds u = read ∙ agreed_so rules kind parts said kinds u (accepted kind parts)

  pub record-kinds : (kinds : List ℕ) → Ok kinds ≡ r → kinds ≡ kinds_of kind parts
  record-kinds kinds u = agreed_kinds rules kind parts said kinds u
