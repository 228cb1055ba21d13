-- The whole call, step by step.
-- Assumes nothing.
use Prim.Native.Nat.{ℕ, ◌+◌, ◌≤◌, ◌<◌}
use mathlib.Core.Path.{◌≡◌, refl, sym, ap, ap₂, ◌∙◌}
use mathlib.Core.List.{List, ◌∷◌}
use native.Mathlib.Omega.{arith}
use lib.ListN.{length}
use borrow.Author.Tests.{le-leb, lt-leb}
use Rattle.text.specs.Text.{Bytes}
use Rattle.format.specs.Kinds.{Kind, name, mark, all_kinds}
use Rattle.format.specs.Build.{joined, with_check, record_of, longest_record}
use Rattle.format.specs.Read.{accepted, refused, passing, of_kind, judged, read_identity}
use Rattle.format.specs.declared.Rules.TheVariants.{Today}
use Rattle.format.proofs.Parts.{record_length}
use Rattle.table.specs.Table.{row_for, mark_of, count_of, named}
use Rattle.table.proofs.Rows.{Found, found, of-kind}
use Rattle.table.proofs.Arrays.{count-few}
use Rattle.places.specs.Places.{parts_from}
use Rattle.places.specs.declared.Places.{Places}
use Rattle.places.proofs.Stands.{parts_all}
use Rattle.reading.specs.Reading.{judged_by, judged_said}
use Rattle.reading.specs.declared.Judged.{Judged}
use Rattle.reading.proofs.Outcomes.{passing_stop, passing_on, passing_as}
use Rattle.reading.proofs.Answers.{denied, agreed}
use Rattle.reading.proofs.Whole.{judged_kind}
use Rattle.put.specs.Put.{Put}
use Rattle.put.specs.Made as made
use Rattle.put.specs.Made.{says, Writes}
use Rattle.put.specs.declared.Written.{Written}
use Rattle.put.proofs.Pieces.{put_whole, put_denied}
use Rattle.building.specs.Building.{sum, pieces, build_of, build}
use Rattle.building.specs.Steps.{count_no, places_by, Lie}
use Rattle.building.proofs.Pieces.{pieces_count, lie}
use Rattle.table.proofs.Names.{named_some, name_short}
use Rattle.building.proofs.Form.{form_found, form_counted, from_room, from_length, from_fields, of_form}
use Rattle.building.proofs.Writing.{joined_length}

-- ---- what an outcome writes

module _ (t bytes : Bytes) (ns : List ℕ) where
  pub call_denied : {out : Bytes} {n i : ℕ} (r : Written) → build_of t bytes ns (length out) ≡ refused n i → r ≡ says (made.denied n i)
      → Writes (build t bytes ns (length out)) out out r
  unfolding build
  call_denied r e q = rw e (put_denied r q)

  pub call_made : {out out' : Bytes} {len : ℕ} (k : Kind) (fs : List Bytes) → build_of t bytes ns (length out) ≡ accepted k fs → Put out 0 (record_of k fs) out' len
      → Writes (build t bytes ns (length out)) out out' (record { no = 0; field = 0; len = len })
  unfolding build
  call_made k fs e p = rw e (put_whole p)

-- ---- the row that was found, and numbers 2 and 5

pub record Begun (t bytes : Bytes) (ns : List ℕ) (row no : ℕ) : Type 0 where
  pub row_is : row ≡ row_for (named all_kinds t)
  pub no_is : no ≡ count_no row bytes ns

pub begun : (t bytes : Bytes) (ns : List ℕ) {row : ℕ} → row ≡ row_for (named all_kinds t) → Begun t bytes ns row (count_no row bytes ns)
begun t bytes ns e = record { row_is = e; no_is = refl }

module _ {t bytes : Bytes} {ns : List ℕ} {row no : ℕ} (b : Begun t bytes ns row no) (room : ℕ) where
  to_form : build_of t bytes ns room ≡ passing no 0 (of_kind (named all_kinds t) (from_fields bytes ns room))
  unfolding build_of
  to_form = of_form bytes ns room (named all_kinds t) row b.row_is ∙ passing_as 0 _ (sym b.no_is)

  pub call_form : (no ≡ 0 → ⊥) → build_of t bytes ns room ≡ refused no 0
  call_form n = to_form ∙ passing_stop no 0 _ n

-- ---- past number 5: the kind, its name, and the lengths

module _ {t bytes : Bytes} {ns : List ℕ} {row no : ℕ} (b : Begun t bytes ns row no) (z : no ≡ 0) where
  pub call_kind : Found (named all_kinds t) row
  call_kind = found (named all_kinds t) row b.row_is (form_found row bytes ns (sym b.no_is ∙ z))

  pub call_counted : (length ns ≡ count_of row) × (sum ns ≡ length bytes)
  call_counted = form_counted row bytes ns (sym b.no_is ∙ z)

  call_name : t ≡ name call_kind.kind
  call_name = named_some all_kinds t call_kind.kind call_kind.is

  -- the fields at the places r as the code has them
  pub call_lie : (r : Places) → r ≡ places_by ns → Lie bytes ns r.starts r.lens
  call_lie = lie bytes ns (omega (arith, call_counted, count-few row)) call_counted.1

  pub call_parts : (r : Places) → r ≡ places_by ns → parts_from bytes r.starts r.lens 0 (count_of row) ≡ pieces ns bytes
  call_parts r e = parts_all bytes r.starts r.lens (pieces ns bytes) (count_of row) (pieces_count ns bytes ∙ call_counted.0) (call_lie r e).at

  -- so that the length of the record does not wrap round
  pub call_few : (length t ≤ 13) × (length ns < 8)
  call_few = (rw call_name (name_short call_kind.kind), omega (arith, call_counted, count-few row))

  -- the record, as the code writes it; m is the mark as the code has it
  pub call_record : (m : ℕ) → m ≡ mark_of row → with_check (joined m (t ∷ pieces ns bytes)) ≡ record_of call_kind.kind (pieces ns bytes)
  unfolding record_of
  call_record m e =
      ap₂ (λ (x : ℕ) (y : Bytes). with_check (joined x (y ∷ pieces ns bytes))) (e ∙ ap mark_of call_kind.at ∙ of-kind mark 0 call_kind.kind) call_name

  needed : length (record_of call_kind.kind (pieces ns bytes)) ≡ length t + 1 + length bytes + length ns + 4
  needed =
      omega (arith, record_length call_kind.kind (pieces ns bytes), joined_length (mark call_kind.kind) ns bytes call_counted.1, ap length call_name)

  -- ---- the fields: j is what is said of the parts ps at the places of the code

  module _ (ps : List Bytes) (ep : ps ≡ pieces ns bytes) (j : Judged) (ej : j ≡ judged_said (judged_by Today row ps)) where
    said : j ≡ judged_said (judged Today read_identity call_kind.kind (pieces ns bytes) (accepted call_kind.kind (pieces ns bytes)))
    said = ej ∙ ap (λ (x : List Bytes). judged_said (judged_by Today row x)) ep ∙ ap judged_said (judged_kind Today call_kind.kind row (pieces ns bytes) call_kind.at)

    to_fields : (room : ℕ) → build_of t bytes ns room ≡ from_fields bytes ns room call_kind.kind
    to_fields room = to_form b room ∙ passing_on no 0 _ z ∙ ap (λ o. of_kind o (from_fields bytes ns room)) call_kind.is

    pub call_fields : (room : ℕ) → (j.no ≡ 0 → ⊥) → build_of t bytes ns room ≡ refused j.no j.field
    call_fields room u = to_fields room ∙ denied Today call_kind.kind (pieces ns bytes) j said u (from_length bytes ns room call_kind.kind)

    -- ---- the length and the room

    module _ (u : j.no ≡ 0) (room : ℕ) where
      to_length : build_of t bytes ns room ≡ from_length bytes ns room call_kind.kind
      to_length = to_fields room ∙ agreed Today call_kind.kind (pieces ns bytes) j said u (from_length bytes ns room call_kind.kind)

      pub call_long : longest_record < length t + 1 + length bytes + length ns + 4 → build_of t bytes ns room ≡ refused 1 0
      call_long h = to_length ∙ rw (lt-leb (length (record_of call_kind.kind (pieces ns bytes))) longest_record (omega (arith, needed)))

      module _ (short : length t + 1 + length bytes + length ns + 4 ≤ longest_record) where
        to_room : build_of t bytes ns room ≡ from_room bytes ns room call_kind.kind
        to_room = to_length ∙ rw (le-leb (length (record_of call_kind.kind (pieces ns bytes))) longest_record (omega (arith, needed)))

        pub call_narrow : room < length t + 1 + length bytes + length ns + 4 → build_of t bytes ns room ≡ refused 10 0
        call_narrow h = to_room ∙ rw (lt-leb (length (record_of call_kind.kind (pieces ns bytes))) room (omega (arith, needed)))

        pub call_fits : length t + 1 + length bytes + length ns + 4 ≤ room → build_of t bytes ns room ≡ accepted call_kind.kind (pieces ns bytes)
        call_fits h = to_room ∙ rw (le-leb (length (record_of call_kind.kind (pieces ns bytes))) room (omega (arith, needed)))
