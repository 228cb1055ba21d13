-- The loops over the fields of a record, by places.
-- Assumes nothing.
use Prim.Native.Nat.{ℕ, suc, ◌+◌, ◌≤◌, ◌<◌}
use mathlib.Core.Path.{◌≡◌, refl, ap, sym, ◌∙◌}
use mathlib.Core.List.{List, [], ◌∷◌}
use native.Mathlib.Omega.{arith}
use native.Mathlib.Numerals.{add-one}
use lib.ListN.{length, drop, get_or, set, length-set, drop_of_length-le}
use lib.Seq.{sets, drop-cons}
use Rattle.text.specs.Text.{Bytes, Ident}
use Rattle.format.specs.Kinds.{Text, Field}
use Rattle.format.specs.Read.{Outcome, field_answer}
use Rattle.table.specs.Table.{missing_row, count_of, fields_at, field_type, TypeOf}
use Rattle.table.proofs.Arrays.{count-few, count_fields}
use Rattle.places.specs.Places.{seven, part_at}
use Rattle.places.proofs.Stands.{parts_count, parts_at}
use Rattle.reading.specs.Reading.{kind_within, kinds_within, no_kinds}
use Rattle.reading.specs.Steps.{parts_by, AllPass, FirstRefused}
use Rattle.reading.proofs.Fields.{Passed, passed_all, passed_not, passed_on}

pub few_fields : (row n : ℕ) → n ≡ count_of row → n < 8
few_fields row n e = omega (arith, e, count-few row)

-- ---- field j, whose number is v

module _ (ask : Bytes → Outcome) (row : ℕ) (s : Bytes) (starts lens : List ℕ) (n : ℕ) (en : n ≡ count_of row) (j : ℕ) (p : Passed ask row (parts_by row s starts lens) j) where
  pub turn_done : n ≤ j → AllPass ask row (parts_by row s starts lens)
  turn_done h = passed_all ask row (parts_by row s starts lens) j p (omega (arith, en))

  module _ (more : j < n) (f : Bytes) (ef : f ≡ part_at s starts lens j) where
    counted : j < count_of row
    counted = omega (arith, more, en)

    pub its_part : f ≡ get_or (parts_by row s starts lens) j []
    its_part = ef ∙ sym (parts_at s starts lens (count_of row) j counted)

    here : drop j (parts_by row s starts lens) ≡ f ∷ drop (suc j) (parts_by row s starts lens)
    here = rw its_part (drop-cons (parts_by row s starts lens) j [] (omega (arith, counted, parts_count s starts lens 0 (count_of row))))

    module _ {t v : ℕ} (ty : TypeOf row j t) (a : v ≡ field_answer ask (field_type t) f) where
      pub turn_stop : (v ≡ 0 → ⊥) → FirstRefused ask row (parts_by row s starts lens) (record { no = v; field = j + 1 })
      turn_stop z = passed_not ask row (parts_by row s starts lens) j p counted f _ here t v ty a z

      pub turn_on : v ≡ 0 → Passed ask row (parts_by row s starts lens) (j + 1)
      turn_on z = passed_on ask row (parts_by row s starts lens) j p counted f _ here t v ty a z

-- ---- the kinds of the identities among the fields fs: all there once those from field j on are written

pub record Written (row : ℕ) (fs : List Bytes) (kinds : List ℕ) (j : ℕ) : Type 0 where
  pub seven_kinds : length kinds ≡ 7
  pub all_kinds : sets kinds j (kinds_within j (drop j (fields_at row)) fs) ≡ seven missing_row (kinds_within 0 (fields_at row) fs)

pub kinds_none : (row : ℕ) (fs : List Bytes) → Written row fs no_kinds 0
kinds_none row fs = record { seven_kinds = refl; all_kinds = refl }

module _ {row : ℕ} {fs : List Bytes} {kinds : List ℕ} {j : ℕ} (g : Written row fs kinds j) where
  pub kinds_done : count_of row ≤ j → kinds ≡ seven missing_row (kinds_within 0 (fields_at row) fs)
  kinds_done h = rw (drop_of_length-le (fields_at row) {i = j} (omega (arith, count_fields row))) at g.all_kinds

  pub kinds_on : j < count_of row → (t k : ℕ) → TypeOf row j t → k ≡ kind_within (field_type t) (get_or fs j []) → Written row fs (set kinds j k) (j + 1)
  kinds_on h t k ty e =
      let types : drop j (fields_at row) ≡ get_or (fields_at row) j (Text Ident) ∷ drop (suc j) (fields_at row) = drop-cons (fields_at row) j (Text Ident) (omega (arith, count_fields row)) in
      let here : kind_within (get_or (fields_at row) j (Text Ident)) (get_or fs j []) ≡ k = sym (e ∙ ap (λ (x : Field). kind_within x (get_or fs j [])) ty.means) in
      record {
        seven_kinds = length-set kinds j k ∙ g.seven_kinds;
        all_kinds = rw (add-one j) (rw (types, here) at g.all_kinds);
      }
