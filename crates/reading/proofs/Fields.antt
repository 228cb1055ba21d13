-- The fields from left to right, by the row of their kind.
-- Assumes nothing.
use Prim.Native.Nat.{ℕ, suc, ◌+◌, ◌≤◌, ◌<◌}
use mathlib.Core.Path.{◌≡◌, refl, ap, sym, ◌∙◌}
use mathlib.Core.List.{List, [], ◌∷◌}
use native.Mathlib.Omega.{arith}
use native.Mathlib.Numerals.{add-one}
use lib.ListN.{drop, drop_of_length-le}
use lib.Seq.{drop-cons, drop-drop}
use Rattle.text.specs.Text.{Bytes, Ident}
use Rattle.format.specs.Kinds.{Kind, Text, fields_of}
use Rattle.format.specs.Read.{Outcome, refused, passing, each, field_answer, whole_answer, judged}
use Rattle.format.specs.declared.Rules.{Rules}
use Rattle.table.specs.Table.{row_of, count_of, fields_at, field_type, TypeOf}
use Rattle.table.proofs.Rows.{of-kind}
use Rattle.table.proofs.Arrays.{count_fields}
use Rattle.reading.specs.declared.Refused.{Refused}
use Rattle.reading.specs.Steps.{AllPass, FirstRefused}
use Rattle.reading.proofs.Outcomes.{passing_stop, passing_on}

-- the fields before j are accepted, so that the others decide
pub record Passed (ask : Bytes → Outcome) (row : ℕ) (fs : List Bytes) (j : ℕ) : Type 0 where
  pub left : (o : Outcome) → each ask (suc j) (drop j (fields_at row)) (drop j fs) o ≡ each ask 1 (fields_at row) fs o

module _ (ask : Bytes → Outcome) (row : ℕ) (fs : List Bytes) where
  pub passed_none : Passed ask row fs 0
  passed_none = record { left = λ o. refl }

  pub passed_all : (j : ℕ) → Passed ask row fs j → count_of row ≤ j → AllPass ask row fs
  passed_all j p h =
      record { all = λ o. sym (p.left o) ∙ rw (drop_of_length-le (fields_at row) {i = j} (omega (arith, count_fields row))) }

  -- field j is f, and its number is n
  module _ (j : ℕ) (p : Passed ask row fs j) (h : j < count_of row) (f : Bytes) (rest : List Bytes) (e : drop j fs ≡ f ∷ rest) (t n : ℕ) (ty : TypeOf row j t) (a : n ≡ field_answer ask (field_type t) f) where
    pub after_field : drop (suc j) fs ≡ rest
    after_field = rw (← add-one j) (sym (drop-drop 1 j fs) ∙ ap (drop 1) e)

    one : (o : Outcome) → each ask (suc j) (drop j (fields_at row)) (drop j fs) o ≡ passing n (suc j) (each ask (suc (suc j)) (drop (suc j) (fields_at row)) (drop (suc j) fs) o)
    one o = rw (drop-cons (fields_at row) j (Text Ident) (omega (arith, count_fields row)), e, after_field, ← ty.means, ← a)

    pub passed_not : (n ≡ 0 → ⊥) → FirstRefused ask row fs (record { no = n; field = j + 1 })
    passed_not z = record { first = λ o. sym (p.left o) ∙ one o ∙ passing_stop n (suc j) _ z ∙ ap (refused n) (sym (add-one j)) }

    pub passed_on : n ≡ 0 → Passed ask row fs (j + 1)
    passed_on z = record { left = λ o. rw (add-one j) (sym (passing_on n (suc j) _ z) ∙ sym (one o) ∙ p.left o) }

-- the fields each, and then together
module _ (rules : Rules) {ask : Bytes → Outcome} (k : Kind) {row : ℕ} {fs : List Bytes} (e : row ≡ row_of k) where
  pub judged_on : AllPass ask row fs → (o : Outcome) → judged rules ask k fs o ≡ passing (whole_answer rules k fs) 0 o
  unfolding judged
  judged_on c o = rw (← of-kind fields_of [] k, ← e) (c.all (passing (whole_answer rules k fs) 0 o))

  pub judged_stop : {r : Refused} → FirstRefused ask row fs r → (o : Outcome) → judged rules ask k fs o ≡ refused r.no r.field
  unfolding judged
  judged_stop c o = rw (← of-kind fields_of [] k, ← e) (c.first (passing (whole_answer rules k fs) 0 o))
