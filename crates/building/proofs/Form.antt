-- Numbers 2 and 5, by the row that was found.
-- Assumes nothing.
use Prim.Native.Nat.{ℕ}
use mathlib.Core.Path.{◌≡◌, refl}
use mathlib.Core.Bool.{Bool, true, false, cond, ◌&&◌}
use mathlib.Core.Option.{Option, none, some}
use mathlib.Core.List.{List}
use native.Mathlib.Omega.{arith}
use lib.ListN.{length}
use lib.Dec.{T, leb, eqb, eqb→eq}
use mir.Facts.{and_yes}
use borrow.Author.Tests.{eq-eqb, ne_eqb}
use Rattle.text.specs.Text.{Bytes}
use Rattle.numbers.specs.Numbers.{too_long, short_output}
use Rattle.format.specs.Kinds.{Kind, fields_of}
use Rattle.format.specs.Build.{record_of, longest_record}
use Rattle.format.specs.Read.{Outcome, accepted, provided, passing, of_kind, judged, read_identity}
use Rattle.format.specs.declared.Rules.TheVariants.{Today}
use Rattle.table.specs.Table.{row_of, missing_row, row_for, count_of}
use Rattle.table.proofs.Rows.{row_small, of-kind}
use Rattle.building.specs.Building.{sum, pieces, build_as}
use Rattle.building.specs.Steps.{count_no}

two_tests : (a b : Bool) → ◌≡◌ {A = ℕ} (cond a 2 (cond b 0 5)) 0 → T b
two_tests true b e = absurd (omega arith)
two_tests false true e = tt
two_tests false false e = absurd (omega arith)

module _ (row : ℕ) (bytes : Bytes) (ns : List ℕ) where
  -- ---- the tests in a row

  pub form_none : row ≡ missing_row → 2 ≡ count_no row bytes ns
  unfolding count_no
  form_none e = rw (eq-eqb row missing_row e)

  -- n is the count and b the sum's test as the code has them
  module _ (h : row ≡ missing_row → ⊥) (n : ℕ) (en : n ≡ count_of row) where
    pub form_count : (length ns ≡ n → ⊥) → 5 ≡ count_no row bytes ns
    unfolding count_no
    form_count l = rw (ne_eqb row missing_row h, ← en, ne_eqb (length ns) n l)

    pub form_sum : length ns ≡ n → (b : Bool) → b ≡ eqb (sum ns) (length bytes) → cond b 0 5 ≡ count_no row bytes ns
    unfolding count_no
    form_sum l b eb = rw (ne_eqb row missing_row h, ← en, eq-eqb (length ns) n l, ← eb)

  -- ---- a form without a number

  module _ (z : count_no row bytes ns ≡ 0) where
    pub form_found : row ≡ missing_row → ⊥
    form_found e = omega (arith, form_none e)

    pub form_counted : (length ns ≡ count_of row) × (sum ns ≡ length bytes)
    unfolding count_no
    form_counted =
        let a = eqb (length ns) (count_of row) in
        let b = eqb (sum ns) (length bytes) in
        let t = and_yes a b (two_tests (eqb row missing_row) (a && b) z) in
        (eqb→eq (length ns) (count_of row) t.0, eqb→eq (sum ns) (length bytes) t.1)

-- ---- what is left is the fields, the length and the room

module _ (bytes : Bytes) (ns : List ℕ) (room : ℕ) where
  abbrev pub from_room : Kind → Outcome
  from_room k = provided (leb (length (record_of k (pieces ns bytes))) room) short_output (accepted k (pieces ns bytes))

  abbrev pub from_length : Kind → Outcome
  from_length k = provided (leb (length (record_of k (pieces ns bytes))) longest_record) too_long (from_room k)

  abbrev pub from_fields : Kind → Outcome
  from_fields k = judged Today read_identity k (pieces ns bytes) (from_length k)

  as_form : (k : Kind) → build_as bytes ns room k ≡ passing (count_no (row_of k) bytes ns) 0 (from_fields k)
  unfolding build_as count_no
  as_form k =
      rw (ne_eqb (row_of k) missing_row (λ e. omega (arith, row_small k)), of-kind (λ j. length (fields_of j)) 0 k)
      (test (eqb (length ns) (length (fields_of k)) && eqb (sum ns) (length bytes)))
    where
      test : (b : Bool) → provided b 5 (from_fields k) ≡ passing (cond b 0 5) 0 (from_fields k)
      test true = refl
      test false = refl

  pub of_form : (o : Option Kind) (row : ℕ) → row ≡ row_for o
      → of_kind o (build_as bytes ns room) ≡ passing (count_no row bytes ns) 0 (of_kind o from_fields)
  of_form none row e = rw (← form_none row bytes ns e)
  of_form (some k) row e = rw e (as_form k)
