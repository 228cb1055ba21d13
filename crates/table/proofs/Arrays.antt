-- The arrays: the names and the types of all rows, each row after the other.
-- Assumes nothing.
use Prim.Native.Nat.{ℕ, zero, suc, ◌+◌, ◌-◌, ◌≤◌, ◌<◌}
use mathlib.Core.Path.{◌≡◌, refl, sym, ap, ◌∙◌}
use mathlib.Core.List.{List, [], ◌∷◌, map, flatten}
use native.Mathlib.Omega.{arith}
use native.Mathlib.Numerals.{add-one}
use lib.ListN.{length, take, drop, get_or, get_or-eq_default, get_or-map}
use lib.Seq.{get_or-take}
use lib.Dec.{T, ltb, ltb→lt, lit<}
use mir.Syntax.{w64}
use mir.Val.{Fits}
use Rattle.text.specs.Text.{all_of, Ident}
use Rattle.text.proofs.Tests.{less_or, at_every, all_below, below}
use Rattle.format.specs.Kinds.{Kind, Field, Text, name, fields_of, all_kinds}
use Rattle.table.specs.Table.{row_count, of_row, fields_at, count_of, field_type, TypeOf}
use Rattle.table.proofs.Rows.{in_row, past_rows}
use Rattle.table.proofs.Codes.{code_count, code_of}
use Rattle.table.proofs.Pieces.{places, Piece, piece, piece_length, piece_entry}

-- an entry of an array of bytes, as a word
pub entry_fits : (l : List ℕ) → T (all_of (map (λ n. ltb n 256) l)) → (i : ℕ) → Fits w64 (get_or l i 0)
entry_fits l t i = record { fits = omega (arith, ltb→lt (get_or l i 0) 256 (at_every (λ n. ltb n 256) 0 tt l t i)) }

-- ---- the names

-- where each name starts, and where the last ends
abbrev pub starts : List ℕ
starts = places 0 (map name all_kinds)

pub name_piece : (row : ℕ) → row < row_count → Piece (flatten (map name all_kinds)) (of_row name [] row) (get_or starts row 0) (get_or starts (row + 1) 0)
unfolding of_row
name_piece row h = rw add-one (piece (map name all_kinds) row h)

-- ---- the types

abbrev pub counts : List ℕ
counts = map (λ k. length (fields_of k)) all_kinds

pub count_fields : (row : ℕ) → count_of row ≡ length (fields_at row)
count_fields row =
    less_or row row_count
    (λ h. in_row (λ k. length (fields_of k)) 0 row h ∙ ap length (sym (in_row fields_of [] row h)))
    (λ h. past_rows (λ k. length (fields_of k)) 0 row h ∙ ap length (sym (past_rows fields_of [] row h)))

pub count-few : (row : ℕ) → count_of row < 8
unfolding all_below of_row
count-few row =
    less_or row row_count
    (λ h. ltb→lt (count_of row) 8 (below row_count (λ n. ltb (count_of n) 8) tt row h))
    (λ h. omega (arith, past_rows (λ k. length (fields_of k)) 0 row h))

-- The identity kinds have the same types, which stand there once, for the last of them.
abbrev typed : List Kind
typed = drop 2 all_kinds

-- the types of these kinds, where those of each row start, and their codes
abbrev pub all_types : List Field
all_types = flatten (map fields_of typed)

abbrev pub firsts : List ℕ
firsts = 0 ∷ 0 ∷ take 6 (places 0 (map fields_of typed))

abbrev pub codes : List ℕ
codes = map code_of all_types

fields_typed : (row : ℕ) → fields_at row ≡ get_or (map fields_of typed) (row - 2) []
unfolding of_row
fields_typed zero = refl
fields_typed (suc zero) = refl
fields_typed (suc (suc n)) = let e : suc (suc n) - 2 ≡ n = omega arith in rw e

first_typed : (row : ℕ) → row < row_count → get_or firsts row 0 ≡ get_or (places 0 (map fields_of typed)) (row - 2) 0
first_typed zero h = refl
first_typed (suc zero) h = refl
first_typed (suc (suc n)) h = let e : suc (suc n) - 2 ≡ n = omega arith in rw e (get_or-take 6 (places 0 (map fields_of typed)) n 0 (omega arith))

-- each code stands for its type: one computed test for all rows
codes_types : map field_type codes ≡ all_types
unfolding flatten field_type code_of
codes_types = refl

codes_small : (i : ℕ) → get_or codes i 0 < code_count
unfolding flatten code_of
codes_small i = ltb→lt (get_or codes i 0) code_count (at_every (λ c. ltb c code_count) 0 tt codes tt i)

module _ (row j : ℕ) (h : j < count_of row) where
  pub row_there : row < row_count
  row_there = less_or row row_count (λ l. l) (λ l. absurd (omega (arith, past_rows (λ k. length (fields_of k)) 0 row l)))

  types : Piece all_types (fields_at row) (get_or firsts row 0) (get_or (places 0 (map fields_of typed)) (suc (row - 2)) 0)
  types = rw (fields_typed row, first_typed row row_there) (piece (map fields_of typed) (row - 2) (omega (arith, row_there)))

  pub type_within : get_or firsts row 0 + j < 28
  unfolding flatten
  type_within = omega (arith, piece_length types, count_fields row, types.from_to, types.to_end)

  pub type_here : TypeOf row j (get_or codes (get_or firsts row 0 + j) 0)
  unfolding field_type
  type_here =
      record {
        means =
            sym (get_or-map field_type codes (get_or firsts row 0 + j) 0)
            ∙ ap (λ (l : List Field). get_or l (get_or firsts row 0 + j) (Text Ident)) codes_types
            ∙ piece_entry types j (Text Ident) (omega (arith, count_fields row));
        listed = codes_small (get_or firsts row 0 + j);
      }

pub type_past : (row j : ℕ) → count_of row ≤ j → TypeOf row j 0
unfolding field_type
type_past row j h =
    record {
      means = sym (get_or-eq_default (fields_at row) (Text Ident) (omega (arith, count_fields row)));
      listed = lit< tt;
    }
