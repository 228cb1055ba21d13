-- What the private functions of the crate answer. No clause of a document stands here.
-- Assumes nothing.
use Rattle.std.specs.Prelude.{ℕ, ◌+◌, ◌≡◌, cond, ◌&&◌, List, [], ◌∷◌, length, get_or, eqb}
use Rattle.text.specs.Text.{Bytes}
use Rattle.numbers.specs.Numbers.{unknown_kind, wrong_count}
use Rattle.table.specs.Table.{missing_row, count_of}
use Rattle.places.specs.Places.{seven, part_at}
use Rattle.places.specs.declared.Places.{Places}
use Rattle.building.specs.Building.{sum, pieces}

-- numbers 2 and 5, by the row that was found
unfoldable pub count_no : ℕ → Bytes → List ℕ → ℕ
count_no row bytes ns = cond (eqb row missing_row) unknown_kind (cond (eqb (length ns) (count_of row) && eqb (sum ns) (length bytes)) 0 wrong_count)

-- where fields of these lengths stand, one behind the other, the first at p
abbrev pub starts_by : ℕ → List ℕ → List ℕ
starts_by p [] = []
starts_by p (n ∷ ns) = p ∷ starts_by (p + n) ns

abbrev pub places_by : List ℕ → Places
places_by ns = record { count = length ns; starts = seven 0 (starts_by 0 ns); lens = seven 0 ns }

-- the fields as the call is lent them stand at these places
pub record Lie (bytes : Bytes) (ns starts lens : List ℕ) : Type 0 where
  pub at : (j : ℕ) → part_at bytes starts lens j ≡ get_or (pieces ns bytes) j []
