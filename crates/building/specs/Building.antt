-- The building call: document 01, "Seven kinds of record" (last paragraphs) and "Numbers given back", order when building: 2 for a
-- kind outside the table, 5, fields left to right, 8, 10; document 02, E1: 14 after 8, and 1 just before 10; STS 600-4-2, clause 5.8.1.
-- Assumes nothing.
use Rattle.std.specs.Prelude.{ℕ, ◌+◌, ◌≤◌, ◌≡◌, ◌&&◌, List, [], ◌∷◌, ◌++◌, length, take, drop, leb, eqb}
use Rattle.text.specs.Text.{Bytes}
use Rattle.numbers.specs.Numbers.{too_long, wrong_count, short_output}
use Rattle.format.specs.Kinds.{Kind, name, fields_of, all_kinds}
use Rattle.format.specs.Build.{record_of, longest_record, Permitted}
use Rattle.format.specs.Read.{Outcome, accepted, refused, provided, of_kind, judged, read_identity}
use Rattle.format.specs.declared.Rules.TheVariants.{Today}
use Rattle.table.specs.Table.{named}
use Rattle.places.specs.Places.{lengths}
use Rattle.put.specs.Made.{Made, made, denied}

-- ---- the fields as the call is lent them: all bytes one after another, without marks, and the list of the fields' lengths

abbrev pub sum : List ℕ → ℕ
sum [] = 0
sum (n ∷ ns) = n + sum ns

-- the parts of s that have these lengths
abbrev pub pieces : List ℕ → Bytes → List Bytes
pieces [] s = []
pieces (n ∷ ns) s = take n s ∷ pieces ns (drop n s)

-- and back
abbrev pub run : List Bytes → Bytes
run [] = []
run (f ∷ fs) = f ++ run fs

-- ---- the call

-- a record of kind k: number 5, the fields, 8 and 14, 1, 10
unfoldable pub build_as : Bytes → List ℕ → ℕ → Kind → Outcome
build_as bytes ns room k =
    provided (eqb (length ns) (length (fields_of k)) && eqb (sum ns) (length bytes)) wrong_count
    (judged Today read_identity k (pieces ns bytes)
    (provided (leb (length (record_of k (pieces ns bytes))) longest_record) too_long
    (provided (leb (length (record_of k (pieces ns bytes))) room) short_output
    (accepted k (pieces ns bytes)))))

-- the kind name t, the bytes of the fields, their lengths, and the length of the lent output
unfoldable pub build_of : Bytes → Bytes → List ℕ → ℕ → Outcome
build_of t bytes ns room = of_kind (named all_kinds t) (build_as bytes ns room)

-- what is written
abbrev pub record_made : Outcome → Made
record_made (accepted k fs) = made (record_of k fs)
record_made (refused n i) = denied n i

unfoldable pub build : Bytes → Bytes → List ℕ → ℕ → Made
build t bytes ns room = record_made (build_of t bytes ns room)

-- ---- what may be built: t is the kind's name, bytes and ns are the fields fs as the call is lent them, and there is room

pub record Builds (t bytes : Bytes) (ns : List ℕ) (room : ℕ) (k : Kind) (fs : List Bytes) : Type 0 where
  pub named_so : t ≡ name k
  pub lengths_so : ns ≡ lengths fs
  pub bytes_so : bytes ≡ run fs
  pub permitted_so : Permitted k fs
  pub room_so : length (record_of k fs) ≤ room
