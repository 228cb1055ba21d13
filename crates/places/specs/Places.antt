-- Where the fields of a record stand: document 01, "Seven kinds of record". Fields are handed back as parts of the caller's own
-- bytes, each behind the kind's name and the fields before it, with their marks.
-- Assumes nothing.
use Rattle.std.specs.Prelude.{ℕ, zero, suc, ◌+◌, Bool, cond, ◌&&◌, List, [], ◌∷◌, length, take, drop, get_or, replicate, leb, ltb}
use Rattle.std.proofs.lemmas.List.Edits.{sets}
use Rattle.std.specs.Borrow.{Bor}
use Rattle.text.specs.Text.{Bytes}
use Rattle.text.specs.Part.{Part}
use Rattle.format.specs.Kinds.{Kind, name}
use Rattle.format.specs.Read.{cut}
use Rattle.frame.specs.Frame.{next_mark}
use Rattle.places.specs.declared.Places.{Places}

-- ---- starts and lengths

-- of the fields fs, each with its mark behind it, where the first starts at i
abbrev pub starts_from : ℕ → List Bytes → List ℕ
starts_from i [] = []
starts_from i (f ∷ fs) = i ∷ starts_from (i + length f + 1) fs

abbrev pub lengths : List Bytes → List ℕ
lengths [] = []
lengths (f ∷ fs) = length f ∷ lengths fs

-- seven numbers, d where ns has no more
abbrev pub seven : ℕ → List ℕ → List ℕ
seven d ns = sets (replicate 7 d) 0 ns

-- the first field stands behind the kind's name and its mark
abbrev pub starts_of : Kind → List Bytes → List ℕ
starts_of k fs = seven 0 (starts_from (length (name k) + 1) fs)

abbrev pub lens_of : List Bytes → List ℕ
lens_of fs = seven 0 (lengths fs)

-- how many fields there are, 8 where there are more than seven
abbrev pub count_few : List Bytes → ℕ
count_few fs = length (take 8 fs)

-- ---- the calls

-- the places of the parts of the body b but for the first
unfoldable pub places_of : ℕ → Bytes → Places
places_of m b = record { count = count_few (drop 1 (cut m b)); starts = seven 0 (starts_from (next_mark m b 0 + 1) (drop 1 (cut m b))); lens = lens_of (drop 1 (cut m b)) }

-- place j, from 0, is one of the seven, and lies in s
abbrev pub is_place : Bytes → List ℕ → List ℕ → ℕ → Bool
is_place s starts lens j = ltb j 7 && leb (get_or starts j 0 + get_or lens j 0) (length s)

-- what stands there; empty where that is no part of s
unfoldable pub part_at : Bytes → List ℕ → List ℕ → ℕ → Bytes
part_at s starts lens j = cond (is_place s starts lens j) (take (get_or lens j 0) (drop (get_or starts j 0) s)) []

-- where it starts; at the front of s where that is no part of s
unfoldable pub start_at : Bytes → List ℕ → List ℕ → ℕ → ℕ
start_at s starts lens j = cond (is_place s starts lens j) (get_or starts j 0) 0

-- r is the part of s at place j, where it stands
abbrev pub IsPartAt : Bor Bytes → List ℕ → List ℕ → ℕ → Bor Bytes → Type 0
IsPartAt s starts lens j r = Part s (start_at s.now starts lens j) (part_at s.now starts lens j) r

-- the field of this number, from 1, and where it starts
unfoldable pub field_at : Bytes → List ℕ → List ℕ → ℕ → Bytes
field_at s starts lens zero = []
field_at s starts lens (suc j) = part_at s starts lens j

unfoldable pub field_start_at : Bytes → List ℕ → List ℕ → ℕ → ℕ
field_start_at s starts lens zero = 0
field_start_at s starts lens (suc j) = start_at s starts lens j

-- r is the field of s of this number, where it stands
abbrev pub IsFieldAt : Bor Bytes → List ℕ → List ℕ → ℕ → Bor Bytes → Type 0
IsFieldAt s starts lens n r = Part s (field_start_at s.now starts lens n) (field_at s.now starts lens n) r

-- the parts at n places from place j on
abbrev pub parts_from : Bytes → List ℕ → List ℕ → ℕ → ℕ → List Bytes
parts_from s starts lens j zero = []
parts_from s starts lens j (suc n) = part_at s starts lens j ∷ parts_from s starts lens (suc j) n
