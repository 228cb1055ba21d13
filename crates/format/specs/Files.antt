-- A file of records: document 01, "Files of records and the newer key". A file is lines, each ended by one line feed. What a line is, the call
-- says that is asked about it: the record call for a plain file, and document 02, E6, has another.
-- Assumes nothing.
use Rattle.std.specs.Prelude.{ℕ, zero, suc, ◌+◌, cond, List, [], ◌∷◌, length, drop, leb, ltb, eqb}
use Rattle.text.specs.Text.{Bytes}
use Rattle.numbers.specs.Numbers.{unfinished}
use Rattle.format.specs.Read.{Outcome, accepted, refused, read_record}

abbrev pub line_feed : ℕ
line_feed = 0x0A

-- what stands before the first c, or everything if there is none
abbrev pub up_to : ℕ → Bytes → Bytes
up_to c [] = []
up_to c (d ∷ s) = cond (eqb d c) [] (d ∷ up_to c s)

-- a line: its answer, where it starts, its length without line feed, and the next place
pub record Line : Type 0 where
  pub said : Outcome
  pub start : ℕ
  pub size : ℕ
  pub next : ℕ

-- what the file call says at a place: that the file is finished, with that place as start and as next place and length 0, or a line
pub data Said : Type 0 where
  finished : ℕ → Said
  read : Line → Said

-- ---- the line at a place, which `call` is asked about

-- the bytes l from the place to the first line feed, or to the end: number 11 where no line feed follows
unfoldable pub line_of_over : (Bytes → Outcome) → Bytes → ℕ → Bytes → Line
line_of_over call file place l =
    cond (ltb (place + length l) (length file))
    (record { said = call l; start = place; size = length l; next = place + length l + 1 })
    (record { said = refused unfinished 0; start = place; size = length l; next = length file })

unfoldable pub line_at_over : (Bytes → Outcome) → Bytes → ℕ → Said
line_at_over call file place =
    cond (leb (length file) place)
    (finished place)
    (read (line_of_over call file place (up_to line_feed (drop place file))))

-- ---- walking from a place: call after call, until the file is finished

abbrev pub onward : Said → (ℕ → List Line) → List Line
onward (finished p) walk = []
onward (read l) walk = l ∷ walk l.next

-- at most `most` lines
unfoldable pub walk_from_over : (Bytes → Outcome) → ℕ → Bytes → ℕ → List Line
walk_from_over call zero file place = []
walk_from_over call (suc most) file place = onward (line_at_over call file place) (λ next. walk_from_over call most file next)

-- all lines: no file has more lines than bytes
unfoldable pub walk_over : (Bytes → Outcome) → Bytes → List Line
walk_over call file = walk_from_over call (length file) file 0

-- ---- the lines of a file, said without any walk: ls, each of which has its line feed, from place p on, and then t, which has none

unfoldable pub lines_from_over : (Bytes → Outcome) → ℕ → List Bytes → Bytes → List Line
lines_from_over call p [] [] = []
lines_from_over call p [] (c ∷ t) = record { said = refused unfinished 0; start = p; size = length (c ∷ t); next = p + length (c ∷ t) } ∷ []
lines_from_over call p (l ∷ ls) t =
    record { said = call l; start = p; size = length l; next = p + length l + 1 } ∷ lines_from_over call (p + length l + 1) ls t

-- ---- a plain file: every line is a record

abbrev pub line_at : Bytes → ℕ → Said
line_at = line_at_over read_record

abbrev pub walk : Bytes → List Line
walk = walk_over read_record

abbrev pub lines_from : ℕ → List Bytes → Bytes → List Line
lines_from = lines_from_over read_record

-- ---- totals

abbrev pub one : Outcome → ℕ
one (accepted k fs) = 1
one (refused n i) = 0

abbrev pub accepted_lines : List Line → ℕ
accepted_lines [] = 0
accepted_lines (l ∷ ls) = one l.said + accepted_lines ls
