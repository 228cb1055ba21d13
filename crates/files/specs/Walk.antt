-- What the file call and the counting call answer: document 01, "Files of records and the newer key". `line_at` and `walk` of
-- format say it; here it is put into the words of an answer.
-- Assumes nothing.
use Rattle.std.specs.Prelude.{ℕ, ◌-◌, cond, List, leb, length}
use Rattle.text.specs.Text.{Bytes}
use Rattle.numbers.specs.Numbers.{unfinished}
use Rattle.format.specs.Files as files
use Rattle.format.specs.Files.{line_feed, Said, finished, read, accepted_lines}
use Rattle.frame.specs.Frame.{next_mark}
use Rattle.table.specs.Table.{missing_row}
use Rattle.reading.specs.Reading.{answer_of}
use Rattle.files.specs.declared.Line.{Line}
use Rattle.files.specs.declared.Line.TheVariants.{Finished, Read}
use Rattle.files.specs.declared.Totals.{Totals}

-- the first line feed at or after the place, or the end
abbrev pub line_end : Bytes → ℕ → ℕ
line_end file place = next_mark line_feed file place

-- the record call's number, field number and row; the line's start, its length without line feed, and the next place
abbrev pub line_said : Said → Line
line_said (finished place) = Finished place
line_said (read l) = Read (answer_of l.said).no (answer_of l.said).field (answer_of l.said).kind l.start l.size l.next

-- at a place after which no line feed follows, in a file of n bytes: finished, or a line that is not
abbrev pub last_line : ℕ → ℕ → Line
last_line n place = cond (leb n place) (Finished place) (Read unfinished 0 missing_row place (n - place) n)

-- document 01's number and values of each case: a finished file has number and field number 0, that place as start and as next place, and length 0
abbrev pub number_of : Line → ℕ
number_of (Finished place) = 0
number_of (Read n f k start len next) = n

abbrev pub field_of : Line → ℕ
field_of (Finished place) = 0
field_of (Read n f k start len next) = f

abbrev pub start_of : Line → ℕ
start_of (Finished place) = place
start_of (Read n f k start len next) = start

abbrev pub length_of : Line → ℕ
length_of (Finished place) = 0
length_of (Read n f k start len next) = len

abbrev pub next_of : Line → ℕ
next_of (Finished place) = place
next_of (Read n f k start len next) = next

-- lines and accepted lines
abbrev pub totals_of : List files.Line → Totals
totals_of ls = record { lines = length ls; accepted = accepted_lines ls }
