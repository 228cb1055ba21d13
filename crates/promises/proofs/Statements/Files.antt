-- Walking a file lists all its lines, each once, in order; the totals are counts of those lines; a reader gives the plain call's
-- answers. Stated on the file as lines: each of ls has its line feed, and t has none. What holds of a walk is said once, whatever call is asked about
-- the lines: Trailed.antt says it of manufacturers' files.
-- Assumes nothing.
use Rattle.std.specs.Prelude.{ℕ, ◌+◌, ◌<◌, ◌≤◌, ◌≡◌, ◌↔◌, List, ◌++◌, map, length, drop, replicate, T}
use Rattle.std.specs.Borrow.{Bor}
use Rattle.text.specs.Text.{Bytes, without}
use Rattle.format.specs.Kinds.{Kind, record_kinds}
use Rattle.format.specs.Build.{joined, WithoutAll, Built}
use Rattle.format.specs.Read.{Outcome, answer, read_record}
use Rattle.format.specs.Files as format
use Rattle.format.specs.Files.{line_feed, up_to, read, line_at_over, walk_over, lines_from_over, walk, accepted_lines}
use Rattle.files.specs.Walk.{line_said, number_of, start_of, length_of, next_of}
use Rattle.files.specs.Steps.{Begins, Stepped, Steps}
use Rattle.files.specs.declared.Line.{Line}
use Rattle.files.specs.declared.Line.TheVariants.{Finished}
use Rattle.files.specs.declared.Totals.{Totals}
use Rattle.files.specs.declared.Reader.{Reader}
use Rattle.files.proofs.line_at.Reads as line_at_lem
use Rattle.files.proofs.count.Reads as count
use Rattle.promises.specs.Calls.{Allows}

-- what stands from a place on up to the first line feed, or to the end where none follows
abbrev pub line_from : ℕ → Bytes → Bytes
line_from place file = up_to line_feed (drop place file)

-- a line that IsLine holds of, with its kind and its fields
abbrev pub LineExactly : (Bytes → Kind → List Bytes → Type 0) → Bytes → ℕ → Line → Type 0
LineExactly IsLine file place r = place < length file
    → (number_of r ≡ 0) ↔ (((k : Kind) × (fs : List Bytes) × IsLine (line_from place file) k fs) × (place + length (line_from place file) < length file))

-- of a file whose lines `call` is asked about: it accepts a line exactly when IsLine holds of it. `Says lent place r` is that the contract of the
-- file call allows the answer r at that place, and `Counts lent r` the same of the counting call
pub record Walked (call : Bytes → Outcome) (IsLine : Bytes → Kind → List Bytes → Type 0) (Says : Bor Bytes → ℕ → Line → Type 0) (Counts : Bor Bytes → Totals → Type 0) : Type 0 where
  -- walking from place 0 lists the lines
  pub all_lines : (ls : List Bytes) (t : Bytes) → WithoutAll line_feed ls → T (without line_feed t)
      → walk_over call (joined line_feed ls ++ t) ≡ lines_from_over call 0 ls t
  -- the file call's answer at a place is that of the walk's line there; the next place lies beyond the place, and not past the end
  pub file_call : (lent : Bor Bytes) (place : ℕ) (r : Line) → Says lent place r → r ≡ line_said (line_at_over call lent.now place)
  pub beyond : (file : Bytes) (place : ℕ) (l : format.Line) → line_at_over call file place ≡ read l → (place < l.next) × (l.next ≤ length file)
  -- the number is that call's for the line, and 11 where no line feed ends it
  pub number : (file : Bytes) (place : ℕ) (l : format.Line) → line_at_over call file place ≡ read l → number_of (line_said (line_at_over call file place)) ≡ answer l.said
  -- it is 0 exactly for a line that a line feed ends and that IsLine holds of
  pub line_exactly : (lent : Bor Bytes) (place : ℕ) (r : Line) → Says lent place r → LineExactly IsLine lent.now place r
  -- "finished" exactly at the end or past it
  pub finished_exactly : (file : Bytes) (place : ℕ) → (line_said (line_at_over call file place) ≡ Finished place) ↔ (length file ≤ place)
  -- every answer starts at the place asked; that of a finished file has number 0 and length 0, and the place asked is its next place too
  pub starts : (file : Bytes) (place : ℕ) → start_of (line_said (line_at_over call file place)) ≡ place
  pub finished : (file : Bytes) (place : ℕ) → length file ≤ place
      → (number_of (line_said (line_at_over call file place)) ≡ 0) × (length_of (line_said (line_at_over call file place)) ≡ 0) × (next_of (line_said (line_at_over call file place)) ≡ place)
  -- both totals equal the counts of lines and of accepted lines
  pub totals : (lent : Bor Bytes) (r : Totals) → Counts lent r
      → (r.lines ≡ length (walk_over call lent.now)) × (r.accepted ≡ accepted_lines (walk_over call lent.now))

-- what the contracts of the plain calls allow
abbrev pub PlainSays : Bor Bytes → ℕ → Line → Type 0
PlainSays lent place r = Allows line_at_lem.Post (λ κs. (lent, (place, tt))) (λ κs. r)

abbrev pub PlainCounts : Bor Bytes → Totals → Type 0
PlainCounts lent r = Allows count.Post (λ κs. (lent, tt)) (λ κs. r)

pub record Files : Type 0 where
  -- every file is such lines
  pub as_lines : (file : Bytes)
      → (ls : List Bytes) × (t : Bytes) × WithoutAll line_feed ls × T (without line_feed t) × (file ≡ joined line_feed ls ++ t)
  -- a plain file: a line is accepted exactly when the build rules write it from permitted fields
  pub plain : Walked read_record (Built record_kinds) PlainSays PlainCounts
  -- the steps of a new reader give the answers of the walk's lines, and then that the file is finished
  pub reader : {lent : Bor Bytes} {before after : Reader} {said : List Line} → Begins lent before → Steps before said after
      → (n : ℕ) → length said ≡ n + length (walk lent.now)
      → said ≡ map (λ l. line_said (read l)) (walk lent.now) ++ replicate n (Finished (length lent.now))
  -- the bytes lent have one new reader; a step has one answer, and leaves one reader
  pub one_new : {lent : Bor Bytes} {reader reader' : Reader} → Begins lent reader → Begins lent reader' → reader ≡ reader'
  pub one_step : {before after after' : Reader} {said said' : Line} → Stepped before said after → Stepped before said' after'
      → (said ≡ said') × (after ≡ after')
