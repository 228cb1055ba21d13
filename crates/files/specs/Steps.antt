-- What a reader answers, step after step: document 01, "Files of records and the newer key".
-- Assumes nothing.
use Rattle.std.specs.Borrow.{Bor}
use Rattle.std.specs.Prelude.{ℕ, ◌≡◌, List, [], ◌∷◌}
use Rattle.text.specs.Text.{Bytes}
use Rattle.format.specs.Files.{line_at}
use Rattle.files.specs.Walk.{line_said, next_of}
use Rattle.files.specs.declared.Line.{Line}
use Rattle.files.specs.declared.Reader.{Reader}

-- a new reader: the lent bytes, and their start
pub record Begins (lent : Bor Bytes) (reader : Reader) : Type 0 where
  pub same_file : reader.file ≡ lent
  pub its_place : reader.place ≡ 0

-- one step: the file call's answer for the reader's bytes and place, and afterwards the same bytes and the next place
pub record Stepped (before : Reader) (said : Line) (after : Reader) : Type 0 where
  pub its_line : said ≡ line_said (line_at before.file.now before.place)
  pub same_file : after.file ≡ before.file
  pub its_place : after.place ≡ next_of said

-- one step of a reader that stands at this place
abbrev pub step_from : Bytes → ℕ → Line
step_from file place = line_said (line_at file place)

-- steps in a row: each starts where the one before it ended
pub data Steps : Reader → List Line → Reader → Type 0 where
  none : {reader : Reader} → Steps reader [] reader
  more : {before between after : Reader} {said : Line} {rest : List Line}
      → Stepped before said between → Steps between rest after → Steps before (said ∷ rest) after
