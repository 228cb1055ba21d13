-- What the C interface hands back of a file's lines: the answers of files, in a record in place of its two cases.
-- Assumes nothing.
use Rattle.std.specs.Prelude.{ℕ, ◌≡◌, true, false}
use Rattle.text.specs.Text.{Bytes}
use Rattle.table.specs.Table.{missing_row}
use Rattle.files.specs.Steps.{step_from}
use Rattle.files.specs.declared.Line.{Line}
use Rattle.files.specs.declared.Line.TheVariants.{Finished, Read}
use Rattle.exports.specs.declared.walking.Found.{Found}

-- a line with its numbers and places; a finished file has none of the numbers, no kind, and document 01's values for the rest
abbrev pub found : Line → Found
found (Finished place) = record { line = false; no = 0; field = 0; kind = missing_row; start = place; len = 0; next = place }
found (Read n f k start len next) = record { line = true; no = n; field = f; kind = k; start = start; len = len; next = next }

-- one step of a reader of this file: the line at its place, and afterwards the next place
pub record PlaceStepped (file : Bytes) (before : ℕ) (said : Found) (after : ℕ) : Type 0 where
  pub its_line : said ≡ found (step_from file before)
  pub its_place : after ≡ said.next
