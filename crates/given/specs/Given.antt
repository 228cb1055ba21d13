-- What a call makes that writes something of a record into a lent output: document 01, "Numbers given back". The record's own refusal comes first, then
-- 10 where the output is shorter than these bytes, and else they are written.
-- Assumes nothing.
use Rattle.std.specs.Prelude.{ℕ, cond, List, length, leb}
use Rattle.text.specs.Text.{Bytes}
use Rattle.numbers.specs.Numbers.{short_output}
use Rattle.format.specs.Kinds.{Kind}
use Rattle.format.specs.Read.{Outcome, accepted, refused}
use Rattle.put.specs.Made.{Made, made, denied}

-- by what is said to the record, for an output of length `room`; the bytes are those of its kind and fields
abbrev pub given : (Kind → List Bytes → Bytes) → ℕ → Outcome → Made
given bytes room (accepted k fs) = cond (leb (length (bytes k fs)) room) (made (bytes k fs)) (denied short_output 0)
given bytes room (refused n i) = denied n i
