-- Records by mail: document 02, E7; STS 600-4-2, Appendix C. A record stands folded between its BEGINS and ENDS lines. The numbers of reading: 21, 22,
-- the record's own, 10.
-- Assumes nothing.
use Rattle.std.specs.Prelude.{ℕ, zero, suc, ◌+◌, ◌-◌, ◌/◌, ◌≡◌, Bool, not, cond, ◌&&◌, length, take, drop, T}
use Rattle.std.proofs.Math.Option.{Option, none, some}
use mathlib.Core.List.{List, [], ◌∷◌, ◌++◌, Memᴰ}
use Rattle.text.specs.Text.{Bytes, ascii, same, part, is_ident}
use Rattle.numbers.specs.Numbers.{missing_begins, missing_ends}
use Rattle.format.specs.Kinds.{Kind, name, record_kinds}
use Rattle.format.specs.Build.{joined}
use Rattle.format.specs.Read.{last_or, cut, read_of, read_record}
use Rattle.format.specs.Files.{line_feed}
use Rattle.table.specs.Table.{named}
use Rattle.put.specs.Made.{Made, denied}
use Rattle.given.specs.Given.{given}

-- ---- the lines of a text, without their line feeds; bytes after the last line feed are a line too

abbrev pub lines_in : Bytes → List Bytes
lines_in text = cut line_feed text

-- ---- the guards: the octets 2D2D5354533A, the record type, and 20424547494E532D2D or 20454E44532D2D

abbrev pub guard : Bytes → Bytes → Bytes
guard word rectype = ascii "--STS:" ++ rectype ++ word

abbrev pub begins_line : Bytes → Bytes
begins_line rectype = guard (ascii " BEGINS--") rectype

abbrev pub ends_line : Bytes → Bytes
ends_line rectype = guard (ascii " ENDS--") rectype

-- what stands where a BEGINS line has its record type; the line is one if that is an IDENT, whatever it names, and the line is its BEGINS line
abbrev pub rectype_in : Bytes → Bytes
rectype_in line = part 6 (length line - 15) line

unfoldable pub is_begins : Bytes → Bool
is_begins line = is_ident (rectype_in line) && same line (begins_line (rectype_in line))

-- ---- writing: rows of 64 characters, the last of what is left, and no row is empty

unfoldable pub rows : ℕ → Bytes → List Bytes
rows zero s = []
rows (suc n) s = take 64 s ∷ rows n (drop 64 s)

abbrev pub folded : Bytes → List Bytes
folded s = rows ((length s + 63) / 64) s

-- these rows between the guards of a record type, a line feed after each line
abbrev pub guarded : Bytes → List Bytes → Bytes
guarded rectype rs = joined line_feed (begins_line rectype ∷ rs ++ ends_line rectype ∷ [])

unfoldable pub block_of : Bytes → Bytes → Bytes
block_of rectype s = guarded rectype (folded s)

-- ---- reading: what is found in the lines of a text, a record type and its rows joined, or a number

pub data Found : Type 0 where
  block : Bytes → Bytes → Found
  missing : ℕ → Found

-- after a BEGINS line: rows are joined, whatever their lengths, up to the first ENDS line that matches
abbrev pub closed : Bytes → Bytes → List Bytes → Found
closed rectype front [] = missing missing_ends
closed rectype front (l ∷ ls) = cond (same l (ends_line rectype)) (block rectype front) (closed rectype (front ++ l) ls)

-- the first BEGINS line decides, and what stands before it is passed over
abbrev pub opened : List Bytes → Found
opened [] = missing missing_begins
opened (l ∷ ls) = cond (is_begins l) (closed (rectype_in l) [] ls) (opened ls)

-- ---- the calls, for an output of length `room`

unfoldable pub write_mail : Bytes → ℕ → Made
write_mail s room = given (λ k fs. block_of (name k) s) room (read_record s)

-- the one kind that is read: the record kind of the name in the BEGINS line; none where no record kind has it
abbrev pub alone : Option Kind → List Kind
alone none = []
alone (some k) = k ∷ []

abbrev pub read_found : ℕ → Found → Made
read_found room (missing n) = denied n 0
read_found room (block rectype s) = given (λ k fs. s) room (read_of (alone (named record_kinds rectype)) s)

unfoldable pub read_mail : Bytes → ℕ → Made
read_mail text room = read_found room (opened (lines_in text))

-- ---- what may stand before a block: nothing, or what ends with a line feed, and no line of it is a BEGINS line

pub record PassedOver (before : Bytes) : Type 0 where
  pub ended : last_or line_feed before ≡ line_feed
  pub unopened : (l : Bytes) → Memᴰ l (lines_in before) → T (not (is_begins l))
