-- Manufacturers' record files: document 02, E6; STS 600-4-2, Appendix D. A line is a record, '#', and the SHA-1 of the record and one line feed as
-- HEX(40): the record's trailer. The numbers of a line: 11, which the walk says before any call is asked, 19, the record's own, 20.
-- Assumes nothing.
use Rattle.std.specs.Prelude.{ℕ, ◌-◌, Bool, false, ◌&&◌, List, [], ◌∷◌, ◌++◌, length, take, drop, eqb}
use Prim.Native.Char.{code}
use Rattle.text.specs.Text.{Bytes, same, is_hex}
use Rattle.text.specs.Base16.{base16}
use Rattle.sha_1.specs.Sha1.{sha1}
use Rattle.numbers.specs.Numbers.{missing_trailer, wrong_hash}
use Rattle.format.specs.Read.{Outcome, accepted, refused, provided, read_record}
use Rattle.format.specs.Files.{line_feed, Line, Said, line_at_over, walk_over}
use Rattle.put.specs.Made.{Made}
use Rattle.given.specs.Given.{given}
use Rattle.files.specs.declared.Totals.{Totals}
use Rattle.files.specs.Walk.{totals_of}

-- ---- the line of a record

abbrev pub sharp : ℕ
sharp = code "#"

-- what is hashed: the record and one line feed
abbrev pub hash_text : Bytes → Bytes
hash_text r = r ++ line_feed ∷ []

unfoldable pub trailer : Bytes → Bytes
trailer r = sharp ∷ base16 (sha1 (hash_text r))

-- without its line feed
unfoldable pub trailed : Bytes → Bytes
trailed r = r ++ trailer r

-- ---- reading a line

-- all but the last forty-one bytes, and those
abbrev pub record_in : Bytes → Bytes
record_in s = take (length s - 41) s

abbrev pub trailer_in : Bytes → Bytes
trailer_in s = drop (length s - 41) s

-- '#' and HEX(40)
abbrev pub is_trailer : Bytes → Bool
is_trailer [] = false
is_trailer (c ∷ t) = eqb c sharp && is_hex 40 t

-- the outcome o, and the refusal n where o accepts and the test fails
abbrev pub only_if : Bool → ℕ → Outcome → Outcome
only_if b n (accepted k fs) = provided b n (accepted k fs)
only_if b n (refused m i) = refused m i

unfoldable pub read_trailed : Bytes → Outcome
read_trailed s =
    provided (is_trailer (trailer_in s)) missing_trailer
    (only_if (same (trailer_in s) (trailer (record_in s))) wrong_hash
    (read_record (record_in s)))

-- damage of the record in front of the '#' (E12), whatever becomes of the '#' and of the trailer
abbrev pub InRecord : (Bytes → Bytes → Type 0) → Bytes → Bytes → Type 0
InRecord Harm x y = Harm (record_in x) (record_in y)

-- ---- a file of such lines: start and length are those of the whole line

abbrev pub trailed_at : Bytes → ℕ → Said
trailed_at = line_at_over read_trailed

abbrev pub walk_trailed : Bytes → List Line
walk_trailed = walk_over read_trailed

abbrev pub count_trailed : Bytes → Totals
count_trailed file = totals_of (walk_trailed file)

-- ---- writing a line

-- of the record r, for an output of length `room`
unfoldable pub write_trailed : Bytes → ℕ → Made
write_trailed r room = given (λ k fs. trailed r) room (read_record r)
