-- The list of a file of records as text: document 01, "Files of records and the newer key". Per line of the file its number from 1,
-- its start, its length without line feed and its answer's number; at last "end", lines and accepted lines. Numbers are decimal,
-- with single spaces, and a line feed ends each printed line, "too big" too.
-- Assumes nothing.
use Rattle.std.specs.Prelude.{ℕ, zero, suc, ◌+◌, ◌*◌, ◌^◌, cond, List, [], ◌∷◌, ◌++◌, length, leb, ltb}
use Rattle.text.specs.Text.{Bytes, ascii}
use Rattle.numbers.specs.Numbers.{short_output}
use Rattle.format.specs.Read.{answer}
use Rattle.format.specs.Files.{Line, line_feed, walk, accepted_lines}
use Rattle.io.specs.Digits.{last_digits}
use Rattle.put.specs.Made.{Made, made, denied}

-- ---- a printed line

-- the fewest decimal digits, from k to k + more, that hold n
abbrev pub fewest_from : ℕ → ℕ → ℕ → ℕ
fewest_from k zero n = k
fewest_from k (suc more) n = cond (ltb n (10 ^ k)) k (fewest_from (suc k) more n)

-- n in decimal: a number of 64 bits has 1 to 20 digits
unfoldable pub decimal_text : ℕ → Bytes
decimal_text n = last_digits 10 (fewest_from 1 19 n) n

abbrev pub space : ℕ
space = 0x20

-- a number, and the character after it
abbrev pub before : ℕ → ℕ → Bytes
before mark n = decimal_text n ++ (mark ∷ [])

unfoldable pub line_text : ℕ → ℕ → ℕ → ℕ → Bytes
line_text number start size said = before space number ++ before space start ++ before space size ++ before line_feed said

unfoldable pub end_text : ℕ → ℕ → Bytes
end_text lines accepted = ascii "end " ++ before space lines ++ before line_feed accepted

abbrev pub too_big : Bytes
too_big = ascii "too big\n"

-- ---- the whole list

-- the lines ls, before which n lines stand
unfoldable pub line_texts : ℕ → List Line → Bytes
line_texts n [] = []
line_texts n (l ∷ ls) = line_text (suc n) l.start l.size (answer l.said) ++ line_texts (suc n) ls

-- no more bytes than this are listed
abbrev pub most : ℕ
most = 65536

unfoldable pub list_text : Bytes → Bytes
list_text file =
    cond (leb (length file) most)
    (line_texts 0 (walk file) ++ end_text (length (walk file)) (accepted_lines (walk file)))
    too_big

-- ---- the call

-- room for any list: a line for each byte, with three numbers of five digits and one of three, and the end, with two numbers of five
abbrev pub list_room : ℕ
list_room = most * 22 + 16

-- the list, for an output of length `room`: 10 where some list would not fit
unfoldable pub write_list : Bytes → ℕ → Made
write_list file room = cond (leb list_room room) (made (list_text file)) (denied short_output 0)
