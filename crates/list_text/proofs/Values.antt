-- Lists of document 01: its example, and a file of no bytes.
-- Assumes nothing.
use mathlib.Core.Path.{◌≡◌, refl}
use mathlib.Core.List.{[]}
use Rattle.text.specs.Text.{ascii}
use Rattle.format.specs.Read.{read_record, read_under, read_over}
use Rattle.format.specs.Files.{walk_over, walk_from_over, line_at_over, line_of_over}
use Rattle.list_text.specs.Listing.{decimal_text, line_text, end_text, line_texts, list_text}

pub example : list_text (ascii "\nPK.ECDH.2|x\nabc") ≡ ascii "1 0 0 2\n2 1 11 2\n3 13 3 11\nend 3 0\n"
unfolding list_text line_texts line_text end_text decimal_text walk_over walk_from_over line_at_over line_of_over read_record read_under read_over
example = refl

pub no_bytes : list_text [] ≡ ascii "end 0 0\n"
unfolding list_text line_texts end_text decimal_text walk_over walk_from_over
no_bytes = refl
