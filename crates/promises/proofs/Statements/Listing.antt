-- The list of a file: document 01, "Files of records and the newer key". The call leaves the very text that the definition says, whose
-- lines are those of the walk and whose totals are those of the counting call.
-- Assumes nothing.
use Rattle.std.specs.Prelude.{◌≤◌, ◌<◌, ◌≡◌, [], ◌++◌, length, drop}
use Rattle.text.specs.Text.{Bytes, ascii}
use Rattle.numbers.specs.Numbers.{short_output}
use Rattle.format.specs.Files.{walk}
use Rattle.put.specs.declared.Written.{Written}
use Rattle.list_text.specs.Listing.{line_texts, end_text, list_text, list_room}
use Rattle.files.proofs.count.Reads as count
use Rattle.list_text.proofs.write_list.Reads as call
use Rattle.promises.specs.Calls.{Holds}

-- a call that was lent the file and the output out, left it as out' and answered r
pub record ListSaid (file out out' : Bytes) (r : Written) : Type 0 where
  -- with room for any list, that of the file stands at the front, and every byte past it stays
  pub written : list_room ≤ length out
      → (r.no ≡ 0) × (r.len ≡ length (list_text file)) × (out' ≡ list_text file ++ drop (length (list_text file)) out)
  -- demand 1
  pub untouched : length out < list_room → (r.no ≡ short_output) × (r.len ≡ 0) × (out' ≡ out)

pub record Listing : Type 0 where
  pub said : Holds call.Post (λ κs a r s. ListSaid a.0.now a.1.0.now s.1.0.now r)
  -- every line of the walk, in order, numbered from 1; then the totals that the counting call answers
  pub lines_and_totals : Holds count.Post
      (λ κs a r s. length a.0.now ≤ 65536 → list_text a.0.now ≡ line_texts 0 (walk a.0.now) ++ end_text r.lines r.accepted)
  -- more bytes print "too big" and nothing else
  pub too-big : (file : Bytes) → 65536 < length file → list_text file ≡ ascii "too big\n"
  -- document 01's own example, and a file of no bytes
  pub example : list_text (ascii "\nPK.ECDH.2|x\nabc") ≡ ascii "1 0 0 2\n2 1 11 2\n3 13 3 11\nend 3 0\n"
  pub no_bytes : list_text [] ≡ ascii "end 0 0\n"
