-- Manufacturers' record files: document 02, E6; STS 600-4-2, Appendix D. Demand 2 for their lines: a line is answered 0 exactly when it is a record that
-- the build rules write from permitted fields, and its trailer; writing that record again gives those bytes. The walk is that of plain files
-- (`Walked`, in Files.antt) with another call for a line, and so is demand 3 (Demand3.antt).
-- Assumes nothing.
use Rattle.std.specs.Prelude.{ℕ, ◌+◌, ◌≤◌, ◌<◌, ◌≡◌, ◌↔◌, ◌≢◌, List, ◌++◌, length, drop, T}
use Rattle.std.specs.Borrow.{Bor}
use Rattle.text.specs.Text.{Bytes}
use Rattle.numbers.specs.Numbers.{short_output, missing_trailer, wrong_hash}
use Rattle.format.specs.Kinds.{Kind, record_kinds}
use Rattle.format.specs.Build.{Built}
use Rattle.format.specs.Read.{accepted, refused, read_record}
use Rattle.reading.specs.declared.Answer.{Answer}
use Rattle.put.specs.declared.Written.{Written}
use Rattle.files.specs.declared.Line.{Line}
use Rattle.files.specs.declared.Totals.{Totals}
use Rattle.reading.specs.Reading.{answer_of}
use Rattle.trailed.specs.Trailed.{trailer, trailed, record_in, trailer_in, is_trailer, read_trailed}
use Rattle.trailed.proofs.read_trailed.Reads as read-trailed
use Rattle.trailed.proofs.trailed_at.Reads as trailed-at
use Rattle.trailed.proofs.count_trailed.Reads as count-trailed
use Rattle.trailed.proofs.write_trailed.Reads as write-trailed
use Rattle.promises.specs.Calls.{Holds, Allows}
use Rattle.promises.proofs.Statements.Reading.{NoPlaces}
use Rattle.promises.proofs.Statements.Files.{Walked}

-- s is the record of the fields fs, which are permitted for the kind k, and its trailer
abbrev pub TrailedLine : Bytes → Kind → List Bytes → Type 0
TrailedLine s k fs = (r : Bytes) × Built record_kinds r k fs × (s ≡ trailed r)

-- the call for a line was lent s and answered r
pub record LineSaid (s : Bytes) (r : Answer) : Type 0 where
  -- demand 2
  pub exactly : (r.no ≡ 0) ↔ ((k : Kind) × (fs : List Bytes) × TrailedLine s k fs)
  -- 19 exactly where no '#' and HEX(40) stand at the end, whatever stands before
  pub missing : (r.no ≡ missing_trailer) ↔ (T (is_trailer (trailer_in s)) → ⊥)
  -- then the record's own refusals, all of them, with their field's number, whatever the SHA-1
  pub own : T (is_trailer (trailer_in s)) → (n i : ℕ) → read_record (record_in s) ≡ refused n i → (r.no ≡ n) × (r.field ≡ i)
  -- then 20, exactly where another trailer stands than the record's
  pub differs : (r.no ≡ wrong_hash) ↔ (T (is_trailer (trailer_in s)) × ((k : Kind) × (fs : List Bytes) × (read_record (record_in s) ≡ accepted k fs)) × (trailer_in s ≢ trailer (record_in s)))
  -- the answer for an accepted line is the record call's for the record in front, places and all
  pub as_record : r.no ≡ 0 → r ≡ answer_of (read_record (record_in s))

-- the call that writes was lent the record s and the output out, left it as out' and answered r
pub record WriteSaid (s out out' : Bytes) (r : Written) : Type 0 where
  pub own : (n i : ℕ) → read_record s ≡ refused n i → (r.no ≡ n) × (r.field ≡ i)
  pub short : (k : Kind) (fs : List Bytes) → Built record_kinds s k fs → length out < length s + 41 → (r.no ≡ short_output) × (r.field ≡ 0)
  -- the record and its trailer stand at the front, without a line feed, and every byte past them stays
  pub written : (k : Kind) (fs : List Bytes) → Built record_kinds s k fs → length s + 41 ≤ length out
      → (r.no ≡ 0) × (r.len ≡ length s + 41) × (out' ≡ trailed s ++ drop (length s + 41) out)
  -- demand 1
  pub untouched : r.no ≢ 0 → (r.len ≡ 0) × (out' ≡ out)
  -- the record of an accepted line gives that line again
  pub again : (line : Bytes) (k : Kind) (fs : List Bytes) → read_trailed line ≡ accepted k fs → s ≡ record_in line → length line ≤ length out
      → (r.no ≡ 0) × (r.len ≡ length line) × (out' ≡ line ++ drop (length line) out)

-- what the contracts of the file call and of the counting call allow
abbrev pub TrailedSays : Bor Bytes → ℕ → Line → Type 0
TrailedSays lent place r = Allows trailed-at.Post (λ κs. (lent, (place, tt))) (λ κs. r)

abbrev pub TrailedCounts : Bor Bytes → Totals → Type 0
TrailedCounts lent r = Allows count-trailed.Post (λ κs. (lent, tt)) (λ κs. r)

pub record Trailed : Type 0 where
  pub line : Holds read-trailed.Post (λ κs a r s. LineSaid a.0.now r)
  -- demand 1
  pub no_places : NoPlaces read-trailed.Post
  pub written : Holds write-trailed.Post (λ κs a r s. WriteSaid a.0.now a.1.0.now s.1.0.now r)
  -- a line that is written is read as its record
  pub read_back : (r : Bytes) → read_trailed (trailed r) ≡ read_record r
  -- a file of such lines: a line is accepted exactly when it is a record and its trailer
  pub walked : Walked read_trailed TrailedLine TrailedSays TrailedCounts
