-- The law of a form of files, for lines with a trailer: no refusal has the number 0, if none of the record call has. The code cites it, and code cites of its
-- own crate what stands here alone.
-- Assumes nothing.
use Rattle.std.specs.Prelude.{ℕ, ◌≡◌, Bool, true, false}
use mathlib.Core.Path.{ap}
use native.Mathlib.Omega.{arith}
use Rattle.text.specs.Text.{Bytes, same}
use Rattle.numbers.specs.Numbers.{missing_trailer, wrong_hash}
use Rattle.format.specs.Read.{Outcome, accepted, refused, answer, provided, read_record}
use Rattle.trailed.specs.Trailed.{record_in, trailer_in, trailer, is_trailer, only_if, read_trailed}

abbrev pub NeverZero : Outcome → Type 0
NeverZero o = (i : ℕ) → o ≡ refused 0 i → ⊥

pub never_zero : ((s : Bytes) → NeverZero (read_record s)) → (s : Bytes) → NeverZero (read_trailed s)
unfolding read_trailed
never_zero law s = go (is_trailer (trailer_in s)) (same (trailer_in s) (trailer (record_in s))) (read_record (record_in s)) (law (record_in s))
  where
    go : (b c : Bool) (o : Outcome) → NeverZero o → NeverZero (provided b missing_trailer (only_if c wrong_hash o))
    go true true (accepted k fs) h i e = h i e
    go true false (accepted k fs) h i e = absurd (omega (arith, ap answer e))
    go true c (refused n j) h i e = h i e
    go false c o h i e = absurd (omega (arith, ap answer e))
