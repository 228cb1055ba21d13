-- Document 02, E12: more damage that must be caught. Two record files of equal length that differ only inside lines which the first accepts, in each such line in an
-- odd number of flipped bits or in exactly two, all before the last four bytes of the record, no differing byte a line feed in either file: as in demand 3, every line that
-- differs is refused in the second, and every other line gives the same answer at the same place with the same fields. How many bits are flipped counts `flips`
-- (crc16/specs/Damage.antt); `Flipped`, the request's condition, stands beside that of demand 3 (format/specs/Damage.antt).
-- Assumes nothing.
use Rattle.std.specs.Prelude.{ℕ, ◌*◌, ◌≤◌, ◌≡◌, length}
use Rattle.crc16.specs.Damage.{AreBytes, flips, most_bits}
use Rattle.text.specs.Text.{Bytes}
use Rattle.format.specs.Read.{body, check, read_record}
use Rattle.format.specs.Damage.{Accepted, Refused, WithinTwo, Flipped, InCheck, Either}
use Rattle.trailed.specs.Trailed.{InRecord, read_trailed}
use Rattle.promises.proofs.Statements.Files.{PlainSays}
use Rattle.promises.proofs.Statements.Trailed.{TrailedSays}
use Rattle.promises.proofs.Statements.Demand3.{DamageCaughtBy}
use Rattle.promises.specs.Worked.{response, four_flipped, three_flipped, later_response, two_flipped}

-- the check tells two flips apart in at most 32,767 bits (`two` in Check.antt), and no accepted record has more: it has at most 1,024 bytes
abbrev pub NoLimit : Type 0
NoLimit = (x : Bytes) → Accepted (read_record x) → 8 * length x ≤ most_bits

pub record FlippedBits : Type 0 where
  pub in_plain : DamageCaughtBy read_record Flipped PlainSays
  -- the flips lie in the record in front of the '#'
  pub in_trailed : DamageCaughtBy read_trailed (InRecord Flipped) TrailedSays
  pub no_limit : NoLimit
  -- so of every accepted record: after such flips it is refused
  pub of-records : (x y : Bytes) → AreBytes x → AreBytes y → length x ≡ length y → Flipped x y → Accepted (read_record x) → Refused (read_record y)
  -- each line may be damaged in its own way: as demand 3 says, by such flips, or in the last four bytes of the record alone, however
  pub each_plain : DamageCaughtBy read_record (Either WithinTwo (Either Flipped InCheck)) PlainSays
  pub each_trailed : DamageCaughtBy read_trailed (Either WithinTwo (InRecord (Either Flipped InCheck))) TrailedSays

-- ---- where the promise ends

-- both are accepted, and from the one to the other so many bits are flipped before the last four bytes, and so many in them
pub record Passes (x y : Bytes) (before in-check : ℕ) : Type 0 where
  pub first : Accepted (read_record x)
  pub second : Accepted (read_record y)
  pub before_check : flips (body x) (body y) ≡ before
  pub of_check : flips (check x) (check y) ≡ in-check

pub record FlipsPass : Type 0 where
  -- four before the last four bytes
  pub four : Passes response four_flipped 4 0
  -- one before them together with one or two in them: two and three in all
  pub one_and_one : Passes later_response two_flipped 1 1
  pub one_and_two : Passes response three_flipped 1 2
