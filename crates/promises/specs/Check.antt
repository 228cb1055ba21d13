-- What the check promises: STS 600-4-2, clause 5.5. Demand 3 rests on `neighbours`, E12 of document 02 on `odd` and `two`.
-- Assumes nothing.
use Rattle.std.specs.Prelude.{ℕ, ◌<◌, List}
use Rattle.crc16.specs.Crc.{crc_of}
use Rattle.crc16.specs.Damage.{AreBytes, NeighboursCaught, BurstCaught, OddCaught, TwoCaught, EndsPass}

pub record Check : Type 0 where
  -- a check has sixteen bits
  pub sixteen : (xs : List ℕ) → AreBytes xs → crc_of xs < 65536
  -- a change within two neighbouring bytes changes the check
  pub neighbours : NeighboursCaught
  -- and so does one within any 16 bits in a row, at a byte's edge or not
  pub burst : BurstCaught
  -- and so does an odd number of flipped bits, wherever they are
  pub odd : OddCaught
  -- and so do two, however far apart, in at most 32,767 bits
  pub two : TwoCaught
  -- in 32,768 bits the first and the last, which are 32,767 apart, do not
  pub ends : EndsPass
