-- The check's promises, from the laws of crc16.
-- Assumes nothing.
use Rattle.crc16.proofs.Steps.{crc_lt}
use Rattle.crc16.proofs.Burst.{neighbours_caught, burst_caught}
use Rattle.crc16.proofs.Flips.{odd_caught, two_caught, ends_pass}
use Rattle.promises.specs.Check.{Check}

pub check : Check
check = record { sixteen = crc_lt; neighbours = neighbours_caught; burst = burst_caught; odd = odd_caught; two = two_caught; ends = ends_pass }
