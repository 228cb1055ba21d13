-- `crc16::crc_of` meets its contract. The loop's invariant: the state, given what is left, is the check of the whole.
-- Assumes nothing.
use mathlib.Core.Path.{◌≡◌}
use lib.ListN.{drop}
use Rattle.crc16.specs.Crc.{add_all, crc_of}
use Rattle.crc16.proofs.crc_of.Given as goal

abbrev pub invariant-loop-byte : goal.invariant-loop-byte
invariant-loop-byte l = add_all l.crc.state (drop l.byte-index l.bytes) ≡ crc_of l.bytes
