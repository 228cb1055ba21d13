-- `put::put_hex` meets its contract. The loop's invariant: the characters of the bytes passed are written.
-- Assumes nothing.
use lib.ListN.{drop}
use Rattle.text.specs.Base16.{base16}
use Rattle.put.proofs.Underway.{Underway}
use Rattle.put.proofs.put_hex.Given as goal

abbrev pub invariant-loop-byte : goal.invariant-loop-byte
invariant-loop-byte l = Underway l.initial.out l.at (base16 l.bytes) (base16 (drop l.byte-index l.bytes)) l.out l.next
