-- `put::put_decoded` meets its contract. The loop's invariant: the bytes of the pairs passed are written, and hexadecimal characters are left.
-- Assumes nothing.
use mathlib.Core.Path.{◌≡◌}
use lib.Dec.{T}
use Rattle.std.specs.Slice.Iter.{chunks_exact_rest, chunks_exact_size}
use Rattle.text.specs.Text.{every, hexadecimal}
use Rattle.text.specs.Base16.{base16_decode}
use Rattle.put.proofs.Underway.{Underway}
use Rattle.put.proofs.put_decoded.Given as goal

abbrev pub invariant-loop-pair : goal.invariant-loop-pair
invariant-loop-pair l = record {
  under : Underway l.initial.out l.at (base16_decode l.characters) (base16_decode (chunks_exact_rest l.pair-iterator)) l.out l.next;
  left : T (every hexadecimal (chunks_exact_rest l.pair-iterator));
  pairs : chunks_exact_size l.pair-iterator ≡ 2;
}
