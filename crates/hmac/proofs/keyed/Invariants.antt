-- `hmac::keyed` meets its contract. The loop's invariant: the bytes before the index are mixed.
-- Assumes nothing.
use Rattle.hmac.proofs.Keys.{Mixing}
use Rattle.hmac.proofs.keyed.Given as goal

abbrev pub invariant-loop-byte : goal.invariant-loop-byte
invariant-loop-byte l = Mixing l.pad l.initial.byte-items l.byte-items l.byte-index
