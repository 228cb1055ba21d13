-- `mail::unfold` meets its contract. The loop's invariant: the bytes before the index are joined.
-- Assumes nothing.
use Rattle.mail.proofs.Unfolding.{Joined}
use Rattle.mail.proofs.unfold.Given as goal

abbrev pub invariant-loop-byte : goal.invariant-loop-byte
invariant-loop-byte l = Joined l.initial.out l.rows l.out l.len l.byte-index
