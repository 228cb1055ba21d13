-- `sha_1::blocks::first_words` meets its contract.
-- Assumes nothing.
use Rattle.sha_1.specs.Sha1.{words}
use Rattle.hashing.proofs.Turns.{Filled}
use Rattle.sha_1.proofs.blocks.first_words.Given as goal

abbrev pub invariant-loop-t : goal.invariant-loop-t
invariant-loop-t l = Filled (words l.block l.t) l.w l.t
