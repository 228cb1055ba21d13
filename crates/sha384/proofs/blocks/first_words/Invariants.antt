-- `sha384::blocks::first_words` meets its contract.
-- Assumes nothing.
use Rattle.sha384.specs.Sha384.{words}
use Rattle.hashing.proofs.Turns.{Filled}
use Rattle.sha384.proofs.blocks.first_words.Given as goal

abbrev pub invariant-loop-t : goal.invariant-loop-t
invariant-loop-t l = Filled (words l.block l.t) l.w l.t
