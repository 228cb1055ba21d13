-- `sha_1::blocks::twenty_rounds` meets its contract.
-- Assumes nothing.
use Rattle.std.proofs.Common.{◌≡◌}
use Rattle.sha_1.specs.declared.Words.{Words}
use Rattle.sha_1.specs.Sha1.{rounds}
use Rattle.sha_1.proofs.blocks.twenty_rounds.Given as goal

abbrev pub invariant-loop-t : goal.invariant-loop-t
invariant-loop-t l = (v : Words) → l.initial.u ≡ rounds l.w v l.i → l.u ≡ rounds l.w v l.t
