-- `sha_1::blocks::schedule` meets its contract.
-- Assumes nothing.
use Rattle.std.proofs.Common.{◌+◌}
use Rattle.sha_1.specs.Sha1.{schedule}
use Rattle.hashing.proofs.Turns.{Filled}
use Rattle.sha_1.proofs.blocks.schedule.Given as goal

abbrev pub invariant-loop-n : goal.invariant-loop-n
invariant-loop-n l = Filled (schedule l.block l.n) l.w (l.n + 16)
