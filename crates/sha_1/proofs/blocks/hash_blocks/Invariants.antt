-- `sha_1::blocks::hash_blocks` meets its contract.
-- Assumes nothing.
use Rattle.std.proofs.Common.{◌≡◌}
use Rattle.sha_1.specs.Sha1.{hashed}
use Rattle.sha_1.proofs.blocks.hash_blocks.Given as goal

abbrev pub invariant-loop-block : goal.invariant-loop-block
invariant-loop-block l = l.hash ≡ hashed l.initial.hash l.bytes l.block-index
