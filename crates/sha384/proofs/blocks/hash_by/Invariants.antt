-- `sha384::blocks::hash_by` meets its contract.
-- Assumes nothing.
use Rattle.std.proofs.Common.{◌≡◌}
use Rattle.sha384.specs.Sha384.{hashed}
use Rattle.sha384.proofs.blocks.hash_by.Given as goal

abbrev pub invariant-loop-block : goal.invariant-loop-block
invariant-loop-block l = l.hash ≡ hashed l.initial.hash l.bytes l.block-index
