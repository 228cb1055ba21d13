-- `sha_1::blocks::hash_blocks` meets its contract.
-- Assumes nothing.
use Rattle.std.proofs.Common.{◌≡◌, ◌/◌, length, refl, ap, ◌∙◌, arith}
use Rattle.hashing.specs.Turns.{turns}
use Rattle.hashing.specs.Blocks as blocks
use Rattle.sha_1.specs.Sha1.{compress, hashed}
use Rattle.hashing.proofs.Blocks.{hashed_chunk}
use Rattle.sha_1.proofs.blocks.hash_blocks.Goals as goal

pub loop-block-init : goal.loop-block-init
unfolding turns blocks.hashed
loop-block-init c = refl

pub loop-block-preserved : goal.loop-block-preserved
loop-block-preserved c =
    hashed_chunk 64 compress c.args.v c.args.bytes.now (length c.args.bytes.now / 64) c.loop-block.block-index (omega (arith, c.loop-block-test.true, c.as_chunks.ensures.front_len))
    c.loop-block.invariant (rw c.as_chunks.ensures.front at c.compress-hash.ensures)

pub returns : goal.returns
returns c =
    let e : c.loop-block.block-index ≡ length c.args.bytes.now / 64 = omega (arith, c.as_chunks.ensures.front_len) in
    c.loop-block.invariant ∙ ap (hashed c.args.v c.args.bytes.now) e
