-- `sha_1::Sha1::add` meets its contract.
-- Assumes nothing.
use Rattle.std.proofs.Common.{◌≡◌, length, refl, ◌∙◌, arith, length-take, rules}
use Rattle.hashing.proofs.Added.{added_short, added_long}
use Rattle.sha_1.specs.Sha1.{compress}
use Rattle.sha_1.specs.State.{keeping, added}
use Rattle.sha_1.proofs.Taken.{enough}
use Rattle.sha_1.proofs.Added.{counted}
use Rattle.sha_1.proofs.Sha1.add.Goals as goal

pub slice_bounds-block_of-end : goal.slice_bounds-block_of-end
slice_bounds-block_of-end c = let l : length c.args.self.block ≡ 64 = search rules in simp length-take (omega (arith, l))

pub block_of-block-requires : goal.block_of-block-requires
block_of-block-requires c = let l : length c.args.self.block ≡ 64 = search rules in simp length-take (omega (arith, l))

pub returns-then-bytes-room : goal.returns-then-bytes-room
unfolding added
returns-then-bytes-room c = counted c.args.self c.args.bytes.now refl ∙ added_short 64 compress keeping enough c.args.self c.args.bytes.now (search rules) refl c.if-bytes-room.true c.block_of-block.ensures c.put.ensures

pub slice_bounds-put-end-3 : goal.slice_bounds-put-end-3
slice_bounds-put-end-3 c = simp length-take (omega arith)

pub returns : goal.returns
unfolding added
returns c = counted c.args.self c.args.bytes.now refl ∙ added_long 64 compress keeping enough c.args.self c.args.bytes.now (search (rules, c.well_formed)) refl c.if-bytes-room.false c.block_of-block.ensures c.put-2.ensures refl refl (c.hash_blocks-hash.ensures ∙ rw c.hash_blocks-completed.ensures) c.block_of-block-2.ensures
