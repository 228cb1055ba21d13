-- `sha384::Sha384::add` meets its contract.
-- Assumes nothing.
use Rattle.std.proofs.Common.{◌≡◌, ◌-◌, ◌%◌, length, refl, ◌∙◌, arith, length-take, rules}
use Rattle.hashing.proofs.Added.{added_short, added_long}
use Rattle.sha384.specs.Sha384.{compress}
use Rattle.sha384.specs.State.{keeping, added}
use Rattle.sha384.proofs.Taken.{enough}
use Rattle.sha384.proofs.Added.{whole_fits, used_is, counted}
use Rattle.sha384.proofs.Sha384.add.Goals as goal

pub slice_bounds-block_of-end : goal.slice_bounds-block_of-end
slice_bounds-block_of-end c = let l : length c.args.self.block ≡ 128 = search rules in simp length-take (omega (arith, l))

pub block_of-block-requires : goal.block_of-block-requires
block_of-block-requires c = let l : length c.args.self.block ≡ 128 = search rules in simp length-take (omega (arith, l))

pub returns-then-bytes-room : goal.returns-then-bytes-room
unfolding added
returns-then-bytes-room c = counted c.args.self c.args.bytes.now refl c.higher-high.ensures ∙ added_short 128 compress keeping enough c.args.self c.args.bytes.now (search rules) (used_is c.args.self) c.if-bytes-room.true c.block_of-block.ensures c.put.ensures

pub slice_bounds-put-end-3 : goal.slice_bounds-put-end-3
slice_bounds-put-end-3 c = simp length-take (omega arith)

pub overflow_mul-whole : goal.overflow_mul-whole
overflow_mul-whole c = record { fits = whole_fits (length c.args.bytes.now) (128 - c.args.self.low % 128) (search rules) }

pub returns : goal.returns
unfolding added
returns c = counted c.args.self c.args.bytes.now refl c.higher-high.ensures ∙ added_long 128 compress keeping enough c.args.self c.args.bytes.now (search (rules, c.well_formed)) (used_is c.args.self) c.if-bytes-room.false c.block_of-block.ensures c.put-2.ensures refl refl c.hash_both-hash.ensures c.block_of-block-2.ensures
