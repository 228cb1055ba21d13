-- `sha_1::block_of` meets its contract.
-- Assumes nothing.
use Rattle.std.proofs.Common.{[], refl, ◌∙◌, arith}
use Rattle.put.proofs.Pieces.{put_of}
use Rattle.hashing.proofs.Zeros.{zeroed_more}
use Rattle.sha_1.proofs.block_of.Goals as goal

pub returns : goal.returns
returns c = (put_of (omega arith) c.put.ensures).written ∙ zeroed_more 64 [] c.args.front.now refl (omega arith)
