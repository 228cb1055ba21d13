-- `sha_1::blocks::compress` meets its contract.
-- Assumes nothing.
use Rattle.sha_1.specs.Sha1.{compress}
use Rattle.sha_1.proofs.blocks.compress.Goals as goal

pub returns : goal.returns
unfolding compress
returns c = cc
