-- `sha384::blocks::compress` meets its contract.
-- Assumes nothing.
use Rattle.sha384.specs.Sha384.{compress}
use Rattle.sha384.proofs.blocks.compress.Goals as goal

pub returns : goal.returns
unfolding compress
returns c = cc
