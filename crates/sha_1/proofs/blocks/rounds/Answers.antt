-- `sha_1::blocks::rounds` meets its contract.
-- Assumes nothing.
use Rattle.std.proofs.Common.{refl}
use Rattle.hashing.specs.Turns.{turns}
use Rattle.sha_1.specs.Sha1.{rounds}
use Rattle.sha_1.proofs.blocks.rounds.Goals as goal

pub returns : goal.returns
unfolding rounds turns
returns c = c.twenty_rounds.ensures c.args.v (c.twenty_rounds-three.ensures c.args.v (c.twenty_rounds-two.ensures c.args.v (c.twenty_rounds-one.ensures c.args.v refl)))
