-- `sha384::blocks::four_rounds` meets its contract.
-- Assumes nothing.
use Rattle.hashing.proofs.Turns.{turns_four}
use Rattle.sha384.specs.Sha384.{rounds}
use Rattle.sha384.proofs.blocks.four_rounds.Goals as goal

pub returns : goal.returns
unfolding rounds
returns c = λ u e. turns_four _ u c.args.i e c.round-one.ensures c.round-two.ensures c.round-three.ensures c.round.ensures
