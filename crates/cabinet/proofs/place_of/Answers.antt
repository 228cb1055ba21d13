-- `cabinet::place_of` meets its contract.
-- Assumes nothing.
use Rattle.std.proofs.Common.{rules}
use Rattle.cabinet.specs.Steps.{has_names}
use Rattle.cabinet.proofs.Loops.{lowest_among}
use Rattle.cabinet.proofs.place_of.Goals as goal

pub returns : goal.returns
returns c = lowest_among (has_names c.args.cabinet.now c.args.names.now) (λ i b h s. search rules) c.requires.1 _ c.lowest.ensures
