-- `cabinet::occupied_from` meets its contract.
-- Assumes nothing.
use Rattle.std.proofs.Common.{rules}
use Rattle.cabinet.specs.Steps.{is_held_at}
use Rattle.cabinet.proofs.Loops.{lowest_among}
use Rattle.cabinet.proofs.occupied_from.Goals as goal

pub returns : goal.returns
returns c = lowest_among (is_held_at c.args.cabinet.now) (λ i b h s. search rules) c.requires.1 _ c.lowest.ensures
