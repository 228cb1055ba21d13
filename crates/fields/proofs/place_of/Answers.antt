-- `fields::place_of` meets its contract.
-- Assumes nothing.
use Rattle.fields.specs.Steps.{records}
use Rattle.fields.proofs.place_of.Goals as goal

pub returns : goal.returns
returns c = c.place_from.ensures _ _ (records _) c.read_of.ensures
