-- `fields::identity_place` meets its contract.
-- Assumes nothing.
use Rattle.fields.specs.Steps.{identity}
use Rattle.fields.proofs.identity_place.Goals as goal

pub returns : goal.returns
returns c = c.place_from.ensures _ _ identity c.read_identity.ensures
