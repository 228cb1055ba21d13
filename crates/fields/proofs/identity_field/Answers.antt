-- `fields::identity_field` meets its contract: the part at its place.
-- Assumes nothing.
use Rattle.fields.proofs.Wanted.{part_said}
use Rattle.fields.proofs.identity_field.Goals as goal

pub returns : goal.returns
returns c = part_said c.identity_place.ensures c.part_at.ensures
