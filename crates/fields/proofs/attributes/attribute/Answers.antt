-- `fields::attributes::attribute` meets its contract: the part at its place.
-- Assumes nothing.
use Rattle.fields.proofs.Wanted.{part_said}
use Rattle.fields.proofs.attributes.attribute.Goals as goal

pub returns : goal.returns
returns c = part_said c.attribute_place.ensures c.part_at.ensures
