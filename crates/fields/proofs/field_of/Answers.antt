-- `fields::field_of` meets its contract: the part at its place.
-- Assumes nothing.
use Rattle.fields.proofs.Wanted.{part_said}
use Rattle.fields.proofs.field_of.Goals as goal

pub returns : goal.returns
returns c = part_said c.place_of.ensures c.part_at.ensures
