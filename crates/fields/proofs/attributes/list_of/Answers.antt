-- `fields::attributes::list_of` meets its contract.
-- Assumes nothing.
use mathlib.Core.Path.{◌∙◌}
use Rattle.fields.proofs.Cards.{list-said}
use Rattle.fields.proofs.attributes.list_of.Goals as goal

pub returns : goal.returns
returns c = c.field_at.ensures.holds ∙ list-said _ _ c.requires
