-- `fields::attributes::attribute_named_place` meets its contract: the attribute of the number that has the name.
-- Assumes nothing.
use Rattle.fields.proofs.Cards.{named_so}
use Rattle.fields.proofs.attributes.attribute_named_place.Goals as goal

pub returns : goal.returns
returns c = named_so _ _ _ _ _ _ (c.card_named-card.ensures) c.list_of.ensures c.card_place.ensures
