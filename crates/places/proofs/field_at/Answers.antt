-- `places::field_at` meets its contract.
-- Assumes nothing.
use Rattle.places.proofs.Stands.{field_none, field_next}
use Rattle.places.proofs.field_at.Goals as goal

pub returns-then-number-eq0 : goal.returns-then-number-eq0
returns-then-number-eq0 c = field_none _ _ _ c.if-number-eq0.true c.none_of.ensures

pub returns : goal.returns
returns c = field_next _ _ c.args.number c.if-number-eq0.false c.part_at.ensures
