-- `building::put_fields` meets its contract. The loop's invariant: the fields before j are written, each with its mark.
-- Assumes nothing.
use mathlib.Core.Path.{◌∙◌}
use Rattle.building.proofs.Writing.{through_none, through_length, through_all, through_next}
use Rattle.building.proofs.put_fields.Goals as goal

pub loop-j-init : goal.loop-j-init
loop-j-init c = through_none _ _ _ _ _ c.requires.0 c.requires.2

pub loop-j-preserved : goal.loop-j-preserved
loop-j-preserved c = through_next c.loop-j.invariant c.loop-j-test.true (c.part_at-field.ensures.holds ∙ c.requires.1.at c.loop-j.j) c.put-next.ensures c.put_byte-next.ensures

pub shape_of-out : goal.shape_of-out
shape_of-out c = through_length c.loop-j.invariant

pub returns : goal.returns
returns c = through_all c.loop-j.invariant c.loop-j-test.false
