-- `confirm::texts::add_point` meets its contract.
-- Assumes nothing.
use mathlib.Core.Path.{ap, ◌∙◌}
use Rattle.sha384.specs.State.{added}
use Rattle.confirm.proofs.Given.{point_array}
use Rattle.confirm.proofs.texts.add_point.Goals as goal

pub returns : goal.returns
returns c = c.add.ensures ∙ ap (added c.args.hash) (point_array c.args.point.now c.requires c.put_decoded.ensures)
