-- `frame::ends_in` meets its contract.
-- Assumes nothing.
use mathlib.Core.Path.{◌∙◌}
use Rattle.frame.proofs.Check.{ends_last}
use Rattle.frame.proofs.ends_in.Goals as goal

pub returns : goal.returns
returns c = c.eq.ensures ∙ ends_last c.args.s.now c.last.result _ c.last.ensures.value
