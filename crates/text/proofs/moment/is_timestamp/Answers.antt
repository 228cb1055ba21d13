-- `text::moment::is_timestamp` meets its contract.
-- Assumes nothing.
use mathlib.Core.Path.{ap, ◌∙◌}
use Rattle.text.specs.declared.moment.Moment.{Moment}
use Rattle.text.proofs.Seconds.{moment_valid}
use Rattle.text.proofs.moment.is_timestamp.Goals as goal

pub returns : goal.returns
returns c = ap (λ (m : Moment). m.valid) c.moment_of.ensures ∙ moment_valid _
