-- `cabinet::tvps::is_tvp` meets its contract.
-- Assumes nothing.
use mathlib.Core.Path.{◌∙◌}
use Rattle.cabinet.proofs.Decoding.{tvp_invalid, tvp_valid}
use Rattle.cabinet.proofs.tvps.is_tvp.Goals as goal

pub returns-then-moment : goal.returns-then-moment
returns-then-moment c = tvp_valid _ c.moment_of-moment.ensures c.if-moment.true

pub returns-else-moment : goal.returns-else-moment
returns-else-moment c = c.if-moment.false ∙ tvp_invalid _ c.moment_of-moment.ensures c.if-moment.false
