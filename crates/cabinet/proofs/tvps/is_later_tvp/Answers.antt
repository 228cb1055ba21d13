-- `cabinet::tvps::is_later_tvp` meets its contract.
-- Assumes nothing.
use Rattle.cabinet.specs.Steps.{is_later_tvp}
use Rattle.cabinet.proofs.tvps.is_later_tvp.Goals as goal

pub returns : goal.returns
unfolding is_later_tvp
returns c = c.is_later.ensures
