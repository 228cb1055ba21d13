-- `text::moment::since_start` meets its contract.
-- Assumes nothing.
use Rattle.text.proofs.Seconds.{difference_fits, difference_is}
use Rattle.text.proofs.moment.since_start.Goals as goal

pub overflow_sub-result : goal.overflow_sub-result
overflow_sub-result c = difference_fits c.args.total c.requires

pub returns : goal.returns
returns c = difference_is c.args.total c.requires
