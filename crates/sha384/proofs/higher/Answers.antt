-- `sha384::higher` meets its contract.
-- Assumes nothing.
use Rattle.std.proofs.Common.{arith}
use Rattle.sha384.proofs.Taken.{beyond, within}
use Rattle.sha384.proofs.higher.Goals as goal

pub returns-then-carries : goal.returns-then-carries
returns-then-carries c = beyond c.args.high c.args.low c.args.more (omega arith) (omega arith) (rw c.if-carries.true at c.overflowing_add-carries.ensures.overflow)

pub returns-else-carries : goal.returns-else-carries
returns-else-carries c = within c.args.high c.args.low c.args.more (omega arith) (rw c.if-carries.false at c.overflowing_add-carries.ensures.overflow)
