-- `building::do_add_up` meets its contract. The loop's invariant: the lengths before j are counted off the total.
-- Assumes nothing.
use Rattle.building.proofs.Sums.{left_all, left_short, left_next, left_end}
use Rattle.building.proofs.do_add_up.Goals as goal

pub loop-len-init : goal.loop-len-init
loop-len-init c = left_all _ _

pub returns-then-left-len : goal.returns-then-left-len
returns-then-left-len c = left_short c.loop-len.invariant c.loop-len-test.true c.if-left-len.true

pub loop-len-preserved : goal.loop-len-preserved
loop-len-preserved c = left_next c.loop-len.invariant c.loop-len-test.true c.if-left-len.false

pub returns : goal.returns
returns c = left_end c.loop-len.invariant c.loop-len-test.false
