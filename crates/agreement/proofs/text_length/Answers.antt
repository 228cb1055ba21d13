-- `agreement::text_length` meets its contract. The loop's invariant: all but the fields from the index on are counted.
-- Assumes nothing.
use native.Mathlib.Omega.{arith}
use Rattle.agreement.proofs.Items.{counted_none, counted_fits, counted_more, counted_all}
use Rattle.agreement.proofs.text_length.Goals as goal

pub loop-n-init : goal.loop-n-init
loop-n-init c = counted_none c.args.outline.now.small c.args.request.now.suited

pub overflow_add-total-in-loop-n : goal.overflow_add-total-in-loop-n
overflow_add-total-in-loop-n c = omega (arith, counted_fits c.loop-n.invariant c.loop-n-test.true c.field_length.ensures)

pub overflow_add-total-in-loop-n-2 : goal.overflow_add-total-in-loop-n-2
overflow_add-total-in-loop-n-2 c = omega (arith, counted_fits c.loop-n.invariant c.loop-n-test.true c.field_length.ensures)

pub loop-n-preserved : goal.loop-n-preserved
loop-n-preserved c = counted_more c.loop-n.invariant c.loop-n-test.true c.field_length.ensures

pub returns : goal.returns
returns c = counted_all c.loop-n.invariant c.loop-n-test.false
