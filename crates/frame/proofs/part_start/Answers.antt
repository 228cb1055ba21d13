-- `frame::part_start` meets its contract. The loop's invariant: as many parts as it counts were passed.
-- Assumes nothing.
use native.Mathlib.Omega.{arith}
use Rattle.frame.proofs.Parts.{walk_start, walk_on, walk_last, next_within}
use Rattle.frame.proofs.part_start.Goals as goal

pub loop-init : goal.loop-init
loop-init c = walk_start _ _

pub returns-then-s-i : goal.returns-then-s-i
returns-then-s-i c = walk_last _ _ _ _ c.loop.invariant c.if-s-i.true c.args.n (omega arith)

pub overflow_add-i : goal.overflow_add-i
overflow_add-i c = omega (arith, c.next_mark-i.ensures, next_within c.args.mark c.args.s.now c.loop.i (omega arith))

pub loop-preserved : goal.loop-preserved
loop-preserved c = walk_on _ _ _ _ c.loop.invariant (omega arith) _ c.next_mark-i.ensures
