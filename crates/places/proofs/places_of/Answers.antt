-- `places::places_of` meets its contract. The loop's invariant: j fields have their places.
-- Assumes nothing.
use native.Mathlib.Omega.{arith}
use Rattle.frame.proofs.Parts.{next_within}
use Rattle.places.proofs.Walk.{walk_begins, walk_ends, walk_full, walk_goes_on, ends_from, ends_within}
use Rattle.places.proofs.places_of.Goals as goal

pub overflow_add-start : goal.overflow_add-start
overflow_add-start c = omega (arith, c.next_mark-start.ensures, next_within c.args.mark c.args.body.now 0 (omega arith))

pub loop-j-init : goal.loop-j-init
loop-j-init c = walk_begins _ _ _ c.next_mark-start.ensures

pub returns-then-body-start : goal.returns-then-body-start
returns-then-body-start c = walk_ends _ _ _ _ _ c.loop-j.invariant (omega arith) c.if-body-start.true

pub overflow_sub-places : goal.overflow_sub-places
overflow_sub-places c = ends_from _ _ _ _ _ c.loop-j.invariant (omega arith) _ c.next_mark-end.ensures

pub overflow_add-start-in-loop-j : goal.overflow_add-start-in-loop-j
overflow_add-start-in-loop-j c = omega (arith, ends_within _ _ _ _ _ c.loop-j.invariant (omega (arith, c.if-body-start.false)) _ c.next_mark-end.ensures)

pub loop-j-preserved : goal.loop-j-preserved
loop-j-preserved c = walk_goes_on _ _ _ _ _ c.loop-j.invariant (omega arith) _ c.next_mark-end.ensures

pub returns-then-start-body : goal.returns-then-start-body
returns-then-start-body c = walk_full _ _ _ _ _ c.loop-j.invariant (omega arith) (omega arith) c.if-start-body.true

pub returns-else-start-body : goal.returns-else-start-body
returns-else-start-body c = walk_ends _ _ _ _ _ c.loop-j.invariant (omega arith) (omega arith)
