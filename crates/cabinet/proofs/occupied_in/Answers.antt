-- `cabinet::occupied_in` meets its contract. The loop's invariant: so many places before `from` are occupied.
-- Assumes nothing.
use native.Mathlib.Omega.{arith}
use Rattle.cabinet.proofs.Loops.{tallied_none, tallied_more, next_after, tallied_all}
use Rattle.cabinet.proofs.occupied_in.Goals as goal

pub loop-at-init : goal.loop-at-init
loop-at-init c = tallied_none c.args.cabinet.now

pub occupied_from-requires : goal.occupied_from-requires
occupied_from-requires c = (c.requires, c.loop-at.invariant.within)

pub overflow_add-count : goal.overflow_add-count
overflow_add-count c = omega (arith, c.loop-at.invariant.few, c.loop-at.invariant.within)

pub loop-at-smaller : goal.loop-at-smaller
loop-at-smaller c = let (first, here) = c.in-Some.ensures in omega (arith, here, next_after c.loop-at.invariant first)

pub loop-at-preserved : goal.loop-at-preserved
loop-at-preserved c = let (first, here) = c.in-Some.ensures in tallied_more c.loop-at.invariant first here

pub returns : goal.returns
returns c = tallied_all c.loop-at.invariant c.in_default.ensures
