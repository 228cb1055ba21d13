-- `cabinet::lowest` meets its contract. The loop's invariant: no place before i passes.
-- Assumes nothing.
use native.Mathlib.Omega.{arith}
use Rattle.cabinet.specs.Steps.{start, onward}
use Rattle.cabinet.proofs.Loops.{below_all}
use Rattle.cabinet.proofs.lowest.Goals as goal

pub loop-i-init : goal.loop-i-init
loop-i-init g c = (start, c.requires.from_in_bounds)

pub returns-then-passes : goal.returns-then-passes
returns-then-passes g c = (c.loop-i.invariant.0, c.loop-i-test.true, c.if-passes.ensures)

pub loop-i-preserved : goal.loop-i-preserved
loop-i-preserved g c = (onward c.loop-i.invariant.0 c.loop-i-test.true c.if-passes.ensures, omega arith)

pub returns : goal.returns
returns g c = below_all c.loop-i.invariant.0 (omega (arith, c.loop-i.invariant.1, c.loop-i-test.false))
