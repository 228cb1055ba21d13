-- `mail::line_where` meets its contract. The loop's invariant: the lines before the place do not pass.
-- Assumes nothing.
use native.Mathlib.Omega.{arith}
use Rattle.mail.specs.Steps.{none}
use Rattle.mail.proofs.Finding.{line_within, walked_on}
use Rattle.mail.proofs.line_where.Goals as goal

pub loop-at-init : goal.loop-at-init
loop-at-init g c = none

pub loop-at-preserved : goal.loop-at-preserved
loop-at-preserved g c = walked_on c.loop-at.invariant c.loop-at-test.true c.line_from-line.ensures (record { shown = c.line_from-line.result; shows = c.line_from-line.ensures; says = record { met = c.if-passes.ensures } })

pub loop-at-smaller : goal.loop-at-smaller
loop-at-smaller g c = omega (arith, line_within c.args.text.now c.loop-at.at c.loop-at-test.true c.line_from-line.ensures)
