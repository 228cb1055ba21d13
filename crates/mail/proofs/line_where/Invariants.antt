-- `mail::line_where` meets its contract. The loop's invariant: the lines before the place do not pass.
-- Assumes nothing.
use Prim.Native.Nat.{◌-◌}
use lib.ListN.{length}
use Rattle.std.specs.Fn.{FnReturnsAt}
use Rattle.mail.specs.Steps.{Walked}
use Rattle.mail.proofs.line_where.Given as goal

abbrev pub invariant-loop-at : goal.invariant-loop-at
invariant-loop-at g l = Walked (FnReturnsAt g.F.Fn l.passes) l.text l.from l.at

abbrev pub decreases-loop-at : goal.decreases-loop-at
decreases-loop-at g l = length l.text - l.at
