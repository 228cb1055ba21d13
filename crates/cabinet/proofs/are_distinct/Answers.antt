-- `cabinet::are_distinct` meets its contract.
-- Assumes nothing.
use mathlib.Core.Path.{sym, ◌∙◌}
use native.Mathlib.Omega.{arith}
use Rattle.cabinet.specs.Steps.{alone_at}
use Rattle.cabinet.proofs.Loops.{sought_none, passed_on, passed_not, passed_all}
use Rattle.cabinet.proofs.are_distinct.Goals as goal

pub loop-i-init : goal.loop-i-init
loop-i-init c = sought_none _ 0 (omega arith)

pub is_alone-requires : goal.is_alone-requires
is_alone-requires c = record { long = c.requires.long; place = c.loop-i-test.true }

pub returns-then-not-is_alone : goal.returns-then-not-is_alone
returns-then-not-is_alone c = passed_not (alone_at c.args.cabinet.now) c.loop-i.invariant c.loop-i-test.true (sym c.is_alone.ensures ∙ c.if-not-is_alone.true)

pub loop-i-preserved : goal.loop-i-preserved
loop-i-preserved c = passed_on (alone_at c.args.cabinet.now) c.loop-i.invariant c.loop-i-test.true (sym c.is_alone.ensures ∙ c.if-not-is_alone.false)

pub returns : goal.returns
returns c = passed_all (alone_at c.args.cabinet.now) c.loop-i.invariant c.loop-i-test.false
