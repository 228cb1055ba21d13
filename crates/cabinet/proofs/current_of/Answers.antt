-- `cabinet::current_of` meets its contract.
-- Assumes nothing.
use mathlib.Core.Path.{sym, ◌∙◌, ap}
use native.Mathlib.Omega.{arith}
use Rattle.cabinet.specs.Steps.{unless_old_at}
use Rattle.cabinet.proofs.Calls.{below, at_none, at_old, at_new}
use Rattle.cabinet.proofs.current_of.Goals as goal

pub place_of-requires : goal.place_of-requires
place_of-requires c = (record { long = c.requires.long }, omega arith)

pub returns-in_err-its : goal.returns-in_err-its
returns-in_err-its c = rw c.from_residual.ensures (sym (at_none c.args.cabinet.now _ c.in_err-its.ensures))

pub place_at-requires : goal.place_at-requires
place_at-requires c = record { long = c.requires.long; place = c.in_ok-its.ensures.1 }

pub returns-then-is_old : goal.returns-then-is_old
returns-then-is_old c =
    sym (at_old c.args.cabinet.now _ (below c.in_ok-its.ensures.1) c.place_at.ensures c.is_old.ensures c.if-is_old.true ∙ ap (unless_old_at c.args.cabinet.now) c.in_ok-its.ensures.0)

pub returns : goal.returns
returns c = (at_new c.args.cabinet.now _ (below c.in_ok-its.ensures.1) c.place_at.ensures c.is_old.ensures c.if-is_old.false ∙ ap (unless_old_at c.args.cabinet.now) c.in_ok-its.ensures.0, c.in_ok-its.ensures.1)
