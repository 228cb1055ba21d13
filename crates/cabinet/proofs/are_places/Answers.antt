-- `cabinet::are_places` meets its contract.
-- Assumes nothing.
use mathlib.Core.Path.{sym, ap, ◌∙◌}
use native.Mathlib.Omega.{arith}
use lib.ListN.{length}
use Rattle.text.specs.Text.{Bytes}
use Rattle.shelf.specs.Cabinet.{decode}
use Rattle.cabinet.specs.Steps.{is_place, is_place_at}
use Rattle.cabinet.proofs.Loops.{sought_none, passed_on, passed_not, passed_all}
use Rattle.cabinet.proofs.Bytes.{length_part}
use Rattle.cabinet.proofs.are_places.Goals as goal

pub loop-i-init : goal.loop-i-init
loop-i-init c = sought_none _ 0 (omega arith)

pub place_at-requires : goal.place_at-requires
place_at-requires c = record { long = c.requires.long; place = c.loop-i-test.true }

pub is_place-requires : goal.is_place-requires
is_place-requires c = ap length c.place_at.ensures ∙ length_part c.args.cabinet.now c.loop-i.i c.requires.long c.loop-i-test.true

pub returns-then-not-is_place : goal.returns-then-not-is_place
returns-then-not-is_place c = passed_not (is_place_at c.args.cabinet.now) c.loop-i.invariant c.loop-i-test.true (ap (λ (x : Bytes). is_place (decode x)) (sym c.place_at.ensures) ∙ sym c.is_place.ensures ∙ c.if-not-is_place.true)

pub loop-i-preserved : goal.loop-i-preserved
loop-i-preserved c = passed_on (is_place_at c.args.cabinet.now) c.loop-i.invariant c.loop-i-test.true (ap (λ (x : Bytes). is_place (decode x)) (sym c.place_at.ensures) ∙ sym c.is_place.ensures ∙ c.if-not-is_place.false)

pub returns : goal.returns
returns c = passed_all (is_place_at c.args.cabinet.now) c.loop-i.invariant c.loop-i-test.false
