-- `cabinet::is_alone` meets its contract.
-- Assumes nothing.
use mathlib.Core.Path.{refl, sym, ap, ◌∙◌}
use native.Mathlib.Omega.{arith}
use lib.ListN.{length, get_or}
use borrow.Author.Tests.{eq-eqb}
use Rattle.text.specs.Text.{Bytes}
use Rattle.cabinet.proofs.Bytes.{length_part}
use Rattle.cabinet.proofs.Loops.{none_among}
use Rattle.cabinet.proofs.Cabinets.{alone_free, alone_named}
use Rattle.cabinet.proofs.is_alone.Goals as goal

pub bounds-place-0 : goal.bounds-place-0
bounds-place-0 c = omega (arith, ap length c.place_at-place.ensures, length_part c.args.cabinet.now c.args.i c.requires.long c.requires.place)

pub returns-then-place-eq0 : goal.returns-then-place-eq0
returns-then-place-eq0 c = eq-eqb _ 0 c.if-place-eq0.true ∙ alone_free c.args.cabinet.now c.args.i (ap (λ (x : Bytes). get_or x 0 0) (sym c.place_at-place.ensures) ∙ c.if-place-eq0.true)

pub place_of-requires : goal.place_of-requires
place_of-requires c = (record { long = c.requires.long }, omega (arith, c.requires.place))

pub returns-else-place-eq0 : goal.returns-else-place-eq0
returns-else-place-eq0 c =
    none_among _ _ c.place_of.ensures c.is_none.ensures
    ∙ alone_named c.args.cabinet.now c.args.i (λ e. c.if-place-eq0.false (ap (λ (x : Bytes). get_or x 0 0) c.place_at-place.ensures ∙ e)) c.place_at-place.ensures c.subject_in.ensures c.names_in.ensures refl
