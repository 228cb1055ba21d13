-- `reading::record_fields` meets its contract.
-- Assumes nothing.
use mathlib.Core.Path.{refl, sym, ap, ◌∙◌}
use native.Mathlib.Omega.{arith}
use Rattle.format.specs.Read.{read_identity}
use Rattle.table.specs.Table.{field_type}
use Rattle.reading.specs.Reading.{kind_within}
use Rattle.reading.proofs.Loops.{few_fields, turn_done, turn_stop, turn_on, its_part, kinds_on, kinds_done}
use Rattle.reading.proofs.Outcomes.{unless_ok, unless_err}
use Rattle.reading.proofs.record_fields.Goals as goal

pub offset_bounds-kinds-j : goal.offset_bounds-kinds-j
offset_bounds-kinds-j c = omega (arith, few_fields _ _ c.count_of-j-end.ensures, c.loop-j-test.true)

pub bounds-kinds-j : goal.bounds-kinds-j
bounds-kinds-j c = omega (arith, few_fields _ _ c.count_of-j-end.ensures, c.loop-j-test.true, c.loop-j.invariant.1.seven_kinds)

pub overflow_cast-result : goal.overflow_cast-result
overflow_cast-result c = omega (arith, few_fields _ _ c.count_of-j-end.ensures, c.loop-j-test.true)

pub overflow_add-result : goal.overflow_add-result
overflow_add-result c = omega (arith, few_fields _ _ c.count_of-j-end.ensures, c.loop-j-test.true)

pub returns-in-Err : goal.returns-in-Err
returns-in-Err c =
    let u = unless_err _ _ _ c.in-Err.ensures in
    turn_stop read_identity _ _ _ _ _ c.count_of-j-end.ensures _ c.loop-j.invariant.0 c.loop-j-test.true _ c.part_at.ensures.holds c.type_of.ensures u.0 (λ z. u.1 (sym u.0 ∙ z))

pub loop-j-preserved : goal.loop-j-preserved
loop-j-preserved c =
    let u = unless_ok _ _ _ c.in-Ok.ensures in
    (turn_on read_identity _ _ _ _ _ c.count_of-j-end.ensures _ c.loop-j.invariant.0 c.loop-j-test.true _ c.part_at.ensures.holds c.type_of.ensures (sym u.0) refl, kinds_on c.loop-j.invariant.1 (omega (arith, c.count_of-j-end.ensures, c.loop-j-test.true)) _ _ c.type_of.ensures (u.1 ∙ ap (kind_within (field_type c.type_of.result)) (its_part read_identity _ _ _ _ _ c.count_of-j-end.ensures _ c.loop-j.invariant.0 c.loop-j-test.true _ c.part_at.ensures.holds)))

pub returns : goal.returns
returns c = record { pass = turn_done read_identity _ _ _ _ _ c.count_of-j-end.ensures _ c.loop-j.invariant.0 c.loop-j-test.false; all_kinds = kinds_done c.loop-j.invariant.1 (omega (arith, c.count_of-j-end.ensures, c.loop-j-test.false)) }
