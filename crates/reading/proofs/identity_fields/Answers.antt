-- `reading::identity_fields` meets its contract.
-- Assumes nothing.
use mathlib.Core.Path.{refl, sym, ◌∙◌}
use native.Mathlib.Omega.{arith}
use Rattle.format.specs.Read.{nobody}
use Rattle.reading.proofs.Types.{plain_answer}
use Rattle.reading.proofs.Loops.{few_fields, turn_done, turn_stop, turn_on}
use Rattle.reading.proofs.Outcomes.{unless_ok, unless_err}
use Rattle.reading.proofs.identity_fields.Goals as goal

pub overflow_cast-result : goal.overflow_cast-result
overflow_cast-result c = omega (arith, few_fields _ _ c.count_of-j-end.ensures, c.loop-j-test.true)

pub overflow_add-result : goal.overflow_add-result
overflow_add-result c = omega (arith, few_fields _ _ c.count_of-j-end.ensures, c.loop-j-test.true)

pub returns-in-Err : goal.returns-in-Err
returns-in-Err c =
    let u = unless_err _ _ tt c.in-Err.ensures in
    let n = u.0 ∙ sym (plain_answer nobody _ _ _ _ c.requires c.type_of.ensures) in
    turn_stop nobody _ _ _ _ _ c.count_of-j-end.ensures _ c.loop-j.invariant c.loop-j-test.true _ c.part_at.ensures.holds c.type_of.ensures n (λ z. u.1 (sym u.0 ∙ z))

pub loop-j-preserved : goal.loop-j-preserved
loop-j-preserved c =
    let n = sym (unless_ok _ tt tt c.in_default.ensures).0 ∙ sym (plain_answer nobody _ _ _ _ c.requires c.type_of.ensures) in
    turn_on nobody _ _ _ _ _ c.count_of-j-end.ensures _ c.loop-j.invariant c.loop-j-test.true _ c.part_at.ensures.holds c.type_of.ensures n refl

pub returns : goal.returns
returns c = turn_done nobody _ _ _ _ _ c.count_of-j-end.ensures _ c.loop-j.invariant c.loop-j-test.false
