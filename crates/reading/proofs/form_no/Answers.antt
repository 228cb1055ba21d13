-- `reading::form_no` meets its contract: the tests in a row.
-- Assumes nothing.
use mathlib.Core.Path.{sym, ap, ◌∙◌}
use Rattle.reading.specs.Steps.{unless}
use Rattle.reading.proofs.Form.{form_none, form_check}
use Rattle.reading.proofs.Outcomes.{unless_not}
use Rattle.reading.proofs.form_no.Goals as goal

pub returns-then-row-eq-NONE : goal.returns-then-row-eq-NONE
returns-then-row-eq-NONE c = sym (ap (λ n. unless n tt) (form_none _ _ c.if-row-eq-NONE.true))

pub returns-then-no-ne-ACCEPTED : goal.returns-then-no-ne-ACCEPTED
returns-then-no-ne-ACCEPTED c = unless_not _ tt c.if-no-ne-ACCEPTED.true ∙ ap (λ n. unless n tt) (c.check_no-no.ensures ∙ form_check _ _ c.if-row-eq-NONE.false _ c.mark_of.ensures)

pub returns : goal.returns
returns c = ap (λ n. unless n tt) (sym c.if-no-ne-ACCEPTED.false ∙ c.check_no-no.ensures ∙ form_check _ _ c.if-row-eq-NONE.false _ c.mark_of.ensures)
