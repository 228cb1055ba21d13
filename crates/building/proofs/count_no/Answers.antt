-- `building::count_no` meets its contract: the tests in a row.
-- Assumes nothing.
use mathlib.Core.Path.{sym, ap, ◌∙◌}
use mathlib.Core.Bool.{cond}
use Rattle.reading.specs.Steps.{unless}
use Rattle.building.proofs.Form.{form_none, form_count, form_sum}
use Rattle.building.proofs.count_no.Goals as goal

pub returns-then-row-eq-NONE : goal.returns-then-row-eq-NONE
returns-then-row-eq-NONE c = ap (λ n. unless n tt) (form_none _ c.args.bytes.now c.args.lens.now c.if-row-eq-NONE.true)

pub returns-then-lens-count_of : goal.returns-then-lens-count_of
returns-then-lens-count_of c = ap (λ n. unless n tt) (form_count _ c.args.bytes.now _ c.if-row-eq-NONE.false _ c.count_of.ensures c.if-lens-count_of.true)

pub returns-then-do_add_up : goal.returns-then-do_add_up
returns-then-do_add_up c = ap (λ n. unless n tt) (ap (λ b. cond b 0 5) (sym c.if-do_add_up.true) ∙ form_sum _ c.args.bytes.now c.args.lens.now c.if-row-eq-NONE.false _ c.count_of.ensures c.if-lens-count_of.false _ c.do_add_up.ensures)

pub returns : goal.returns
returns c = ap (λ n. unless n tt) (ap (λ b. cond b 0 5) (sym c.if-do_add_up.false) ∙ form_sum _ c.args.bytes.now c.args.lens.now c.if-row-eq-NONE.false _ c.count_of.ensures c.if-lens-count_of.false _ c.do_add_up.ensures)
