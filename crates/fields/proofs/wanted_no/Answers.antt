-- `fields::wanted_no` meets its contract: the tests in a row.
-- Assumes nothing.
use mathlib.Core.Path.{ap, ◌∙◌}
use Rattle.reading.specs.Steps.{unless}
use Rattle.reading.proofs.Outcomes.{unless_not}
use native.Mathlib.Omega.{arith}
use Rattle.fields.proofs.Wanted.{wanted_refused, wanted_zero, wanted_past, wanted_there, wanted_few}
use Rattle.fields.proofs.wanted_no.Goals as goal

pub returns-then-answer-ne-ACCEPTED : goal.returns-then-answer-ne-ACCEPTED
returns-then-answer-ne-ACCEPTED c = ((λ o s r e. unless_not _ tt c.if-answer-ne-ACCEPTED.true ∙ ap (λ n. unless n tt) (wanted_refused o s r _ e _ c.if-answer-ne-ACCEPTED.true)), tt)

pub returns-then-wanted-eq0 : goal.returns-then-wanted-eq0
returns-then-wanted-eq0 c = ((λ o s r e. ap (λ n. unless n tt) (wanted_zero o s r _ e _ c.if-answer-ne-ACCEPTED.false c.if-wanted-eq0.true)), tt)

pub returns-then-count_of-wanted : goal.returns-then-count_of-wanted
returns-then-count_of-wanted c = ((λ o s r e. ap (λ n. unless n tt) (wanted_past o s r _ e _ c.if-answer-ne-ACCEPTED.false c.if-wanted-eq0.false (omega (arith, c.count_of.ensures, c.if-count_of-wanted.true)))), tt)

pub returns : goal.returns
returns c = ((λ o s r e. ap (λ n. unless n tt) (wanted_there o s r _ e _ c.if-answer-ne-ACCEPTED.false c.if-wanted-eq0.false (omega (arith, c.count_of.ensures, c.if-count_of-wanted.false)))), wanted_few _ c.args.answer.now.kind c.if-wanted-eq0.false (omega (arith, c.count_of.ensures, c.if-count_of-wanted.false)))
