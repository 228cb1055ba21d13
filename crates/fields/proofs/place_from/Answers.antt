-- `fields::place_from` meets its contract.
-- Assumes nothing.
use mathlib.Core.Path.{refl, sym, ◌∙◌}
use Rattle.reading.proofs.Outcomes.{unless_ok, unless_err}
use native.Mathlib.Omega.{arith}
use Rattle.text.proofs.Tests.{between_low, between_high}
use Rattle.fields.proofs.Wanted.{place_none, place_there}
use Rattle.fields.proofs.place_from.Goals as goal

pub returns-in-Err : goal.returns-in-Err
returns-in-Err c = λ o s r e. let u = unless_err _ _ tt (c.in-Err.ensures.0 o s r e) in rw c.nowhere.ensures (place_none s _ o r _ e _ u.0 (λ z. u.1 (sym u.0 ∙ z)))

pub overflow_sub-at : goal.overflow_sub-at
overflow_sub-at c = between_low 1 7 _ (c.in_default.ensures.1)

pub offset_bounds-answer-at : goal.offset_bounds-answer-at
offset_bounds-answer-at c = omega (arith, between_low 1 7 c.args.wanted (c.in_default.ensures.1), between_high 1 7 c.args.wanted (c.in_default.ensures.1))

pub bounds-answer-at : goal.bounds-answer-at
bounds-answer-at c = omega (arith, between_low 1 7 c.args.wanted (c.in_default.ensures.1), between_high 1 7 c.args.wanted (c.in_default.ensures.1))

pub offset_bounds-answer-at-2 : goal.offset_bounds-answer-at-2
offset_bounds-answer-at-2 c = omega (arith, between_low 1 7 c.args.wanted (c.in_default.ensures.1), between_high 1 7 c.args.wanted (c.in_default.ensures.1))

pub bounds-answer-at-2 : goal.bounds-answer-at-2
bounds-answer-at-2 c = omega (arith, between_low 1 7 c.args.wanted (c.in_default.ensures.1), between_high 1 7 c.args.wanted (c.in_default.ensures.1))

pub returns : goal.returns
returns c = λ o s r e. place_there s _ o r _ e 0 (sym (unless_ok _ tt tt (c.in_default.ensures.0 o s r e)).0) refl _ _ refl refl
