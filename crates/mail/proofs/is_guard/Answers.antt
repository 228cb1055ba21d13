-- `mail::is_guard` meets its contract.
-- Assumes nothing.
use mathlib.Core.Path.{sym, ◌∙◌}
use mathlib.Core.List.{◌++◌}
use native.Mathlib.Omega.{arith}
use Rattle.text.specs.Text.{ascii}
use Rattle.mail.proofs.Guards.{guard_apart, front_apart, front_stripped}
use Rattle.mail.proofs.is_guard.Goals as goal
use Rattle.mail.proofs.is_guard.Goals.{then-line-rectype-via-then-line-rectype, then-line-rectype-via-else-line-rectype+then-line-rectype-2}

pub returns-then-line-rectype : goal.returns-then-line-rectype
returns-then-line-rectype c =
    guard_apart c.args.line.now c.args.word.now c.args.rectype.now
    (λ q. elim c.then-line-rectype.branch [
      | then-line-rectype-via-then-line-rectype w ↦ omega (arith, q, w.if-line-rectype.true)
      | then-line-rectype-via-else-line-rectype+then-line-rectype-2 w ↦ omega (arith, q, w.if-line-rectype.false, w.if-line-rectype-2.true)
    ])

pub returns-in_default : goal.returns-in_default
returns-in_default c = sym (front_apart (ascii "--STS:") (c.args.rectype.now ++ c.args.word.now) c.args.line.now c.in_default.ensures.cases)

pub returns-in_default-strip_prefix : goal.returns-in_default-strip_prefix
returns-in_default-strip_prefix c =
    let front = c.in-Some.ensures.cases in
    sym (front_stripped (ascii "--STS:") (c.args.rectype.now ++ c.args.word.now) c.args.line.now front.0 front.1 ∙ front_apart c.args.rectype.now c.args.word.now c.in-Some.rest.now c.in_default-strip_prefix.ensures.cases)

pub returns : goal.returns
returns c =
    let front = c.in-Some.ensures.cases in
    let middle = c.in-Some-strip_prefix.ensures.cases in
    c.are_same.ensures ∙ sym (front_stripped (ascii "--STS:") (c.args.rectype.now ++ c.args.word.now) c.args.line.now front.0 front.1 ∙ front_stripped c.args.rectype.now c.args.word.now c.in-Some.rest.now middle.0 middle.1)
