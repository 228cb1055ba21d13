-- `fingerprint::check_fingerprint` meets its contract.
-- Assumes nothing.
use mathlib.Core.Path.{sym, ap, ◌∙◌}
use mathlib.Core.Bool.{true, false}
use Rattle.text.specs.Text.{Bytes}
use Rattle.subjects.specs.Subjects.{identity_part}
use Rattle.fingerprint.proofs.Prints.{check_refused, print_long, check_said}
use Rattle.fingerprint.proofs.check_fingerprint.Goals as goal

pub returns-then-answer-ne-ACCEPTED : goal.returns-then-answer-ne-ACCEPTED
returns-then-answer-ne-ACCEPTED c = check_refused c.args.record.now _ c.read_of-answer.ensures c.if-answer-ne-ACCEPTED.true

pub right_print-right-requires : goal.right_print-right-requires
right_print-right-requires c = print_long c.args.record.now _ c.read_of-answer.ensures c.if-answer-ne-ACCEPTED.false

pub returns-then-are_same : goal.returns-then-are_same
returns-then-are_same c = check_said c.args.record.now _ c.read_of-answer.ensures c.if-answer-ne-ACCEPTED.false true (c.field_in-print.ensures.holds ∙ ap (λ (x : Bytes). identity_part x 4) c.field_at-subject.ensures.holds) c.right_print-right.ensures (sym c.are_same.ensures ∙ c.if-are_same.true)

pub returns : goal.returns
returns c = check_said c.args.record.now _ c.read_of-answer.ensures c.if-answer-ne-ACCEPTED.false false (c.field_in-print.ensures.holds ∙ ap (λ (x : Bytes). identity_part x 4) c.field_at-subject.ensures.holds) c.right_print-right.ensures (sym c.are_same.ensures ∙ c.if-are_same.false)
