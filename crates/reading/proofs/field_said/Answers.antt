-- `reading::field_said` meets its contract.
-- Assumes nothing.
use mathlib.Core.Path.{sym, ap, ap₂, ◌∙◌}
use mir.Facts.{and_yes}
use Rattle.std.proofs.lemmas.Result.{err_from_is_err_and}
use Rattle.text.proofs.Tests.{true_T}
use Rattle.format.specs.Build.{empty}
use Rattle.format.specs.Read.{read_identity}
use Rattle.table.specs.Table.{field_type, may_be_empty}
use Rattle.reading.specs.Reading.{kind_within}
use Rattle.reading.specs.Steps.{unless}
use Rattle.reading.proofs.Types.{answer_empty, answer_identity, answer_text, kind_empty, kind_identity, kind_text}
use Rattle.reading.proofs.Outcomes.{unless_ok, unless_err, unless_not}
use Rattle.reading.proofs.field_said.Goals as goal

pub returns-then-is_left_empty : goal.returns-then-is_left_empty
returns-then-is_left_empty c =
    let f = c.args.field.now in
    let t = field_type c.args.code in
    let b = and_yes (empty f) (may_be_empty t) (true_T _ (sym c.is_left_empty.ensures ∙ c.if-is_left_empty.true)) in
    ap₂ unless (sym (answer_empty read_identity f t b.0 b.1)) (sym (kind_empty t f b.0))

pub returns-then-is_identity : goal.returns-then-is_identity
returns-then-is_identity c =
    let f = c.args.field.now in
    let is = sym c.is_identity.ensures ∙ c.if-is_identity.true in
    c.identity_said.ensures
    ∙ ap₂ unless (sym (answer_identity read_identity f _ (sym c.is_left_empty.ensures ∙ c.if-is_left_empty.false) is)) (sym (kind_identity f _ is))

pub returns-in_err-text_no : goal.returns-in_err-text_no
returns-in_err-text_no c =
    let p = err_from_is_err_and c.from_residual.result c.from_residual.ensures.1 in
    let u = unless_err _ _ tt c.in_err-text_no.ensures in
    rw (p.1, p.2) (unless_not _ _ (λ z. u.1 (sym u.0 ∙ z)) ∙ ap (λ n. unless n (kind_within (field_type c.args.code) c.args.field.now)) (u.0 ∙ sym (answer_text read_identity c.args.field.now _ (sym c.is_left_empty.ensures ∙ c.if-is_left_empty.false) (sym c.is_identity.ensures ∙ c.if-is_identity.false))))

pub returns : goal.returns
returns c =
    let f = c.args.field.now in
    let is = sym c.is_identity.ensures ∙ c.if-is_identity.false in
    ap₂ unless (sym (unless_ok _ tt tt c.in_ok-text_no.ensures).0 ∙ sym (answer_text read_identity f _ (sym c.is_left_empty.ensures ∙ c.if-is_left_empty.false) is)) (sym (kind_text f _ is))
