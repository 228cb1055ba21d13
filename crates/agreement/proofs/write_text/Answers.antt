-- `agreement::write_text` meets its contract.
-- Assumes nothing.
use mathlib.Core.List.{[], ◌∷◌}
use native.Mathlib.Omega.{arith}
use Rattle.format.specs.Kinds.{REQ}
use Rattle.given.proofs.Given.{given_refused, given_short, given_put}
use Rattle.format.specs.Read.{read_of}
use Rattle.items.specs.Items.{lv_concat}
use Rattle.agreement.specs.Steps.{items_by}
use Rattle.agreement.proofs.Request.{request_read, request_suited, request_places}
use Rattle.agreement.proofs.write_text.Goals as goal

pub returns-then-answer-ne-ACCEPTED : goal.returns-then-answer-ne-ACCEPTED
returns-then-answer-ne-ACCEPTED c =
    let text = c.args.outline.now in
    given_refused (λ k fs. lv_concat (items_by text.label.now text.fields.now fs)) (read_of (REQ ∷ []) c.args.request.now) c.read_of-answer.ensures c.if-answer-ne-ACCEPTED.true _ _ c.refuse.ensures

pub invariant_of-accepted : goal.invariant_of-accepted
invariant_of-accepted c = record {
  placed = request_places c.args.request.now _ c.read_of-answer.ensures c.if-answer-ne-ACCEPTED.false;
  suited = request_suited c.args.request.now _ c.read_of-answer.ensures c.if-answer-ne-ACCEPTED.false;
}

pub returns-then-out-text_length : goal.returns-then-out-text_length
returns-then-out-text_length c =
    let text = c.args.outline.now in
    let e = request_read c.args.request.now _ c.read_of-answer.ensures c.if-answer-ne-ACCEPTED.false in
    given_short (λ k fs. lv_concat (items_by text.label.now text.fields.now fs)) e _ _ (omega (arith, c.text_length.ensures, c.if-out-text_length.true)) c.refuse-then-out-text_length.ensures

pub returns : goal.returns
returns c =
    let text = c.args.outline.now in
    let e = request_read c.args.request.now _ c.read_of-answer.ensures c.if-answer-ne-ACCEPTED.false in
    given_put (λ k fs. lv_concat (items_by text.label.now text.fields.now fs)) e c.put_text-len.ensures
