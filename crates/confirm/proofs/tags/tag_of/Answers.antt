-- `confirm::tags::tag_of` meets its contract.
-- Assumes nothing.
use mathlib.Core.Path.{ap, ◌∙◌}
use Rattle.sha384.specs.State.{added}
use Rattle.sha384.specs.declared.Sha384.{Sha384}
use Rattle.hmac.specs.State.{hmac_ended}
use Rattle.hmac.proofs.Tags.{tag_once}
use Rattle.agreement.specs.Steps.{text_of}
use Rattle.confirm.proofs.tags.tag_of.Goals as goal

pub returns : goal.returns
returns c =
    let a = c.args in
    let k = a.mac_key.now in
    let text = text_of a.outline.now.label.now a.outline.now.fields.now a.request.now.bytes.now in
    c.end.ensures ∙ ap (hmac_ended k) (c.add_text-given.ensures ∙ ap (λ (s : Sha384). added s text) c.begin-begun.ensures) ∙ tag_once k text
