-- `hmac::hmac_of` meets its contract.
-- Assumes nothing.
use mathlib.Core.Path.{ap, ◌∙◌}
use Rattle.sha384.specs.State.{added}
use Rattle.sha384.specs.declared.Sha384.{Sha384}
use Rattle.hmac.specs.State.{hmac_ended}
use Rattle.hmac.proofs.Tags.{tag_once}
use Rattle.hmac.proofs.hmac_of.Goals as goal

pub returns : goal.returns
returns c =
    let k = c.args.key.now in
    let t = c.args.text.now in
    c.end.ensures ∙ ap (hmac_ended k) (c.add-given.ensures ∙ ap (λ (s : Sha384). added s t) c.begin.ensures) ∙ tag_once k t
