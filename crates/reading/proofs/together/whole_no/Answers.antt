-- `reading::together::whole_no` meets its contract.
-- Assumes nothing.
use mathlib.Core.Path.{sym, ap, ◌∙◌}
use Rattle.reading.specs.Steps.{unless}
use Rattle.reading.proofs.Whole.{pubkey-fields, list_field, whole_other}
use Rattle.reading.proofs.together.whole_no.Goals as goal

pub returns-then-is_pubkey : goal.returns-then-is_pubkey
returns-then-is_pubkey c =
    c.pubkey_no.ensures
    ∙ ap (λ n. unless n tt) (sym (pubkey-fields _ _ _ _ _ _ _ _ (sym c.is_pubkey.ensures ∙ c.if-is_pubkey.true) c.field_at-subject.ensures.holds c.field_at-issuer.ensures.holds c.field_at-signature.ensures.holds))

pub returns-then-row-eq-KEY : goal.returns-then-row-eq-KEY
returns-then-row-eq-KEY c = c.attributes_no.ensures ∙ ap (λ n. unless n tt) (sym (list_field _ _ _ _ _ _ c.if-row-eq-KEY.true c.field_at.ensures.holds))

pub returns : goal.returns
returns c = ap (λ n. unless n tt) (sym (whole_other _ _ _ (sym c.is_pubkey.ensures ∙ c.if-is_pubkey.false) c.if-row-eq-KEY.false))
