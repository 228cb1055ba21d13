-- `reading::accept_identity` meets its contract: the call step by step.
-- Assumes nothing.
use mathlib.Core.Path.{◌≡◌, sym, ap, ◌∙◌}
use Rattle.std.specs.Prelude.{Ok}
use Rattle.std.proofs.lemmas.Result.{err_from_is_err_and}
use Rattle.format.specs.Kinds.{identity_kinds}
use Rattle.format.specs.Read.{accepted, read_identity, nobody}
use Rattle.format.proofs.Exactly.{identity_exact, its_parts}
use Rattle.format.specs.declared.Rules.TheVariants.{Today}
use Rattle.reading.specs.Steps.{answer_or}
use Rattle.reading.proofs.Answers.{taken_so}
use Rattle.reading.proofs.Outcomes.{over_long}
use Rattle.reading.proofs.Calls.{begun, call_places_not, call_kind, call_parts, call_field, call_accepted, call_starts, call_lens, identity_is, identity_below, identity_plain, identity-kinds}
use Rattle.reading.proofs.accept_identity.Goals as goal

pub returns-then-identity-gt-LONGEST : goal.returns-then-identity-gt-LONGEST
returns-then-identity-gt-LONGEST c = rw c.from.ensures (sym (ap answer_or (identity_is _ ∙ over_long Today nobody identity_kinds c.args.identity.now c.if-identity-gt-LONGEST.true)))

pub returns-in_err-found : goal.returns-in_err-found
returns-in_err-found c =
    let p = err_from_is_err_and c.from_residual.result c.from_residual.ensures.1 in
    rw (p.1, p.2) (sym (ap answer_or (identity_is _ ∙ call_places_not nobody (begun identity_kinds _ _ _ _ c.if-identity-gt-LONGEST.false c.title_of.ensures.holds c.mark_after.ensures c.identity_kind-row.ensures) _ c.in_err-found.ensures Today)))

pub identity_fields-requires : goal.identity_fields-requires
identity_fields-requires c = identity_below (begun identity_kinds _ _ _ _ c.if-identity-gt-LONGEST.false c.title_of.ensures.holds c.mark_after.ensures c.identity_kind-row.ensures) c.in_ok-found.ensures

pub returns-in_err-identity_fields : goal.returns-in_err-identity_fields
returns-in_err-identity_fields c =
    let p = err_from_is_err_and c.from_residual-in_err-identity_fields.result c.from_residual-in_err-identity_fields.ensures.1 in
    rw (p.1, p.2) (sym (ap answer_or (identity_is _ ∙ call_field nobody (begun identity_kinds _ _ _ _ c.if-identity-gt-LONGEST.false c.title_of.ensures.holds c.mark_after.ensures c.identity_kind-row.ensures) c.in_ok-found.ensures _ c.body_of.ensures.holds c.in_err-identity_fields.ensures Today)))

pub returns : goal.returns
returns c =
    let s = begun identity_kinds _ _ _ _ c.if-identity-gt-LONGEST.false c.title_of.ensures.holds c.mark_after.ensures c.identity_kind-row.ensures in
    let e = c.in_ok-found.ensures in
    let read : read_identity c.args.identity.now ≡ accepted (call_kind nobody s e).kind (call_parts nobody s e) = identity_is _ ∙ call_accepted nobody s e _ c.body_of.ensures.holds c.in_ok-identity_fields.ensures Today (identity_plain s e) in
    ap Ok (taken_so _ _ _ _ _ _ (call_kind nobody s e).at (call_starts nobody s e (its_parts ((identity_exact _ _ _).0 read))) (call_lens nobody s e) (identity-kinds s e))
    ∙ sym (ap answer_or read)
