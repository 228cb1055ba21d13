-- `reading::accept_under` meets its contract: the call step by step.
-- Assumes nothing.
use mathlib.Core.Path.{sym, ap, ◌∙◌}
use Rattle.std.specs.Prelude.{Ok}
use Rattle.std.proofs.lemmas.Result.{err_from_is_err_and}
use Rattle.format.specs.Read.{read_identity}
use Rattle.format.proofs.Exactly.{under_exact, its_parts}
use Rattle.reading.specs.Steps.{answer_or}
use Rattle.reading.proofs.Answers.{taken_so}
use Rattle.reading.proofs.Outcomes.{over_long}
use Rattle.reading.proofs.Calls.{begun, call_places_not, call_kind, call_starts, call_lens, under_is, record_refused, record_accepted, record-kinds}
use Rattle.reading.proofs.accept_under.Goals as goal

pub returns-then-record-gt-LONGEST : goal.returns-then-record-gt-LONGEST
returns-then-record-gt-LONGEST c = rw c.from.ensures (sym (ap answer_or (under_is _ _ _ ∙ over_long _ read_identity _ c.args.«record».now c.if-record-gt-LONGEST.true)))

pub returns-in_err-found : goal.returns-in_err-found
returns-in_err-found c =
    let p = err_from_is_err_and c.from_residual.result c.from_residual.ensures.1 in
    rw (p.1, p.2) (sym (ap answer_or (under_is _ _ _ ∙ call_places_not read_identity (begun _ _ _ _ _ c.if-record-gt-LONGEST.false c.title_of.ensures.holds c.mark_after.ensures c.record_kind-row.ensures) _ c.in_err-found.ensures _)))

pub returns-in_err-kinds : goal.returns-in_err-kinds
returns-in_err-kinds c =
    let p = err_from_is_err_and c.from_residual-in_err-kinds.result c.from_residual-in_err-kinds.ensures.1 in
    rw (p.1, p.2) (sym (ap answer_or (record_refused _ (begun _ _ _ _ _ c.if-record-gt-LONGEST.false c.title_of.ensures.holds c.mark_after.ensures c.record_kind-row.ensures) c.in_ok-found.ensures _ c.body_of.ensures.holds c.judge_under.ensures _ (sym (c.in_err-kinds.was)))))

pub returns : goal.returns
returns c =
    let s = begun _ _ _ _ _ c.if-record-gt-LONGEST.false c.title_of.ensures.holds c.mark_after.ensures c.record_kind-row.ensures in
    let e = c.in_ok-found.ensures in
    let d = c.body_of.ensures.holds in
    let read = record_accepted _ s e _ d c.judge_under.ensures _ (sym c.in_ok-kinds.was) in
    ap Ok (taken_so _ _ _ _ _ _ (call_kind read_identity s e).at (call_starts read_identity s e (its_parts ((under_exact _ _ _ _ _).0 read))) (call_lens read_identity s e) (record-kinds _ s e _ d c.judge_under.ensures _ (sym c.in_ok-kinds.was)))
    ∙ sym (ap answer_or read)
