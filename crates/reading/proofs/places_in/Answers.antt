-- `reading::places_in` meets its contract.
-- Assumes nothing.
use mathlib.Core.Path.{sym, ◌∙◌}
use Rattle.std.proofs.lemmas.Result.{err_from_is_err_and}
use Rattle.reading.proofs.Form.{formed_not, counted_not, counted_so}
use Rattle.reading.proofs.Outcomes.{unless_ok}
use Rattle.reading.proofs.places_in.Goals as goal

pub returns-in_err-form_no : goal.returns-in_err-form_no
returns-in_err-form_no c = let p = err_from_is_err_and c.from_residual.result c.from_residual.ensures.1 in rw (p.1, p.2) (formed_not _ _ _ c.in_err-form_no.ensures)

pub returns-then-found-count_of : goal.returns-then-found-count_of
returns-then-found-count_of c = counted_not _ _ (unless_ok _ tt tt c.in_ok-form_no.ensures).0 _ c.mark_of.ensures _ c.body_of.ensures.holds _ c.places_of-found.ensures (λ h. c.if-found-count_of.true (h ∙ sym c.count_of.ensures))

pub returns : goal.returns
returns c = counted_so _ _ (unless_ok _ tt tt c.in_ok-form_no.ensures).0 _ c.mark_of.ensures _ c.body_of.ensures.holds _ c.places_of-found.ensures (c.if-found-count_of.false ∙ c.count_of.ensures)
