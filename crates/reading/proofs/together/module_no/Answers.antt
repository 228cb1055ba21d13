-- `reading::together::module_no` meets its contract.
-- Assumes nothing.
use mathlib.Core.Path.{sym, ap, ◌∙◌}
use mathlib.Core.Bool.{true, false}
use Rattle.reading.specs.Steps.{unless}
use Rattle.reading.proofs.Whole.{signed_so, unsigned_so}
use Rattle.reading.proofs.together.module_no.Goals as goal
use Rattle.reading.proofs.together.module_no.Goals.{else-is_empty-via-then-is_empty+else-is_called, else-is_empty-via-else-is_empty}

pub returns-then-is_called : goal.returns-then-is_called
returns-then-is_called c =
    c.unsigned_no.ensures
    ∙ ap (λ n. unless n tt) (unsigned_so _ _ _ _ c.title_of.ensures.holds true (sym c.is_called.ensures ∙ c.if-is_called.true) (sym c.is_empty.ensures ∙ c.if-is_empty.true))

pub returns : goal.returns
returns c =
    ap (λ n. unless n tt)
    (elim c.else-is_empty.branch [
      | else-is_empty-via-then-is_empty+else-is_called w ↦ unsigned_so _ _ _ _ w.title_of.ensures.holds false (sym w.is_called.ensures ∙ w.if-is_called.false) (sym c.is_empty.ensures ∙ w.if-is_empty.true)
      | else-is_empty-via-else-is_empty w ↦ signed_so _ _ _ (sym c.is_empty.ensures ∙ w.if-is_empty.false)
    ])
