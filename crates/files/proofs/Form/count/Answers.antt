-- `files::Form::count` meets its contract. The loop's invariant: the lines before the place are counted.
-- Assumes nothing.
use mathlib.Core.Path.{sym, ◌∙◌}
use native.Mathlib.Omega.{arith}
use Rattle.files.proofs.Counting.{never_zero, told, counted_none, counted_all, nearer, counted_accepted, counted_refused}
use Rattle.files.proofs.Form.count.Goals as goal
use Rattle.files.proofs.Form.count.Goals.{then-no-eq-ACCEPTED, else-no-eq-ACCEPTED}

pub loop-no-init : goal.loop-no-init
loop-no-init g c = counted_none g.Self.Form.call _

pub returns : goal.returns
returns g c = counted_all c.loop-no.invariant _ (sym c.in_default.is ∙ c.line_at.ensures)

pub overflow_add-accepted : goal.overflow_add-accepted
overflow_add-accepted g c = omega (arith, c.loop-no.invariant.few, c.loop-no.invariant.fewer, c.loop-no.invariant.inside)

pub loop-no-smaller : goal.loop-no-smaller
loop-no-smaller g c = nearer g.Self.Form.call (never_zero g.met.Self.Form.never_zero) _ _ _ _ _ _ _ _ (sym c.in-Read.is ∙ c.line_at.ensures)

pub loop-no-preserved : goal.loop-no-preserved
loop-no-preserved g c =
    -- the line that was read, its number and the next place
    let read = told g.Self.Form.call (never_zero g.met.Self.Form.never_zero) _ _ _ _ _ _ _ _ (sym c.in-Read.is ∙ c.line_at.ensures) in
    elim c.if-no-eq-ACCEPTED.branch [
      | then-no-eq-ACCEPTED w ↦ counted_accepted c.loop-no.invariant read w.if-no-eq-ACCEPTED.true w.accepted-is
      | else-no-eq-ACCEPTED w ↦ counted_refused c.loop-no.invariant read w.if-no-eq-ACCEPTED.false w.accepted-is
    ]
