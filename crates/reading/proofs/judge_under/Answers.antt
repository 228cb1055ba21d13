-- `reading::judge_under` meets its contract.
-- Assumes nothing.
use mathlib.Core.Path.{refl, sym, ap, ◌∙◌}
use native.Mathlib.Omega.{arith}
use Prim.Native.Nat.{◌<◌}
use Rattle.table.specs.Table.{row_count}
use Rattle.std.proofs.lemmas.Result.{err_from_is_err_and}
use Rattle.reading.specs.Steps.{kinds_or}
use Rattle.reading.proofs.Outcomes.{unless_ok, unless_err}
use Rattle.reading.proofs.Whole.{judged_none, judged_field, judged_whole, judged_all, kinds_said}
use Rattle.reading.proofs.judge_under.Goals as goal

pub returns-then-row-ge-ROWS : goal.returns-then-row-ge-ROWS
returns-then-row-ge-ROWS c = rw c.from.ensures (sym (ap kinds_or (judged_none _ _ _ c.if-row-ge-ROWS.true)))

pub returns-in_err-kinds : goal.returns-in_err-kinds
returns-in_err-kinds c =
    let p = err_from_is_err_and c.from_residual.result c.from_residual.ensures.1 in
    rw (p.1, p.2) (sym (ap kinds_or (judged_field _ _ _ (omega (arith, c.if-row-ge-ROWS.false)) c.in_err-kinds.ensures)))

pub returns-in-Ok : goal.returns-in-Ok
returns-in-Ok c =
    let h : c.args.row < row_count = omega (arith, c.if-row-ge-ROWS.false) in
    let k = kinds_said _ _ h _ c.in_ok-kinds.ensures.all_kinds in
    rw k (sym (ap kinds_or (judged_all _ _ _ h c.in_ok-kinds.ensures.pass (sym (unless_ok _ tt tt c.in-Ok.ensures).0) refl)))

pub returns-in-Err : goal.returns-in-Err
returns-in-Err c =
    let u = unless_err _ _ tt c.in-Err.ensures in
    rw c.from-in-Err.ensures (sym (ap kinds_or (judged_whole _ _ _ (omega (arith, c.if-row-ge-ROWS.false)) c.in_ok-kinds.ensures.pass u.0 (λ z. u.1 (sym u.0 ∙ z)))))
