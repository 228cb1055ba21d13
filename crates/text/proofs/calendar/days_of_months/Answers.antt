-- `text::calendar::days_of_months` meets its contract.
-- Assumes nothing.
use mathlib.Core.Path.{sym, ◌∙◌}
use native.Mathlib.Omega.{arith}
use borrow.Author.Tests.{lt-ltb, le-ltb}
use Rattle.text.proofs.Counting.{months-closed}
use Rattle.text.proofs.calendar.days_of_months.Goals as goal

pub returns-then-n-lt2 : goal.returns-then-n-lt2
returns-then-n-lt2 c =
    let a = c.args in
    (sym (months-closed a.year a.n c.requires ∙ rw (lt-ltb a.n 2 c.if-n-lt2.true)), omega arith)

pub returns-then-is_leap : goal.returns-then-is_leap
returns-then-is_leap c =
    let a = c.args in
    (sym (months-closed a.year a.n c.requires ∙ rw (le-ltb a.n 2 c.if-n-lt2.false, ← c.is_leap.ensures, c.if-is_leap.true)), omega arith)

pub returns-else-is_leap : goal.returns-else-is_leap
returns-else-is_leap c =
    let a = c.args in
    (sym (months-closed a.year a.n c.requires ∙ rw (le-ltb a.n 2 c.if-n-lt2.false, ← c.is_leap.ensures, c.if-is_leap.false)), omega arith)
