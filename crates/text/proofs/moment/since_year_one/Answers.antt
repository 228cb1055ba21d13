-- `text::moment::since_year_one` meets its contract.
-- Assumes nothing.
use Prim.Native.Nat.{ℕ}
use mathlib.Core.Path.{◌≡◌, refl, ap, ap₂, ◌∙◌}
use native.Mathlib.Omega.{arith}
use Rattle.text.specs.Calendar.{days_before}
use Rattle.text.specs.Text.{year, month, day}
use Rattle.text.specs.Seconds.{since_year_one}
use Rattle.text.proofs.Counting.{month_most}
use Rattle.text.proofs.Seconds.{parts}
use Rattle.text.proofs.moment.since_year_one.Goals as goal

pub days_before-days-requires : goal.days_before-days-requires
days_before-days-requires c =
    let s = c.args.s.now in
    let p = parts s c.requires in
    let d = p.date in
    rw (c.year_of.ensures, c.two.ensures.0, c.two-2.ensures.0)
    (d.year_from, p.year_to, d.month_from, d.month_to, d.day_from, omega (arith, d.day_to, month_most (year s) (month s)))

pub returns : goal.returns
unfolding since_year_one
returns c =
    let s = c.args.s.now in
    let p = parts s c.requires in
    let e : c.days_before-days.result ≡ days_before (year s) (month s) (day s) =
    c.days_before-days.ensures.0
    ∙ ap (λ (y : ℕ). days_before y c.two.result c.two-2.result) c.year_of.ensures
    ∙ ap₂ (days_before (year s)) c.two.ensures.0 c.two-2.ensures.0 in
    rw (e, c.two-hours.ensures.0, c.two-minutes.ensures.0, c.two-3.ensures.0) (refl, omega arith)
