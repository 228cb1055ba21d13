-- `text::date::year_of` meets its contract.
-- Assumes nothing.
use Prim.Native.Nat.{ℕ, ◌+◌, ◌*◌}
use mathlib.Core.Path.{sym, ap₂, ◌∙◌}
use native.Mathlib.Omega.{arith}
use Rattle.text.proofs.Loops.{year_twice}
use Rattle.text.proofs.date.year_of.Goals as goal

pub returns : goal.returns
returns c =
    ap₂ (λ (x y : ℕ). 100 * x + y) c.two.ensures.0 c.two-2.ensures.0
    ∙ sym (year_twice c.args.s.now (omega arith))
