-- `text::wrapped::is_octet` meets its contract.
-- Assumes nothing.
use Prim.Native.Nat.{ℕ}
use mathlib.Core.Path.{◌≡◌, sym, ap, ◌∙◌}
use mathlib.Core.Bool.{true}
use native.Mathlib.Omega.{arith}
use lib.Dec.{leb}
use lib.ListN.{length}
use Rattle.text.specs.Text.{Bytes, is_digits, is_octet}
use Rattle.text.proofs.Tests.{and_on, true_T}
use Rattle.text.proofs.Loops.{three_digits}
use Rattle.text.proofs.Types.{digits_length}
use Rattle.text.proofs.wrapped.is_octet.Goals as goal

three : (s : Bytes) → is_digits 3 s ≡ true → length s ≡ 3
three s e = digits_length 3 s (true_T _ e)

pub bounds-s-0 : goal.bounds-s-0
bounds-s-0 c = omega (arith, three c.args.s.now (sym c.is_digits.ensures ∙ c.if-is_digits.true))

pub bounds-s-1 : goal.bounds-s-1
bounds-s-1 c = omega (arith, three c.args.s.now (sym c.is_digits.ensures ∙ c.if-is_digits.true))

pub bounds-s-2 : goal.bounds-s-2
bounds-s-2 c = omega (arith, three c.args.s.now (sym c.is_digits.ensures ∙ c.if-is_digits.true))

pub returns-then-is_digits : goal.returns-then-is_digits
unfolding is_octet
returns-then-is_digits c =
    let e = sym c.is_digits.ensures ∙ c.if-is_digits.true in
    ap (λ (n : ℕ). leb n 255) (c.number_of.ensures ∙ sym (three_digits c.args.s.now (three c.args.s.now e)))
    ∙ sym (and_on _ _ e)
