-- The exact sum of the lengths, by counting down from the total.
-- Assumes nothing.
use Prim.Native.Nat.{ℕ, ◌+◌, ◌-◌, ◌≤◌, ◌<◌}
use mathlib.Core.Path.{◌≡◌, sym, ap, ◌∙◌}
use mathlib.Core.Bool.{false}
use mathlib.Core.List.{List}
use native.Mathlib.Omega.{arith}
use lib.ListN.{length, drop, get_or, drop_of_length-le}
use lib.Dec.{eqb}
use mir.Facts.{eqb_yes, eqb_no}
use borrow.Author.Tests.{eq-eqb, ne_eqb}
use Rattle.text.proofs.Tests.{by_test, T_true, T_false}
use Rattle.building.specs.Building.{sum}
use Rattle.building.proofs.Pieces.{sum_step}

-- the lengths before j are counted off the total, and this is left of it
pub record Left (ns : List ℕ) (total j left : ℕ) : Type 0 where
  pub balance : sum ns + left ≡ total + sum (drop j ns)

pub left_all : (ns : List ℕ) (total : ℕ) → Left ns total 0 total
left_all ns total = record { balance = omega arith }

module _ {ns : List ℕ} {total j left : ℕ} (w : Left ns total j left) where
  pub left_short : j < length ns → left < get_or ns j 0 → false ≡ eqb (sum ns) total
  left_short h l = sym (ne_eqb (sum ns) total (λ e. omega (arith, w.balance, sum_step ns j h)))

  pub left_next : j < length ns → get_or ns j 0 ≤ left → Left ns total (j + 1) (left - get_or ns j 0)
  left_next h l = record { balance = omega (arith, w.balance, sum_step ns j h) }

  pub left_end : length ns ≤ j → eqb left 0 ≡ eqb (sum ns) total
  left_end h =
      let z = ap sum (drop_of_length-le ns {i = j} h) in
      by_test (eqb left 0)
      (λ t. T_true (eqb left 0) t ∙ sym (eq-eqb (sum ns) total (omega (arith, w.balance, eqb_yes {a = left} {b = 0} t))))
      (λ t. T_false (eqb left 0) t ∙ sym (ne_eqb (sum ns) total (λ e. eqb_no {a = left} {b = 0} t (omega (arith, w.balance)))))
