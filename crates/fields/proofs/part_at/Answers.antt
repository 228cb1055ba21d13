-- `fields::part_at` meets its contract.
-- Assumes nothing.
use Prim.Native.Nat.{ℕ, ◌+◌, ◌-◌}
use mathlib.Core.Path.{◌≡◌, refl, ap}
use native.Mathlib.Omega.{arith}
use lib.ListN.{take, drop}
use Rattle.fields.proofs.part_at.Goals as goal

pub returns : goal.returns
returns c = let a = c.args in let e : a.place.start + a.place.len - a.place.start ≡ a.place.len = omega arith in record { its_part = record { stands = refl; holds = ap (λ (n : ℕ). take n (drop a.place.start a.s.now)) e }; its_no = refl; its_field = refl }
