-- The last byte, as the library reads it.
-- Assumes nothing.
use Prim.Native.Nat.{ℕ, suc, ◌-◌}
use mathlib.Core.Path.{◌≡◌, refl, ap, ◌∙◌}
use mathlib.Core.List.{[], ◌∷◌}
use native.Mathlib.Omega.{arith}
use lib.ListN.{length}
use lib.Dec.{eqb}
use Rattle.text.specs.Text.{Bytes}
use denote.Ref.{Bor}
use Rattle.std.proofs.Common.{Option as Maybe, Some, None}
use Rattle.std.specs.Option.{option_eq, option_copied}
use Rattle.std.specs.List.{slice_get}
use Rattle.format.specs.Read.{last_or, ends_in}

last_there : (c : ℕ) (s : Bytes) → slice_get (c ∷ s) (length s) ≡ Some (last_or c s)
last_there c [] = refl
last_there c (d ∷ s) = last_there d s

-- as the library compares it
ends_copied : (m : ℕ) (s : Bytes) → option_eq eqb (slice_get s (length s - 1)) (Some m) ≡ ends_in m s
ends_copied m [] = refl
ends_copied m (c ∷ s) = let e : suc (length s) - 1 ≡ length s = omega arith in rw (e, last_there c s)

pub ends_last : (s : Bytes) (o : Maybe (Bor ℕ)) (r : Bor ℕ) → option_copied o ≡ slice_get s (length s - 1)
    → option_eq (λ (x y : Bor ℕ). eqb x.now y.now) o (Some r) ≡ ends_in r.now s
ends_last s o r e = through o ∙ ap (λ (c : Maybe ℕ). option_eq eqb c (Some r.now)) e ∙ ends_copied r.now s
  where
    through : (o : Maybe (Bor ℕ)) → option_eq (λ (x y : Bor ℕ). eqb x.now y.now) o (Some r) ≡ option_eq eqb (option_copied o) (Some r.now)
    through None = refl
    through (Some x) = refl
