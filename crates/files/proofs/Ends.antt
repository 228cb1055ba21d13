-- The first mark at or after a place of s: at the place itself, or behind it.
-- Assumes nothing.
use Prim.Native.Nat.{ℕ, ◌+◌, ◌<◌}
use mathlib.Core.Path.{◌≡◌}
use native.Mathlib.Omega.{arith}
use native.Mathlib.Numerals.{add-one}
use native.Mathlib.Nat.{add-zero}
use lib.ListN.{length, get_or}
use lib.Seq.{drop-cons}
use borrow.Author.Tests.{eq-eqb, ne_eqb}
use Rattle.text.specs.Text.{Bytes}
use Rattle.frame.specs.Frame.{next_mark}

module _ (m : ℕ) (s : Bytes) (i : ℕ) where
  pub next_here : i < length s → get_or s i 0 ≡ m → next_mark m s i ≡ i
  unfolding next_mark
  next_here h e = rw (drop-cons s i 0 h, eq-eqb (get_or s i 0) m e, add-zero)

  pub next_on : i < length s → (get_or s i 0 ≡ m → ⊥) → next_mark m s (i + 1) ≡ next_mark m s i
  unfolding next_mark
  next_on h n = rw (drop-cons s i 0 h, ne_eqb (get_or s i 0) m n, add-one) (omega arith)
