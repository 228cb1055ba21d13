-- A list whose front was lent is as long afterwards as it was before.
-- Assumes nothing.
use Prim.Native.Nat.{ℕ, ◌≤◌}
use mathlib.Core.Path.{◌≡◌, sym}
use mathlib.Core.List.{List, ◌++◌}
use native.Mathlib.Omega.{arith}
use lib.ListN.{length, take, drop, length-append, length-drop}
use lib.Seq.{length-take-le}

-- the front of n, where there are so many
pub front : (n m : ℕ) (z : List ℕ) → m ≡ length z → n ≤ m → n ≡ length (take n z)
front n m z all fits = sym (length-take-le n z (omega (arith, all, fits)))

-- p stands where that front stood
pub again : (n m : ℕ) (z p : List ℕ) → m ≡ length z → n ≤ m → length p ≡ length (take n z) → m ≡ length (p ++ drop n z)
again n m z p all fits kept = omega (arith, all, fits, kept, front n m z all fits, length-append p (drop n z), length-drop n z)
