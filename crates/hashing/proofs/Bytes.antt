-- Words and their bytes.
-- Assumes nothing.
use Prim.Native.Nat.{ℕ, zero, suc, ◌+◌, ◌*◌, ◌%◌, ◌^◌, ◌≤◌, ◌<◌}
use mathlib.Core.Path.{◌≡◌, ap, ◌∙◌}
use mathlib.Core.List.{List, [], ◌∷◌}
use native.Mathlib.Omega.{arith}
use native.Mathlib.Nat.{mod-eq_of_lt}
use lib.Bits.{bit_or, or_shifted}
use Rattle.text.proofs.Hexadecimal.{AreBytes}

-- words of so many values
module _ (values : ℕ) where
  -- a byte and the lower bits of a word, joined bit by bit
  pub or_put : (k b r : ℕ) → b * 2 ^ k < values → r < 2 ^ k → bit_or ((b * 2 ^ k) % values) r ≡ b * 2 ^ k + r
  or_put k b r h l = ap (λ (x : ℕ). bit_or x r) (mod-eq_of_lt h) ∙ or_shifted b k r l

  -- the lower four bytes of a word, joined bit by bit, are their sum
  pub low_word : (a b c d : ℕ) → 2 ^ 32 ≤ values → a < 256 → b < 256 → c < 256 → d < 256
      → bit_or ((a * 2 ^ 24) % values) (bit_or ((b * 2 ^ 16) % values) (bit_or ((c * 2 ^ 8) % values) d)) ≡ a * 2 ^ 24 + b * 2 ^ 16 + c * 2 ^ 8 + d
  low_word a b c d h la lb lc ld =
      rw (
        or_put 8 c d (omega arith) (omega arith),
        or_put 16 b (c * 2 ^ 8 + d) (omega arith) (omega arith),
        or_put 24 a (b * 2 ^ 16 + (c * 2 ^ 8 + d)) (omega arith) (omega arith),
      ) (omega arith)

-- the lowest bytes of these numbers, and other bytes behind them
abbrev pub lowest : List ℕ → List ℕ → List ℕ
lowest [] rest = rest
lowest (x ∷ xs) rest = x % 256 ∷ lowest xs rest

pub bytes_more : (xs rest : List ℕ) → AreBytes rest → AreBytes (lowest xs rest)
bytes_more [] rest h k = h k
bytes_more (x ∷ xs) rest h zero = omega arith
bytes_more (x ∷ xs) rest h (suc k) = bytes_more xs rest h k
