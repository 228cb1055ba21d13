-- A word out of its bytes, joined bit by bit, is their sum.
-- Assumes nothing.
use Rattle.std.proofs.Common.{◌≡◌, ℕ, ◌+◌, ◌*◌, ◌%◌, ◌^◌, ◌<◌, arith}
use lib.Bits.{bit_or}
use Rattle.hashing.proofs.Bytes.{or_put, low_word}

pub word_of : (a b c d e f g h : ℕ) → a < 256 → b < 256 → c < 256 → d < 256 → e < 256 → f < 256 → g < 256 → h < 256
    → bit_or ((a * 2 ^ 56) % 2 ^ 64) (bit_or ((b * 2 ^ 48) % 2 ^ 64) (bit_or ((c * 2 ^ 40) % 2 ^ 64) (bit_or ((d * 2 ^ 32) % 2 ^ 64)
    (bit_or ((e * 2 ^ 24) % 2 ^ 64) (bit_or ((f * 2 ^ 16) % 2 ^ 64) (bit_or ((g * 2 ^ 8) % 2 ^ 64) h))))))
    ≡ a * 2 ^ 56 + b * 2 ^ 48 + c * 2 ^ 40 + d * 2 ^ 32 + e * 2 ^ 24 + f * 2 ^ 16 + g * 2 ^ 8 + h
word_of a b c d e f g h la lb lc ld le lf lg lh =
    let low = e * 2 ^ 24 + f * 2 ^ 16 + g * 2 ^ 8 + h in
    rw (
      low_word (2 ^ 64) e f g h (omega arith) le lf lg lh,
      or_put (2 ^ 64) 32 d low (omega arith) (omega arith),
      or_put (2 ^ 64) 40 c (d * 2 ^ 32 + low) (omega arith) (omega arith),
      or_put (2 ^ 64) 48 b (c * 2 ^ 40 + (d * 2 ^ 32 + low)) (omega arith) (omega arith),
      or_put (2 ^ 64) 56 a (b * 2 ^ 48 + (c * 2 ^ 40 + (d * 2 ^ 32 + low))) (omega arith) (omega arith),
    ) (omega arith)
