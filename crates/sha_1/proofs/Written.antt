-- Words written one behind the other: the digest, and the padding.
-- Assumes nothing.
use Rattle.std.proofs.Common.{◌≡◌, ℕ, ◌+◌, ◌-◌, ◌*◌, ◌/◌, ◌%◌, ◌^◌, List, ◌∷◌, take, replicate, ap, ◌∙◌, arith}
use Rattle.put.specs.Put.{Puts}
use Rattle.put.proofs.Pieces.{put_of}
use Rattle.hashing.proofs.Written.{word_more, padding_written}
use Rattle.sha_1.specs.declared.Words.{Words}
use Rattle.sha_1.specs.Sha1.{bytes4, zeros, padding, joined}

-- ---- the digest

pub digest_of : (v : Words) {o₁ o₂ o₃ o₄ o₅ : List ℕ} {r₁ r₂ r₃ r₄ r₅ : ℕ} → Puts (replicate 20 0) 0 (bytes4 v.a) o₁ r₁
    → Puts o₁ r₁ (bytes4 v.b) o₂ r₂ → Puts o₂ r₂ (bytes4 v.c) o₃ r₃ → Puts o₃ r₃ (bytes4 v.d) o₄ r₄
    → Puts o₄ r₄ (bytes4 v.e) o₅ r₅ → o₅ ≡ joined v
unfolding joined
digest_of v a b c d e =
    let p₁ = put_of (omega arith) a in
    let p₂ = word_more p₁ (omega arith) b in
    let p₃ = word_more p₂ (omega arith) c in
    let p₄ = word_more p₃ (omega arith) d in
    let p₅ = word_more p₄ (omega arith) e in
    p₅.written

-- ---- the padding

high_bits : (n : ℕ) → n / 2 ^ 29 % 2 ^ 32 ≡ 8 * n / 2 ^ 32 % 2 ^ 32
high_bits n = omega arith

low_bits : (n : ℕ) → (n * 2 ^ 3) % 2 ^ 64 % 2 ^ 32 ≡ 8 * n % 2 ^ 32
low_bits n = omega arith

-- as it is written
pub padding_of : (n : ℕ) {p q : List ℕ} {r s k : ℕ} → k ≡ zeros n + 1 → Puts (0x80 ∷ replicate 71 0) k (bytes4 (n / 2 ^ 29 % 2 ^ 32)) p r
    → Puts p r (bytes4 ((n * 2 ^ 3) % 2 ^ 64 % 2 ^ 32)) q s → take (zeros n + 9) q ≡ padding n
unfolding padding
padding_of n e a b = padding_written (zeros n) 71 (bytes4 (n / 2 ^ 29 % 2 ^ 32)) (bytes4 ((n * 2 ^ 3) % 2 ^ 64 % 2 ^ 32)) (omega arith) e a b ∙ rw (high_bits n, low_bits n)

-- the count modulo 2 to the 64th is enough for it
pub padding_count : (n : ℕ) → padding (n % 2 ^ 64) ≡ padding n
unfolding padding
padding_count n = rw (zeros_cut n, high_cut n, low_cut n)
  where
    zeros_cut : (n : ℕ) → zeros (n % 2 ^ 64) ≡ zeros n
    zeros_cut n = ap (λ (j : ℕ). (119 - j) % 64) (let e : n % 2 ^ 64 % 64 ≡ n % 64 = omega arith in e)

    high_cut : (n : ℕ) → 8 * (n % 2 ^ 64) / 2 ^ 32 % 2 ^ 32 ≡ 8 * n / 2 ^ 32 % 2 ^ 32
    high_cut n = omega arith

    low_cut : (n : ℕ) → 8 * (n % 2 ^ 64) % 2 ^ 32 ≡ 8 * n % 2 ^ 32
    low_cut n = omega arith
