-- Words written one behind the other: the digest, and the padding.
-- Assumes nothing.
use Rattle.std.proofs.Common.{◌≡◌, ℕ, ◌+◌, ◌-◌, ◌*◌, ◌/◌, ◌%◌, ◌^◌, ◌<◌, List, [], ◌∷◌, ◌++◌, take, replicate, sym, ap, ◌∙◌, arith}
use Rattle.put.specs.Put.{Puts}
use Rattle.put.proofs.Pieces.{put_of}
use Rattle.hashing.proofs.Written.{word_more, padding_written}
use Rattle.sha384.specs.declared.Words.{Words}
use Rattle.sha384.specs.Sha384.{bytes8, zeros, padding, left384}

-- ---- the digest

pub digest_of : (v : Words) {o₁ o₂ o₃ o₄ o₅ o₆ : List ℕ} {r₁ r₂ r₃ r₄ r₅ r₆ : ℕ} → Puts (replicate 48 0) 0 (bytes8 v.a) o₁ r₁
    → Puts o₁ r₁ (bytes8 v.b) o₂ r₂ → Puts o₂ r₂ (bytes8 v.c) o₃ r₃ → Puts o₃ r₃ (bytes8 v.d) o₄ r₄
    → Puts o₄ r₄ (bytes8 v.e) o₅ r₅ → Puts o₅ r₅ (bytes8 v.f) o₆ r₆ → o₆ ≡ left384 v
unfolding left384
digest_of v a b c d e f =
    let p₁ = put_of (omega arith) a in
    let p₂ = word_more p₁ (omega arith) b in
    let p₃ = word_more p₂ (omega arith) c in
    let p₄ = word_more p₃ (omega arith) d in
    let p₅ = word_more p₄ (omega arith) e in
    let p₆ = word_more p₅ (omega arith) f in
    p₆.written

-- ---- the length in bits, of a count in two words

high_bits : (h l : ℕ) → l < 2 ^ 64 → (h * 2 ^ 3) % 2 ^ 64 + l / 2 ^ 61 ≡ 8 * (h * 2 ^ 64 + l) / 2 ^ 64 % 2 ^ 64
high_bits h l b = sym (ap (λ (j : ℕ). j % 2 ^ 64) (top h l) ∙ under h (l / 2 ^ 61) (omega arith))
  where
    top : (h l : ℕ) → 8 * (h * 2 ^ 64 + l) / 2 ^ 64 ≡ 8 * h + l / 2 ^ 61
    top h l = omega arith

    under : (h t : ℕ) → t < 8 → (8 * h + t) % 2 ^ 64 ≡ (h * 2 ^ 3) % 2 ^ 64 + t
    under h t b = omega arith

low_bits : (h l : ℕ) → (l * 2 ^ 3) % 2 ^ 64 ≡ 8 * (h * 2 ^ 64 + l) % 2 ^ 64
low_bits h l = omega arith

zeros_low : (h l : ℕ) → zeros l ≡ zeros (h * 2 ^ 64 + l)
zeros_low h l = ap (λ (j : ℕ). (239 - j) % 128) (low h l)
  where
    low : (h l : ℕ) → l % 128 ≡ (h * 2 ^ 64 + l) % 128
    low h l = omega arith

pub high_fits : (h l : ℕ) → l < 2 ^ 64 → (h * 2 ^ 3) % 2 ^ 64 + l / 2 ^ 61 < 2 ^ 64
high_fits h l b = omega arith

-- ---- the padding

-- by the two words of the count
pub padding_by : (h l : ℕ) → l < 2 ^ 64
    → padding (h * 2 ^ 64 + l) ≡ 0x80 ∷ [] ++ replicate (zeros l) 0 ++ bytes8 ((h * 2 ^ 3) % 2 ^ 64 + l / 2 ^ 61) ++ bytes8 ((l * 2 ^ 3) % 2 ^ 64)
unfolding padding
padding_by h l b = rw (zeros_low h l, high_bits h l b, low_bits h l)

-- as it is written
pub padding_of : (h l : ℕ) {p q : List ℕ} {r s k : ℕ} → l < 2 ^ 64 → k ≡ zeros l + 1 → Puts (0x80 ∷ replicate 143 0) k (bytes8 ((h * 2 ^ 3) % 2 ^ 64 + l / 2 ^ 61)) p r
    → Puts p r (bytes8 ((l * 2 ^ 3) % 2 ^ 64)) q s → take (zeros l + 17) q ≡ padding (h * 2 ^ 64 + l)
padding_of h l b e a c =
    padding_written (zeros l) 143 (bytes8 ((h * 2 ^ 3) % 2 ^ 64 + l / 2 ^ 61)) (bytes8 ((l * 2 ^ 3) % 2 ^ 64)) (omega arith) e a c
    ∙ sym (padding_by h l b)
