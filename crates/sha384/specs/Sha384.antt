-- SHA-384: FIPS 180-4, section by section. A message, a block and a digest are lists of bytes, a word is a number below 2 to the 64th; of
-- the bytes of a word the highest comes first. Loops and blocks, which SHA-1 has too: crate `hashing`.
-- Assumes nothing.
use Rattle.std.specs.Prelude.{ℕ, ◌+◌, ◌-◌, ◌*◌, ◌/◌, ◌%◌, ◌^◌, List, [], ◌∷◌, ◌++◌, length, replicate, bit_and, bit_or, bit_xor, slice_index}
use Rattle.hashing.specs.Turns.{turns, grown}
use Rattle.hashing.specs.Blocks
use Rattle.sha384.specs.declared.Words.{Words}

-- ---- 3.2 operations on 64-bit words

-- addition modulo 2 to the 64th
abbrev pub plus : ℕ → ℕ → ℕ
plus x y = (x + y) % 2 ^ 64

-- SHR: the right shift by n
abbrev pub shr : ℕ → ℕ → ℕ
shr n x = x / 2 ^ n

-- the left shift by n: bits past the 64th are dropped
abbrev pub shl : ℕ → ℕ → ℕ
shl n x = (x * 2 ^ n) % 2 ^ 64

-- ROTR: (x >> n) ∨ (x << 64 − n)
abbrev pub rotr : ℕ → ℕ → ℕ
rotr n x = bit_or (shr n x) (shl (64 - n) x)

-- the bitwise complement
abbrev pub not64 : ℕ → ℕ
not64 x = 2 ^ 64 - 1 - x

-- ---- 4.1.3 functions

abbrev pub Ch : ℕ → ℕ → ℕ → ℕ
Ch x y z = bit_xor (bit_and x y) (bit_and (not64 x) z)

abbrev pub Maj : ℕ → ℕ → ℕ → ℕ
Maj x y z = bit_xor (bit_xor (bit_and x y) (bit_and x z)) (bit_and y z)

abbrev pub Σ₀ : ℕ → ℕ
Σ₀ x = bit_xor (bit_xor (rotr 28 x) (rotr 34 x)) (rotr 39 x)

abbrev pub Σ₁ : ℕ → ℕ
Σ₁ x = bit_xor (bit_xor (rotr 14 x) (rotr 18 x)) (rotr 41 x)

abbrev pub σ₀ : ℕ → ℕ
σ₀ x = bit_xor (bit_xor (rotr 1 x) (rotr 8 x)) (shr 7 x)

abbrev pub σ₁ : ℕ → ℕ
σ₁ x = bit_xor (bit_xor (rotr 19 x) (rotr 61 x)) (shr 6 x)

-- ---- 4.2.3 constants

unfoldable pub K : List ℕ
K =
    0x428a2f98d728ae22 ∷ 0x7137449123ef65cd ∷ 0xb5c0fbcfec4d3b2f ∷ 0xe9b5dba58189dbbc ∷
    0x3956c25bf348b538 ∷ 0x59f111f1b605d019 ∷ 0x923f82a4af194f9b ∷ 0xab1c5ed5da6d8118 ∷
    0xd807aa98a3030242 ∷ 0x12835b0145706fbe ∷ 0x243185be4ee4b28c ∷ 0x550c7dc3d5ffb4e2 ∷
    0x72be5d74f27b896f ∷ 0x80deb1fe3b1696b1 ∷ 0x9bdc06a725c71235 ∷ 0xc19bf174cf692694 ∷
    0xe49b69c19ef14ad2 ∷ 0xefbe4786384f25e3 ∷ 0x0fc19dc68b8cd5b5 ∷ 0x240ca1cc77ac9c65 ∷
    0x2de92c6f592b0275 ∷ 0x4a7484aa6ea6e483 ∷ 0x5cb0a9dcbd41fbd4 ∷ 0x76f988da831153b5 ∷
    0x983e5152ee66dfab ∷ 0xa831c66d2db43210 ∷ 0xb00327c898fb213f ∷ 0xbf597fc7beef0ee4 ∷
    0xc6e00bf33da88fc2 ∷ 0xd5a79147930aa725 ∷ 0x06ca6351e003826f ∷ 0x142929670a0e6e70 ∷
    0x27b70a8546d22ffc ∷ 0x2e1b21385c26c926 ∷ 0x4d2c6dfc5ac42aed ∷ 0x53380d139d95b3df ∷
    0x650a73548baf63de ∷ 0x766a0abb3c77b2a8 ∷ 0x81c2c92e47edaee6 ∷ 0x92722c851482353b ∷
    0xa2bfe8a14cf10364 ∷ 0xa81a664bbc423001 ∷ 0xc24b8b70d0f89791 ∷ 0xc76c51a30654be30 ∷
    0xd192e819d6ef5218 ∷ 0xd69906245565a910 ∷ 0xf40e35855771202a ∷ 0x106aa07032bbd1b8 ∷
    0x19a4c116b8d2d0c8 ∷ 0x1e376c085141ab53 ∷ 0x2748774cdf8eeb99 ∷ 0x34b0bcb5e19b48a8 ∷
    0x391c0cb3c5c95a63 ∷ 0x4ed8aa4ae3418acb ∷ 0x5b9cca4f7763e373 ∷ 0x682e6ff3d6b2b8a3 ∷
    0x748f82ee5defb2fc ∷ 0x78a5636f43172f60 ∷ 0x84c87814a1f0ab72 ∷ 0x8cc702081a6439ec ∷
    0x90befffa23631e28 ∷ 0xa4506cebde82bde9 ∷ 0xbef9a3f7b2c67915 ∷ 0xc67178f2e372532b ∷
    0xca273eceea26619c ∷ 0xd186b8c721c0c207 ∷ 0xeada7dd6cde0eb1e ∷ 0xf57d4f7fee6ed178 ∷
    0x06f067aa72176fba ∷ 0x0a637dc5a2c898a6 ∷ 0x113f9804bef90dae ∷ 0x1b710b35131c471b ∷
    0x28db77f523047d84 ∷ 0x32caab7b40c72493 ∷ 0x3c9ebe0a15c9bebc ∷ 0x431d67c49c100d4c ∷
    0x4cc5d4becb3e42b6 ∷ 0x597f299cfc657e2a ∷ 0x5fcb6fab3ad6faec ∷ 0x6c44198c4a475817 ∷ []

-- ---- 5.1.2 padding: the bit 1, then zeros up to 896 modulo 1024, then the length in bits as 128 bits

-- a 64-bit word as eight bytes
abbrev pub bytes8 : ℕ → List ℕ
bytes8 x =
    x / 2 ^ 56 % 256 ∷ x / 2 ^ 48 % 256 ∷ x / 2 ^ 40 % 256 ∷ x / 2 ^ 32 % 256 ∷
    x / 2 ^ 24 % 256 ∷ x / 2 ^ 16 % 256 ∷ x / 2 ^ 8 % 256 ∷ x % 256 ∷ []

-- how many bytes of zeros follow the byte 0x80 after a message of n bytes
abbrev pub zeros : ℕ → ℕ
zeros n = (239 - n % 128) % 128

-- what is appended to a message of n bytes; FIPS 180-4 has no messages of 2 to the 128th bits and more, whose lengths are cut here
unfoldable pub padding : ℕ → List ℕ
padding n = 0x80 ∷ [] ++ replicate (zeros n) 0 ++ bytes8 (8 * n / 2 ^ 64 % 2 ^ 64) ++ bytes8 (8 * n % 2 ^ 64)

unfoldable pub padded : List ℕ → List ℕ
padded m = m ++ padding (length m)

-- ---- 5.2.2 parsing: the i-th block of 1024 bits, from 0

abbrev pub block : List ℕ → ℕ → List ℕ
block = Blocks.block 128

-- ---- 5.3.4 the initial hash value

unfoldable pub H₀ : Words
H₀ =
    record {
      a = 0xcbbb9d5dc1059ed8;
      b = 0x629a292a367cd507;
      c = 0x9159015a3070dd17;
      d = 0x152fecd8f70e5939;
      e = 0x67332667ffc00b31;
      f = 0x8eb44a8768581511;
      g = 0xdb0c2e0d64f98fa7;
      h = 0x47b5481dbefa4fa4;
    }

-- ---- 6.4.2 the computation

-- the word at byte i of a block
unfoldable pub word : List ℕ → ℕ → ℕ
word m i =
    slice_index m i * 2 ^ 56 + slice_index m (i + 1) * 2 ^ 48 + slice_index m (i + 2) * 2 ^ 40 + slice_index m (i + 3) * 2 ^ 32
    + slice_index m (i + 4) * 2 ^ 24 + slice_index m (i + 5) * 2 ^ 16 + slice_index m (i + 6) * 2 ^ 8 + slice_index m (i + 7)

-- the first t words of a block
unfoldable pub words : List ℕ → ℕ → List ℕ
words m = grown (λ w t. word m (8 * t)) []

-- the word after the words w of a schedule: σ₁(W t−2) + W t−7 + σ₀(W t−15) + W t−16, where t is 16 + n
abbrev pub next : List ℕ → ℕ → ℕ
next w n = plus (plus (plus (σ₁ (slice_index w (n + 14))) (slice_index w (n + 9))) (σ₀ (slice_index w (n + 1)))) (slice_index w n)

-- the first 16 + n words of the message schedule of a block
unfoldable pub schedule : List ℕ → ℕ → List ℕ
schedule m = grown next (words m 16)

abbrev pub T₁ : Words → ℕ → ℕ → ℕ
T₁ v k w = plus (plus (plus (plus v.h (Σ₁ v.e)) (Ch v.e v.f v.g)) k) w

abbrev pub T₂ : Words → ℕ
T₂ v = plus (Σ₀ v.a) (Maj v.a v.b v.c)

-- one round
abbrev pub round : Words → ℕ → ℕ → Words
round v k w =
    record {
      a = plus (T₁ v k w) (T₂ v);
      b = v.a;
      c = v.b;
      d = v.c;
      e = plus v.d (T₁ v k w);
      f = v.e;
      g = v.f;
      h = v.g;
    }

-- the first t rounds, with the constants k and the schedule w
unfoldable pub rounds : List ℕ → List ℕ → Words → ℕ → Words
rounds k w = turns (λ v t. round v (slice_index k t) (slice_index w t))

-- word by word
abbrev pub sums : Words → Words → Words
sums v u =
    record {
      a = plus v.a u.a;
      b = plus v.b u.b;
      c = plus v.c u.c;
      d = plus v.d u.d;
      e = plus v.e u.e;
      f = plus v.f u.f;
      g = plus v.g u.g;
      h = plus v.h u.h;
    }

-- the hash value after a block m, from the hash value v before it
unfoldable pub compress : Words → List ℕ → Words
compress v m = sums (rounds K (schedule m 64) v 80) v

-- the hash value after the first i blocks of m, from the hash value v before them
abbrev pub hashed : Words → List ℕ → ℕ → Words
hashed = Blocks.hashed 128 compress

-- the leftmost 384 bits
unfoldable pub left384 : Words → List ℕ
left384 v = bytes8 v.a ++ bytes8 v.b ++ bytes8 v.c ++ bytes8 v.d ++ bytes8 v.e ++ bytes8 v.f

-- from the initial hash value over all N blocks of the padded message
unfoldable pub sha384 : List ℕ → List ℕ
sha384 m = left384 (hashed H₀ (padded m) (length (padded m) / 128))
