-- SHA-1: FIPS 180-4, section by section. A message, a block and a digest are lists of bytes, a word is a number below 2 to the 32nd; of
-- the bytes of a word the highest comes first. Loops and blocks, which SHA-384 has too: crate `hashing`.
-- Assumes nothing.
use Rattle.std.specs.Prelude.{ℕ, ◌+◌, ◌-◌, ◌*◌, ◌/◌, ◌%◌, ◌^◌, cond, List, [], ◌∷◌, ◌++◌, length, replicate, bit_and, bit_or, bit_xor, nat_lt, slice_index}
use Rattle.hashing.specs.Turns.{turns, grown}
use Rattle.hashing.specs.Blocks
use Rattle.sha_1.specs.declared.Words.{Words}

-- ---- 3.2 operations on 32-bit words

-- addition modulo 2 to the 32nd
abbrev pub plus : ℕ → ℕ → ℕ
plus x y = (x + y) % 2 ^ 32

-- the right shift by n
abbrev pub shr : ℕ → ℕ → ℕ
shr n x = x / 2 ^ n

-- the left shift by n: bits past the 32nd are dropped
abbrev pub shl : ℕ → ℕ → ℕ
shl n x = (x * 2 ^ n) % 2 ^ 32

-- ROTL: (x << n) ∨ (x >> 32 − n)
abbrev pub rotl : ℕ → ℕ → ℕ
rotl n x = bit_or (shl n x) (shr (32 - n) x)

-- the bitwise complement
abbrev pub not32 : ℕ → ℕ
not32 x = 2 ^ 32 - 1 - x

-- ---- 4.1.1 functions

abbrev pub Ch : ℕ → ℕ → ℕ → ℕ
Ch x y z = bit_xor (bit_and x y) (bit_and (not32 x) z)

abbrev pub Parity : ℕ → ℕ → ℕ → ℕ
Parity x y z = bit_xor (bit_xor x y) z

abbrev pub Maj : ℕ → ℕ → ℕ → ℕ
Maj x y z = bit_xor (bit_xor (bit_and x y) (bit_and x z)) (bit_and y z)

-- the first of these in rounds 0 to 19, the second in 20 to 39, the third in 40 to 59, the fourth in 60 to 79
unfoldable pub by_twenty : ℕ → ℕ → ℕ → ℕ → ℕ → ℕ
by_twenty t a b c d = cond (nat_lt t 20) a (cond (nat_lt t 40) b (cond (nat_lt t 60) c d))

-- the function of round t
abbrev pub f : ℕ → ℕ → ℕ → ℕ → ℕ
f t x y z = by_twenty t (Ch x y z) (Parity x y z) (Maj x y z) (Parity x y z)

-- ---- 4.2.1 constants: that of round t

abbrev pub K : ℕ → ℕ
K t = by_twenty t 0x5a827999 0x6ed9eba1 0x8f1bbcdc 0xca62c1d6

-- ---- 5.1.1 padding: the bit 1, then zeros up to 448 modulo 512, then the length in bits as 64 bits, which are two words

-- a 32-bit word as four bytes
abbrev pub bytes4 : ℕ → List ℕ
bytes4 x = x / 2 ^ 24 % 256 ∷ x / 2 ^ 16 % 256 ∷ x / 2 ^ 8 % 256 ∷ x % 256 ∷ []

-- how many bytes of zeros follow the byte 0x80 after a message of n bytes
abbrev pub zeros : ℕ → ℕ
zeros n = (119 - n % 64) % 64

-- what is appended to a message of n bytes; FIPS 180-4 has no messages of 2 to the 64th bits and more, whose lengths are cut here
unfoldable pub padding : ℕ → List ℕ
padding n = 0x80 ∷ [] ++ replicate (zeros n) 0 ++ bytes4 (8 * n / 2 ^ 32 % 2 ^ 32) ++ bytes4 (8 * n % 2 ^ 32)

unfoldable pub padded : List ℕ → List ℕ
padded m = m ++ padding (length m)

-- ---- 5.2.1 parsing: the i-th block of 512 bits, from 0

abbrev pub block : List ℕ → ℕ → List ℕ
block = Blocks.block 64

-- ---- 5.3.1 the initial hash value

unfoldable pub H₀ : Words
H₀ = record { a = 0x67452301; b = 0xefcdab89; c = 0x98badcfe; d = 0x10325476; e = 0xc3d2e1f0 }

-- ---- 6.1.2 the computation

-- the word at byte i of a block
unfoldable pub word : List ℕ → ℕ → ℕ
word m i = slice_index m i * 2 ^ 24 + slice_index m (i + 1) * 2 ^ 16 + slice_index m (i + 2) * 2 ^ 8 + slice_index m (i + 3)

-- the first t words of a block
unfoldable pub words : List ℕ → ℕ → List ℕ
words m = grown (λ w t. word m (4 * t)) []

-- the word after the words w of a schedule: ROTL¹(W t−3 ⊕ W t−8 ⊕ W t−14 ⊕ W t−16), where t is 16 + n
abbrev pub next : List ℕ → ℕ → ℕ
next w n = rotl 1 (bit_xor (bit_xor (bit_xor (slice_index w (n + 13)) (slice_index w (n + 8))) (slice_index w (n + 2))) (slice_index w n))

-- the first 16 + n words of the message schedule of a block
unfoldable pub schedule : List ℕ → ℕ → List ℕ
schedule m = grown next (words m 16)

abbrev pub T : Words → ℕ → ℕ → ℕ
T v t w = plus (plus (plus (plus (rotl 5 v.a) (f t v.b v.c v.d)) v.e) (K t)) w

-- round t
abbrev pub round : Words → ℕ → ℕ → Words
round v t w = record { a = T v t w; b = v.a; c = rotl 30 v.b; d = v.c; e = v.d }

-- the first t rounds, with the schedule w
unfoldable pub rounds : List ℕ → Words → ℕ → Words
rounds w = turns (λ v t. round v t (slice_index w t))

-- word by word
abbrev pub sums : Words → Words → Words
sums v u =
    record {
      a = plus v.a u.a;
      b = plus v.b u.b;
      c = plus v.c u.c;
      d = plus v.d u.d;
      e = plus v.e u.e;
    }

-- the hash value after a block m, from the hash value v before it
unfoldable pub compress : Words → List ℕ → Words
compress v m = sums (rounds (schedule m 64) v 80) v

-- the hash value after the first i blocks of m, from the hash value v before them
abbrev pub hashed : Words → List ℕ → ℕ → Words
hashed = Blocks.hashed 64 compress

-- the five words, 160 bits
unfoldable pub joined : Words → List ℕ
joined v = bytes4 v.a ++ bytes4 v.b ++ bytes4 v.c ++ bytes4 v.d ++ bytes4 v.e

-- from the initial hash value over all N blocks of the padded message
unfoldable pub sha1 : List ℕ → List ℕ
sha1 m = joined (hashed H₀ (padded m) (length (padded m) / 64))
