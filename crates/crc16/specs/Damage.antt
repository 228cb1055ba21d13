-- What the check tells apart: two lists of bytes of equal length and equal check, of which one is the other with a change
-- in a short stretch, are the same list (proofs/Burst.antt), and they differ neither in an odd number of bits nor in two (proofs/Flips.antt).
-- Assumes nothing.
use Rattle.std.specs.Prelude.{ℕ, zero, suc, ◌+◌, ◌*◌, ◌/◌, ◌%◌, ◌^◌, ◌≤◌, ◌<◌, ◌≡◌, ◌≢◌, List, [], ◌∷◌, ◌++◌, length, get_or, replicate}
use Rattle.std.specs.Int.Bits.{bit_xor}
use Rattle.crc16.specs.Crc.{crc_of}

-- every element is a byte
abbrev pub AreBytes : List ℕ → Type 0
AreBytes xs = (k : ℕ) → get_or xs k 0 < 256

-- two lists of bytes of equal length that the check does not tell apart
pub record SameCheck (xs ys : List ℕ) : Type 0 where
  pub bytes_x : AreBytes xs
  pub bytes_y : AreBytes ys
  pub long : length xs ≡ length ys
  pub check : crc_of xs ≡ crc_of ys

-- the lists differ at most at the two neighbouring places i and i + 1
abbrev pub Near : ℕ → List ℕ → List ℕ → Type 0
Near i xs ys = (k : ℕ) → k ≢ i → k ≢ i + 1 → get_or xs k 0 ≡ get_or ys k 0

-- all bits as one number, in the order in which the check takes them: bit j of byte i is bit 8 * i + j
unfoldable pub bits_of : List ℕ → ℕ
bits_of [] = 0
bits_of (x ∷ xs) = bits_of xs * 2 ^ 8 + x

-- a change within two neighbouring bytes changes the check
abbrev pub NeighboursCaught : Type 0
NeighboursCaught = (xs ys : List ℕ) → SameCheck xs ys → (i : ℕ) → Near i xs ys → xs ≡ ys

-- a change within 16 bits in a row, from bit p on, at a byte's edge or not, changes the check: w says which of the 16
abbrev pub BurstCaught : Type 0
BurstCaught = (xs ys : List ℕ) → SameCheck xs ys → (p w : ℕ) → w < 2 ^ 16 → bit_xor (bits_of xs) (bits_of ys) ≡ w * 2 ^ p → xs ≡ ys

-- ---- flipped bits: document 02, E12

-- how many of the n low bits of x are set
unfoldable pub ones : ℕ → ℕ → ℕ
ones zero x = 0
ones (suc n) x = x % 2 + ones n (x / 2)

-- how many bits are flipped from the one list of bytes to the other, of equal length
unfoldable pub flips : List ℕ → List ℕ → ℕ
flips [] ys = 0
flips (x ∷ xs) [] = 0
flips (x ∷ xs) (y ∷ ys) = ones 8 (bit_xor x y) + flips xs ys

-- an odd number of flipped bits changes the check
abbrev pub OddCaught : Type 0
OddCaught = (xs ys : List ℕ) → SameCheck xs ys → flips xs ys % 2 ≡ 1 → ⊥

-- and so do two, anywhere apart in at most so many bits
abbrev pub most_bits : ℕ
most_bits = 32767

abbrev pub TwoCaught : Type 0
TwoCaught = (xs ys : List ℕ) → SameCheck xs ys → 8 * length xs ≤ most_bits → flips xs ys ≡ 2 → ⊥

-- in one bit more they do not: 32,768 bits, and the same with the first and the last flipped, which are 32,767 apart
abbrev pub zeros : List ℕ
zeros = replicate 4096 0

abbrev pub both_ends : List ℕ
both_ends = 1 ∷ replicate 4094 0 ++ 128 ∷ []

abbrev pub EndsPass : Type 0
EndsPass = SameCheck zeros both_ends × (8 * length zeros ≡ most_bits + 1) × (flips zeros both_ends ≡ 2)
