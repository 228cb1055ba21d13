-- HMAC-SHA-384-192: STS 600-4-2, clause 6.3, step by step. A key longer than a block, which that clause never has, is taken as FIPS 198-1
-- says: its hash in its place.
-- Assumes nothing.
use Rattle.std.specs.Prelude.{ℕ, cond, ◌++◌, map, length, take, leb}
use Rattle.std.specs.Int.Bits.{bit_xor}
use Rattle.text.specs.Text.{Bytes}
use Rattle.sha384.specs.Sha384.{sha384}
use Rattle.sha384.specs.State.{zeroed}

-- zeros are appended to the key, up to a block of 128 bytes
unfoldable pub K₀ : Bytes → Bytes
K₀ k = zeroed (cond (leb (length k) 128) k (sha384 k))

-- K₀ ⊕ pad, where pad is one byte, 128 times
unfoldable pub mixed : ℕ → Bytes → Bytes
mixed pad k = map (λ b. bit_xor b pad) (K₀ k)

abbrev pub ipad : ℕ
ipad = 0x36

abbrev pub opad : ℕ
opad = 0x5C

-- SHA-384((K₀ ⊕ opad) ∥ SHA-384((K₀ ⊕ ipad) ∥ text))
unfoldable pub mac : Bytes → Bytes → Bytes
mac k text = sha384 (mixed opad k ++ sha384 (mixed ipad k ++ text))

-- the leftmost 192 bits
unfoldable pub hmac : Bytes → Bytes → Bytes
hmac k text = take 24 (mac k text)
