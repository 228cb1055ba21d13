-- A message in blocks of one size, and the hash value that is carried from block to block: FIPS 180-4, 5.2 and the second half of 6.
-- Assumes nothing.
use Rattle.std.specs.Prelude.{ℕ, ◌*◌, List, take, drop}
use Rattle.hashing.specs.Turns.{turns}

-- the i-th block of m, from 0
unfoldable pub block : ℕ → List ℕ → ℕ → List ℕ
block size m i = take size (drop (size * i) m)

-- the hash value after the first n blocks of m, from the hash value v before them; `compress` makes one of a hash value and a block
unfoldable pub hashed : {H : Type 0} → ℕ → (H → List ℕ → H) → H → List ℕ → ℕ → H
hashed size compress v m = turns (λ h i. compress h (block size m i)) v
