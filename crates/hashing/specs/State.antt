-- What the state of a hash has taken in, when bytes are given to it in slices.
-- Assumes nothing.
use Rattle.std.specs.Prelude.{ℕ, ◌+◌, ◌-◌, ◌*◌, ◌/◌, ◌%◌, List, [], ◌∷◌, ◌++◌, length, take, drop, replicate}
use Rattle.hashing.specs.Blocks.{hashed}

-- how a state is made of a hash value, a block and a count of bytes, and how these are read from it
pub record Keeping (H S : Type 0) : Type 0 where
  pub kept : H → List ℕ → ℕ → S
  pub hash : S → H
  pub block : S → List ℕ
  pub count : S → ℕ

-- a block with these bytes at its front and zeros after them
abbrev pub zeroed : ℕ → List ℕ → List ℕ
zeroed size x = x ++ replicate (size - length x) 0

-- of the bytes given, those that wait for a whole block, at the front of one
abbrev pub waiting : {H S : Type 0} → ℕ → Keeping H S → S → List ℕ
waiting size keeping s = take (keeping.count s % size) (keeping.block s)

module _ {H S : Type 0} (size : ℕ) (compress : H → List ℕ → H) (keeping : Keeping H S) where
  -- from the hash value v the bytes x are taken in, with which n were given: the whole blocks are hashed, the rest waits
  unfoldable pub taken : H → List ℕ → ℕ → S
  taken v x n =
      let whole = length x / size in
      keeping.kept (hashed size compress v x whole) (zeroed size (drop (size * whole) x)) n

  -- given a slice
  unfoldable pub added : S → List ℕ → S
  added s m = taken (keeping.hash s) (waiting size keeping s ++ m) (keeping.count s + length m)

-- given one slice after another
unfoldable pub added_all : {S : Type 0} → (S → List ℕ → S) → S → List (List ℕ) → S
added_all added s [] = s
added_all added s (m ∷ ms) = added_all added (added s m) ms

-- these slices one behind the other
unfoldable pub together : List (List ℕ) → List ℕ
together [] = []
together (m ∷ ms) = m ++ together ms
