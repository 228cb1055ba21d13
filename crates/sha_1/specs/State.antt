-- The state of a hash: document 02, E6; begun, given slices, ended. What is given in slices is hashed as if given at once: `promises`,
-- Hash.antt.
-- Assumes nothing.
use Rattle.std.specs.Prelude.{ℕ, ◌%◌, ◌^◌, List, []}
use Rattle.hashing.specs.State
use Rattle.hashing.specs.State.{Keeping}
unfoldable pub use Rattle.hashing.specs.State.{together}
use Rattle.sha_1.specs.declared.Words.{Words}
use Rattle.sha_1.specs.declared.Sha1.{Sha1}
use Rattle.sha_1.specs.Sha1.{padding, H₀, compress, joined}

-- what a state is made of: the count is kept modulo 2 to the 64th
abbrev pub keeping : Keeping Words Sha1
keeping =
    record {
      kept = λ v b n. record { hash = v; block = b; count = n % 2 ^ 64 };
      hash = λ s. s.hash;
      block = λ s. s.block;
      count = λ s. s.count;
    }

-- a block with these bytes at its front and zeros after them
abbrev pub zeroed : List ℕ → List ℕ
zeroed = State.zeroed 64

-- from the hash value v the bytes x are taken in, with which n were given: the whole blocks are hashed, the rest waits
abbrev pub taken : Words → List ℕ → ℕ → Sha1
taken = State.taken 64 compress keeping

unfoldable pub begun : Sha1
begun = taken H₀ [] 0

-- the bytes that wait, and these, are taken in
unfoldable pub added : Sha1 → List ℕ → Sha1
added = State.added 64 compress keeping

-- given one slice after another
abbrev pub added_all : Sha1 → List (List ℕ) → Sha1
added_all = State.added_all added

unfoldable pub ended : Sha1 → List ℕ
ended s = joined (added s (padding s.count)).hash
