-- The state of a hash: document 02, E3; begun, given slices, ended. What is given in slices is hashed as if given at once: `promises`,
-- Hash.antt.
-- Assumes nothing.
use Rattle.std.specs.Prelude.{ℕ, ◌+◌, ◌*◌, ◌/◌, ◌%◌, ◌^◌, List, []}
use Rattle.hashing.specs.State
use Rattle.hashing.specs.State.{Keeping}
unfoldable pub use Rattle.hashing.specs.State.{together}
use Rattle.sha384.specs.declared.Words.{Words}
use Rattle.sha384.specs.declared.Sha384.{Sha384}
use Rattle.sha384.specs.Sha384.{padding, H₀, compress, left384}

-- a number in two words
abbrev pub lower : ℕ → ℕ
lower n = n % 2 ^ 64

abbrev pub higher : ℕ → ℕ
higher n = n / 2 ^ 64 % 2 ^ 64

-- so many bytes were given
abbrev pub count : Sha384 → ℕ
count s = s.high * 2 ^ 64 + s.low

-- what a state is made of: the count is kept in two words
abbrev pub keeping : Keeping Words Sha384
keeping =
    record {
      kept = λ v b n. record { hash = v; block = b; low = lower n; high = higher n };
      hash = λ s. s.hash;
      block = λ s. s.block;
      count = count;
    }

-- a block with these bytes at its front and zeros after them
abbrev pub zeroed : List ℕ → List ℕ
zeroed = State.zeroed 128

-- from the hash value v the bytes x are taken in, with which n were given: the whole blocks are hashed, the rest waits
abbrev pub taken : Words → List ℕ → ℕ → Sha384
taken = State.taken 128 compress keeping

unfoldable pub begun : Sha384
begun = taken H₀ [] 0

-- the bytes that wait, and these, are taken in
unfoldable pub added : Sha384 → List ℕ → Sha384
added = State.added 128 compress keeping

-- given one slice after another
abbrev pub added_all : Sha384 → List (List ℕ) → Sha384
added_all = State.added_all added

unfoldable pub ended : Sha384 → List ℕ
ended s = left384 (added s (padding (count s))).hash
