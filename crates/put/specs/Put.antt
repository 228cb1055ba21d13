-- A piece written into a lent output: document 01, "Numbers given back" (bytes of a lent output past the length built stay).
-- Assumes nothing.
use Rattle.std.specs.Prelude.{ℕ, ◌+◌, ◌≤◌, ◌≡◌, Bool, cond, List, ◌++◌, length, take, drop, leb}

-- o with v written at place k
abbrev pub over : List ℕ → ℕ → List ℕ → List ℕ
over o k v = take k o ++ v ++ drop (k + length v) o

-- v fits at place k of o
abbrev pub room : List ℕ → ℕ → List ℕ → Bool
room o k v = leb (k + length v) (length o)

-- what a call that is to write v at place k of o leaves, out, and answers, r
pub record Puts (o : List ℕ) (k : ℕ) (v out : List ℕ) (r : ℕ) : Type 0 where
  pub leaves : out ≡ cond (room o k v) (over o k v) o
  pub answers : r ≡ cond (room o k v) (k + length v) k

-- v is written at place k of o, where it fits, which gives out; r is the place after it. Pieces compose: proofs/Pieces.antt
pub record Put (o : List ℕ) (k : ℕ) (v out : List ℕ) (r : ℕ) : Type 0 where
  pub fits : k + length v ≤ length o
  pub written : out ≡ over o k v
  pub next : r ≡ k + length v
