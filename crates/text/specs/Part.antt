-- A part of the caller's own bytes: document 01, "Seven kinds of record" and "Numbers given back". Two parts may hold the same bytes and stand
-- at two places, as the Issuer and the Subject of a key that signs itself; so a part is its place and its bytes.
-- Assumes nothing.
use Rattle.std.specs.Prelude.{ℕ, ◌+◌, ◌≡◌, []}
use Rattle.std.specs.Borrow.{Bor}
use Rattle.text.specs.Text.{Bytes}

-- r is the part of s that starts there, counted from 0, and holds these bytes
pub record Part (s : Bor Bytes) (start : ℕ) (bytes : Bytes) (r : Bor Bytes) : Type 0 where
  -- in memory: in the block in which s stands, so many bytes behind the first of s
  pub stands : r.ref_ptr ≡ (s.ref_ptr.0, start + s.ref_ptr.1)
  pub holds : r.now ≡ bytes

-- with a refusal, "where a part must be returned, an empty one": the one at the front of s
abbrev pub NoPart : Bor Bytes → Bor Bytes → Type 0
NoPart s r = Part s 0 [] r
