-- What the private functions of the crate answer. No clause of a document stands here.
-- Assumes nothing.
use Rattle.std.specs.Prelude.{ℕ, suc, ◌≡◌, List, take, drop, Option, Some, None}
use Rattle.std.specs.Borrow.{Bor}
use Rattle.text.specs.Text.{Bytes}
use Rattle.text.specs.Part.{Part}
use Rattle.format.specs.Kinds.{Kind}
use Rattle.format.specs.Read.{Outcome, read_identity, read_of}
use Rattle.fields.specs.declared.Place.{Place}

-- o is what a reading call says of s
pub data Reads (s : Bytes) : Outcome → Type 0 where
  identity : Reads s (read_identity s)
  records : (ks : List Kind) → Reads s (read_of ks s)

-- the number, from 1, of what is counted from 0; 0 for none
abbrev pub number_of : Option ℕ → ℕ
number_of None = 0
number_of (Some n) = suc n

-- nowhere, with the number of a refusal
abbrev pub nowhere : ℕ → ℕ → Place
nowhere n i = record { no = n; field = i; start = 0; len = 0 }

-- the part of s at a place, and the place's numbers
pub record Handed (at : Place) (s r : Bor Bytes) (no field : ℕ) : Type 0 where
  pub its_part : Part s at.start (take at.len (drop at.start s.now)) r
  pub its_no : no ≡ at.no
  pub its_field : field ≡ at.field
