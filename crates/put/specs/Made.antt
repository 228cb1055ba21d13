-- What a call that writes into a lent output says and leaves: document 01, "Numbers given back". A refused call leaves lent
-- output untouched; bytes of a lent output past the length built stay.
-- Assumes nothing.
use Rattle.std.specs.Prelude.{ℕ, ◌≡◌, List, ◌++◌, length, drop}
use Rattle.put.specs.declared.Written.{Written}

-- the bytes that are made, or the number of the refusal and of the field
pub data Made : Type 0 where
  made : List ℕ → Made
  denied : ℕ → ℕ → Made

abbrev pub says : Made → Written
says (made v) = record { no = 0; field = 0; len = length v }
says (denied n i) = record { no = n; field = i; len = 0 }

abbrev pub leaves : Made → List ℕ → List ℕ
leaves (made v) out = v ++ drop (length v) out
leaves (denied n i) out = out

-- a call that was lent out, left it as out', and answered r
pub record Writes (m : Made) (out out' : List ℕ) (r : Written) : Type 0 where
  pub said : r ≡ says m
  pub left : out' ≡ leaves m out
