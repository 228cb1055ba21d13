-- Which of two TIMESTAMPs is later, as an instant: document 01, "Files of records and the newer key"; document 02, E9: by the number that the date call gives.
-- Assumes nothing.
use Rattle.std.specs.Prelude.{ℕ, Bool, List, [], ◌∷◌}
use Rattle.std.specs.Int.Signed.{lt_z}
use Rattle.text.specs.Text.{Bytes, year, month, day, hour, minute, second}
use Rattle.text.specs.Seconds.{moment_of}

-- s is later than t
unfoldable pub later : Bytes → Bytes → Bool
later s t = lt_z (moment_of t).seconds (moment_of s).seconds

-- ---- for what is promised of it

-- the parts of the date, the greatest first
abbrev pub instant : Bytes → List ℕ
instant s = year s ∷ month s ∷ day s ∷ hour s ∷ minute s ∷ second s ∷ []
