-- What the calls for one field, counted from 1, answer: document 01, "Numbers given back", number 12. `read_identity`, `read_of` and
-- `read_record` of format say the outcome of reading.
-- Assumes nothing.
use Rattle.std.specs.Prelude.{ℕ, ◌+◌, ◌≤◌, ◌≡◌, cond, List, [], ◌∷◌, length, take, drop, get_or}
use Rattle.std.specs.Borrow.{Bor}
use Rattle.text.specs.Text.{Bytes, between}
use Rattle.text.specs.Part.{Part}
use Rattle.numbers.specs.Numbers.{missing_item}
use Rattle.format.specs.Kinds.{Kind, name, mark}
use Rattle.format.specs.Build.{joined}
use Rattle.format.specs.Read.{Outcome, accepted, refused, place}
use Rattle.fields.specs.declared.Place.{Place}

-- the field itself; empty with a refusal
unfoldable pub wanted_part : Outcome → ℕ → Bytes
wanted_part (accepted k fs) wanted = get_or ([] ∷ fs) wanted []
wanted_part (refused n i) wanted = []

-- after every other number, 12 for a field that the kind hasn't
unfoldable pub wanted_no : Outcome → ℕ → ℕ
wanted_no (accepted k fs) wanted = cond (between 1 (length fs) wanted) 0 missing_item
wanted_no (refused n i) wanted = n

-- where field n, from 1, of the fields fs stands: behind the kind's name and the fields before it, each with its mark, as the build
-- rules write them
abbrev pub start_in : Kind → List Bytes → ℕ → ℕ
start_in k fs n = length (joined (mark k) (take n (name k ∷ fs)))

-- where the field stands; at the front with a refusal
unfoldable pub wanted_start : Outcome → ℕ → ℕ
wanted_start (accepted k fs) wanted = cond (between 1 (length fs) wanted) (start_in k fs wanted) 0
wanted_start (refused n i) wanted = 0

-- ---- what a call says that was lent s: number n, field number f, and these bytes, which stand there

-- as the part r of s
pub record PartSaid (n f start : ℕ) (bytes : Bytes) (s r : Bor Bytes) (no field : ℕ) : Type 0 where
  pub its_part : Part s start bytes r
  pub its_no : no ≡ n
  pub its_field : field ≡ f

-- as start and length; the bytes are what stands there
pub record PlaceSaid (n f at : ℕ) (part s : Bytes) (r : Place) : Type 0 where
  pub said : r ≡ record { no = n; field = f; start = at; len = length part }
  pub inside : r.start + r.len ≤ length s
  pub bytes : take r.len (drop r.start s) ≡ part

-- where reading says o: the wanted field
abbrev pub FieldSaid : Outcome → ℕ → Bor Bytes → Bor Bytes → ℕ → ℕ → Type 0
FieldSaid o wanted s r n f = PartSaid (wanted_no o wanted) (place o) (wanted_start o wanted) (wanted_part o wanted) s r n f

abbrev pub place_said : Outcome → ℕ → Place
place_said o wanted = record { no = wanted_no o wanted; field = place o; start = wanted_start o wanted; len = length (wanted_part o wanted) }

abbrev pub Placed : Outcome → ℕ → Bytes → Place → Type 0
Placed o wanted s r = PlaceSaid (wanted_no o wanted) (place o) (wanted_start o wanted) (wanted_part o wanted) s r
