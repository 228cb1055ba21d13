-- What tells two Subjects apart: document 01, "Files of records and the newer key", number 13: kind, Manufacturer and MID.
-- Assumes nothing.
use Rattle.std.specs.Prelude.{ℕ, Bool, ◌&&◌, List, [], get_or}
use Prim.Native.Char.{code}
use Rattle.std.specs.Borrow.{Bor}
use Rattle.text.specs.Text.{Bytes, same}
use Rattle.text.specs.Part.{Part}
use Rattle.format.specs.Kinds.{Kind, name}
use Rattle.format.specs.Read.{title, body}
use Rattle.frame.specs.Frame.{part_of, part_place}

-- ---- of an identity that is accepted, by its fields

abbrev pub manufacturer : List Bytes → Bytes
manufacturer fs = get_or fs 0 []

abbrev pub mid : List Bytes → Bytes
mid fs = get_or fs 1 []

abbrev pub gnt : List Bytes → Bytes
gnt fs = get_or fs 2 []

-- the two agree in kind, Manufacturer and MID (no two kinds have one name)
unfoldable pub alike : Kind → List Bytes → Kind → List Bytes → Bool
alike j fs k gs = same (name j) (name k) && (same (manufacturer fs) (manufacturer gs) && same (mid fs) (mid gs))

-- ---- of any bytes, by their places

-- field n, from 1
abbrev pub identity_part : Bytes → ℕ → Bytes
identity_part s n = part_of (code ":") (body s) n

-- r is field n of s, where it stands
abbrev pub IsIdentityPart : Bor Bytes → ℕ → Bor Bytes → Type 0
IsIdentityPart s n r = Part s (part_place (code ":") (body s.now) n) (identity_part s.now n) r

-- the two agree in what stands before the first mark, in field 1 and in field 2
unfoldable pub are_alike : Bytes → Bytes → Bool
are_alike s t =
    same (title s) (title t) && (same (identity_part s 1) (identity_part t 1) && same (identity_part s 2) (identity_part t 2))
