-- What every record has whatever its kind, by places: STS 600-4-2, clauses 5.7 and 5.8. `check_no` of format says numbers 3 and 4.
-- Assumes nothing.
use Rattle.std.specs.Prelude.{ℕ, ◌+◌, cond, [], length, take, drop, get_or, ltb}
use Rattle.std.specs.Borrow.{Bor}
use Rattle.text.specs.Text.{Bytes}
use Rattle.text.specs.Part.{Part}
use Rattle.format.specs.Build.{joined}
use Rattle.format.specs.Read.{cut}
use Rattle.format.specs.Files.{up_to}

-- the first place of the mark m at or after i: the end if there is none, and i past the end
unfoldable pub next_mark : ℕ → Bytes → ℕ → ℕ
next_mark m s i = i + length (up_to m (drop i s))

-- part n, from 0, of those that the mark m ends; empty if there is none
unfoldable pub part_of : ℕ → Bytes → ℕ → Bytes
part_of m s n = get_or (cut m s) n []

-- where part n starts: behind the parts before it, each with its mark; if there is none, behind the last
unfoldable pub part_start : ℕ → Bytes → ℕ → ℕ
part_start m s n = length (joined m (take n (cut m s)))

-- where the part that is handed back starts: at the front if there is none
unfoldable pub part_place : ℕ → Bytes → ℕ → ℕ
part_place m s n = cond (ltb n (length (cut m s))) (part_start m s n) 0

-- r is part n of s, where it stands
abbrev pub IsPart : ℕ → Bor Bytes → ℕ → Bor Bytes → Type 0
IsPart m s n r = Part s (part_place m s.now n) (part_of m s.now n) r
