-- The places of a cabinet as data: document 02, E8 and E10. A place is free, or holds a record with what is read from it, and a TVP.
-- Assumes nothing.
use Rattle.std.specs.Prelude.{ℕ, suc, ◌+◌, Bool, true, false, cond, ◌&&◌, ◌||◌, List, [], ◌∷◌}
use Rattle.std.proofs.Math.Option.{Option, none, some}
use Rattle.text.specs.Text.{Bytes, same}

-- what tells two Subjects apart: the kind's name, Manufacturer and MID
pub data Names : Type 0 where
  named : Bytes → Bytes → Bytes → Names

abbrev pub same_names : Names → Names → Bool
same_names (named a b c) (named x y z) = same a x && (same b y && same c z)

-- what an occupied place holds: the record's bytes, what is read from its Subject, and the last TVP accepted for its module
pub record Held : Type 0 where
  pub names : Names
  pub gnt : Bytes
  pub text : Bytes
  pub tvp : Bytes

pub data Place : Type 0 where
  free : Place
  held : Held → Place

abbrev pub is_free : Place → Bool
is_free free = true
is_free (held h) = false

abbrev pub holds : Names → Place → Bool
holds k free = false
holds k (held h) = same_names k h.names

abbrev pub contents : Place → Option Held
contents free = none
contents (held h) = some h

-- ---- all places, from the lowest

-- what is held under these names
abbrev pub lookup : Names → List Place → Option Held
lookup k [] = none
lookup k (p ∷ ps) = cond (holds k p) (contents p) (lookup k ps)

-- the lowest place that passes the test becomes q
abbrev pub change : (Place → Bool) → Place → List Place → List Place
change t q [] = []
change t q (p ∷ ps) = cond (t p) (q ∷ ps) (p ∷ change t q ps)

-- the number of the lowest place that passes the test, from 0; where none does, how many there are
abbrev pub lowest : (Place → Bool) → List Place → ℕ
lowest t [] = 0
lowest t (p ∷ ps) = cond (t p) 0 (suc (lowest t ps))

abbrev pub occupied : List Place → ℕ
occupied [] = 0
occupied (p ∷ ps) = cond (is_free p) 0 1 + occupied ps

abbrev pub any_free : List Place → Bool
any_free [] = false
any_free (p ∷ ps) = is_free p || any_free ps

-- how many hold records of other names than these
abbrev pub others : Names → List Place → ℕ
others k [] = 0
others k (p ∷ ps) = cond (is_free p || holds k p) 0 1 + others k ps

-- ---- no two records share the three names

abbrev pub missing : Option Held → Bool
missing none = true
missing (some h) = false

abbrev pub alone : Place → List Place → Bool
alone free ps = true
alone (held h) ps = missing (lookup h.names ps)

abbrev pub distinct : List Place → Bool
distinct [] = true
distinct (p ∷ ps) = alone p ps && distinct ps
