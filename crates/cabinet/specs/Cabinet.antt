-- What the calls of the cabinet answer: document 02, E8 and E10. `make_cabinet`, `put_key`, `remove_key`, `admit`, `find_key`, `count_keys` and `check_cabinet` of shelf say it;
-- here it is put into the words of an answer.
-- Assumes nothing.
use Rattle.std.specs.Prelude.{ℕ, ◌≡◌, length}
use Rattle.std.specs.Borrow.{Bor}
use Rattle.text.specs.Text.{Bytes}
use Rattle.fields.specs.Fields.{PartSaid, PlaceSaid}
use Rattle.fields.specs.declared.Place.{Place}
use Rattle.shelf.specs.Cabinet.{Result, Finding, count_keys, check_cabinet}
use Rattle.cabinet.specs.declared.Filed.{Filed}
use Rattle.cabinet.specs.declared.Counted.{Counted}

abbrev pub filed : Result → Filed
filed x = record { no = x.no; field = x.field }

-- a call that was to do x left the lent bytes as `after`, and answered r
pub record Files (x : Result) (after : Bytes) (r : Filed) : Type 0 where
  pub said : r ≡ filed x
  pub left : after ≡ x.bytes

-- whether the bytes are a cabinet
abbrev pub checked : Bytes → Filed
checked s = record { no = check_cabinet s; field = 0 }

abbrev pub counted : Bytes → Counted
counted s = record { no = (count_keys s).no; count = (count_keys s).count }

abbrev pub found_in : Finding → Place
found_in x = record { no = x.no; field = x.field; start = x.start; len = length x.text }

-- the record that was found in s, as start and length, and as a part of it
abbrev pub FindSaid : Finding → Bytes → Place → Type 0
FindSaid x s r = PlaceSaid x.no x.field x.start x.text s r

abbrev pub FindPart : Finding → Bor Bytes → Bor Bytes → ℕ → ℕ → Type 0
FindPart x s r n i = PartSaid x.no x.field x.start x.text s r n i
