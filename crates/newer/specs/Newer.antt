-- The newer of two public keys: document 01, "Files of records and the newer key", number 13. The one whose Subject has the later
-- GNT, the first when equal. The first record's refusals come before the second's, then 13.
-- Assumes nothing.
use Rattle.std.specs.Prelude.{ℕ, ◌≡◌, cond}
use Rattle.std.specs.Borrow.{Bor}
use Rattle.text.specs.Text.{Bytes}
use Rattle.text.specs.Part.{NoPart}
use Rattle.text.specs.Later.{later}
use Rattle.numbers.specs.Numbers.{not_alike}
use Rattle.format.specs.Kinds.{pubkey_kinds}
use Rattle.format.specs.Read.{Outcome, accepted, refused, read_identity, read_of}
use Rattle.subjects.specs.Subjects.{gnt, alike}
pub use Rattle.subjects.specs.Keys.{subject}
use Rattle.newer.specs.declared.Choice.{Choice}

-- ---- the choice

-- a refusal has the record that is refused, 1 or 2, and 0 where it is the two together; its number and its field's number
pub data Decision : Type 0 where
  theFirst theSecond : Decision
  no_choice : ℕ → ℕ → ℕ → Decision

-- by the identity call's outcomes of the two Subjects
abbrev pub by_subjects : Outcome → Outcome → Decision
by_subjects (accepted j fs) (accepted k gs) =
    cond (alike j fs k gs) (cond (later (gnt gs) (gnt fs)) theSecond theFirst) (no_choice 0 not_alike 0)
by_subjects (accepted j fs) (refused n i) = no_choice 2 n i
by_subjects (refused n i) o = no_choice 1 n i

-- by the record call's outcomes of the two records
abbrev pub by_records : Outcome → Outcome → Decision
by_records (accepted j fs) (accepted k gs) = by_subjects (read_identity (subject fs)) (read_identity (subject gs))
by_records (accepted j fs) (refused n i) = no_choice 2 n i
by_records (refused n i) o = no_choice 1 n i

unfoldable pub newer : Bytes → Bytes → Decision
newer a b = by_records (read_of pubkey_kinds a) (read_of pubkey_kinds b)

-- ---- the calls

abbrev pub choice_no : Decision → ℕ
choice_no theFirst = 0
choice_no theSecond = 0
choice_no (no_choice w n i) = n

abbrev pub choice_field : Decision → ℕ
choice_field theFirst = 0
choice_field theSecond = 0
choice_field (no_choice w n i) = i

-- 1 for the first record and 2 for the second: the newer one, and with a refusal the one that is refused
abbrev pub choice_which : Decision → ℕ
choice_which theFirst = 1
choice_which theSecond = 2
choice_which (no_choice w n i) = w

abbrev pub choice_said : Decision → Choice
choice_said c = record { no = choice_no c; field = choice_field c; which = choice_which c }

-- the part r that is handed back of the two that were lent: the chosen one itself; with a refusal the empty part at the front of the first
abbrev pub IsChosen : Decision → Bor Bytes → Bor Bytes → Bor Bytes → Type 0
IsChosen theFirst first second r = r ≡ first
IsChosen theSecond first second r = r ≡ second
IsChosen (no_choice w n i) first second r = NoPart first r

pub record Chosen (c : Decision) (first second r : Bor Bytes) (no field : ℕ) : Type 0 where
  pub part_so : IsChosen c first second r
  pub number_so : no ≡ choice_no c
  pub field_so : field ≡ choice_field c
