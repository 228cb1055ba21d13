-- The Fingerprint in the Subject of a public key: document 02, E3; STS 600-4-2, clauses 6.1 and 7.1. The record's own refusals come first
-- (any kind but a public key's answers 2, in its normal place), then 15, or 10 where the right one is to be written.
-- Assumes nothing.
use Rattle.std.specs.Prelude.{ℕ, cond, List, [], ◌∷◌, take, get_or}
use Prim.Native.Char.{code}
use Rattle.text.specs.Text.{Bytes, same}
use Rattle.text.specs.Base16.{base16}
use Rattle.sha384.specs.Sha384.{sha384}
use Rattle.numbers.specs.Numbers.{wrong_fingerprint}
use Rattle.format.specs.Kinds.{Kind, name, pubkey_kinds}
use Rattle.format.specs.Build.{joined}
use Rattle.format.specs.Read.{Outcome, accepted, refused, read_identity, read_of}
use Rattle.subjects.specs.Subjects.{manufacturer, mid, gnt}
use Rattle.subjects.specs.Keys.{subject}
use Rattle.put.specs.Made.{Made}
use Rattle.given.specs.Given.{given}
use Rattle.fingerprint.specs.declared.Checked.{Checked}

-- ---- the Fingerprint that is right

-- the text that is hashed: the kind name, Manufacturer, MID and GNT of an identity, and Q's characters, each followed by ':'
abbrev pub hash_text : Kind → List Bytes → Bytes → Bytes
hash_text who names q = joined (code ":") (name who ∷ manufacturer names ∷ mid names ∷ gnt names ∷ q ∷ [])

-- the first eight bytes of the hash, as HEX(16)
abbrev pub print_of : Bytes → Bytes
print_of text = base16 (take 8 (sha384 text))

-- by what the identity call says to the Subject; no public key has a Subject that it refuses
abbrev pub right_for : Outcome → Bytes → Bytes
right_for (accepted who names) q = print_of (hash_text who names q)
right_for (refused n i) q = []

-- of the fields of a public key, of which Q is the second
abbrev pub right_print : List Bytes → Bytes
right_print fs = right_for (read_identity (subject fs)) (get_or fs 1 [])

-- ---- the Fingerprint that stands there: the fourth field of the Subject

abbrev pub fingerprint : List Bytes → Bytes
fingerprint names = get_or names 3 []

abbrev pub print_in : Outcome → Bytes
print_in (accepted who names) = fingerprint names
print_in (refused n i) = []

-- ---- the calls

abbrev pub check_by : Outcome → Checked
check_by (accepted k fs) = record { no = cond (same (print_in (read_identity (subject fs))) (right_print fs)) 0 wrong_fingerprint; field = 0 }
check_by (refused n i) = record { no = n; field = i }

unfoldable pub check_fingerprint : Bytes → Checked
check_fingerprint s = check_by (read_of pubkey_kinds s)

-- for an output of length `room`
unfoldable pub write_fingerprint : Bytes → ℕ → Made
write_fingerprint s room = given (λ k fs. right_print fs) room (read_of pubkey_kinds s)
