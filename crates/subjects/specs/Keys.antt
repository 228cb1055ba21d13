-- An accepted public key with its Subject, an accepted identity.
-- Assumes nothing.
use Rattle.std.specs.Prelude.{◌≡◌, List, [], get_or}
use Rattle.text.specs.Text.{Bytes}
use Rattle.format.specs.Kinds.{Kind, pubkey_kinds}
use Rattle.format.specs.Read.{accepted, read_identity, read_under}
use Rattle.format.specs.declared.Rules.{Rules}
use Rattle.format.specs.declared.Rules.TheVariants.{Today}
use Rattle.subjects.specs.Subjects.{gnt}

-- the Subject of a public key
abbrev pub subject : List Bytes → Bytes
subject fs = get_or fs 0 []

-- the rules accept s as a public key, and the Subject in it is an identity of kind `who` with the fields `names`
pub record KeyUnder (rules : Rules) (s : Bytes) : Type 0 where
  pub kind : Kind
  pub fields : List Bytes
  pub is : read_under rules pubkey_kinds s ≡ accepted kind fields
  pub who : Kind
  pub names : List Bytes
  pub known : read_identity (subject fields) ≡ accepted who names

-- today's rules do
abbrev pub Key : Bytes → Type 0
Key = KeyUnder Today

abbrev pub gnt_of : {rules : Rules} {s : Bytes} → KeyUnder rules s → Bytes
gnt_of k = gnt k.names
