-- How a record is built, and what may be built: document 01, "Seven kinds of record", and document 02, E1 and E11; STS 600-4-2, clause 5.8.1
-- (BUILD-RECORD).
-- Assumes nothing.
use Rattle.std.specs.Prelude.{ℕ, ◌≡◌, ◌⊎◌, Bool, true, false, not, ◌&&◌, ◌||◌, List, [], ◌∷◌, ◌++◌, length, get_or, T, leb}
use Rattle.std.specs.Bool.{beq}
use Rattle.crc16.specs.Crc.{crc_of}
use Rattle.text.specs.Text.{Bytes, same, is_of, is_printable}
use Rattle.text.specs.Base16.{check_text}
pub use Rattle.format.specs.Parts.{joined, WithoutAll}
use Rattle.format.specs.Kinds.{Kind, SMID, ECDH, Field, Text, Printable, Identity, OrEmpty, name, mark, fields_of, identity_kinds, pubkey_kinds, key_kinds, among, title}
use Rattle.format.specs.Attributes.{are_attributes}
use Rattle.format.specs.declared.Rules.{Rules}
use Rattle.format.specs.declared.Rules.TheVariants.{UpToE10, Today}

-- ---- the build rules

-- R and then BASE16 of its check
unfoldable pub with_check : Bytes → Bytes
with_check r = r ++ check_text (crc_of r)

-- BUILD-RECORD: R is DFCONCAT of the kind's name and the fields
unfoldable pub record_of : Kind → List Bytes → Bytes
record_of k fs = with_check (joined (mark k) (name k ∷ fs))

-- ---- the permitted lists of fields

abbrev pub empty : Bytes → Bool
empty [] = true
empty (c ∷ s) = false

-- the field f holds what t says, where I k says what the identities of kind k are
unfoldable pub Fits : (Kind → Bytes → Type 0) → Field → Bytes → Type 0
Fits I (Text t) f = T (is_of t f)
Fits I Printable f = T (is_printable f)
Fits I (Identity ks) f = (k : Kind) × T (among k ks) × I k f
Fits I (OrEmpty t) f = T (empty f) ⊎ Fits I t f

-- as many fields as the table has, each as it says
unfoldable pub FitAll : (Kind → Bytes → Type 0) → List Field → List Bytes → Type 0
FitAll I [] [] = Unit {0}
FitAll I [] (f ∷ fs) = ⊥
FitAll I (t ∷ ts) [] = ⊥
FitAll I (t ∷ ts) (f ∷ fs) = Fits I t f × FitAll I ts fs

-- Issuer and Signature, fields 4 and 5 of a public key, are both empty or both not
abbrev pub paired : Kind → List Bytes → Bool
paired k fs = not (among k pubkey_kinds) || beq (empty (get_or fs 3 [])) (empty (get_or fs 4 []))

-- the Attributes, field 2 of a wrapped key, are a list that is permitted
abbrev pub attributed : Kind → List Bytes → Bool
attributed k fs = not (among k key_kinds) || are_attributes (get_or fs 1 [])

-- the unsigned key of a module: a PK.ECDH.1 with an SMID Subject, field 1, and an empty Signature, field 5
abbrev pub unsigned_module : Kind → List Bytes → Bool
unsigned_module k fs = among k (ECDH ∷ []) && (same (title (get_or fs 0 [])) (name SMID) && empty (get_or fs 4 []))

-- the rules up to E10 permitted it, today's do not (E11)
abbrev pub signed : Rules → Kind → List Bytes → Bool
signed UpToE10 k fs = true
signed Today k fs = not (unsigned_module k fs)

-- document 01's limit of what is read, and document 02's of a wrapped key that is built; every other kind's own is lower
abbrev pub longest_record : ℕ
longest_record = 1024

pub record PermittedOver (rules : Rules) (I : Kind → Bytes → Type 0) (k : Kind) (fs : List Bytes) : Type 0 where
  pub fit : FitAll I (fields_of k) fs
  pub both : T (paired k fs)
  pub attributes : T (attributed k fs)
  pub signs : T (signed rules k fs)
  pub short : T (leb (length (record_of k fs)) longest_record)

-- s is the record of the fields fs, which are permitted for the kind k, which is one of ks
pub record BuiltOver (rules : Rules) (I : Kind → Bytes → Type 0) (ks : List Kind) (s : Bytes) (k : Kind) (fs : List Bytes) : Type 0 where
  pub of-kind : T (among k ks)
  pub permitted : PermittedOver rules I k fs
  pub built : s ≡ record_of k fs

-- an identity has no identity in it
abbrev pub NeverIdentity : Kind → Bytes → Type 0
NeverIdentity k s = ⊥

-- an identity is a record of an identity kind, about which all rules say the same
unfoldable pub IsIdentity : Kind → Bytes → Type 0
IsIdentity k s = (fs : List Bytes) × BuiltOver Today NeverIdentity identity_kinds s k fs

abbrev pub PermittedUnder : Rules → Kind → List Bytes → Type 0
PermittedUnder rules k fs = PermittedOver rules IsIdentity k fs

abbrev pub BuiltUnder : Rules → List Kind → Bytes → Kind → List Bytes → Type 0
BuiltUnder rules ks s k fs = BuiltOver rules IsIdentity ks s k fs

-- today
abbrev pub Permitted : Kind → List Bytes → Type 0
Permitted = PermittedUnder Today

abbrev pub Built : List Kind → Bytes → Kind → List Bytes → Type 0
Built = BuiltUnder Today
