-- The two rule sets: document 02, E11. What the rules up to E10 permit, that today's permit the same but for the unsigned key of a module, and that nothing else is answered in
-- another way.
-- Assumes nothing.
use Rattle.std.specs.Prelude.{ℕ, ◌≤◌, ◌≡◌, ◌↔◌, List, [], length, get_or, T}
use Rattle.text.specs.Text.{Bytes}
use Rattle.numbers.specs.Numbers.{module_unsigned}
use Rattle.format.specs.Kinds.{Kind, SMID, ECDH, fields_of}
use Rattle.format.specs.Build.{record_of, FitAll, paired, attributed, IsIdentity, PermittedUnder, BuiltUnder, Permitted}
use Rattle.format.specs.Read.{accepted, refused, answer, read_under, read_of}
use Rattle.format.specs.declared.Rules.TheVariants.{UpToE10}
use Rattle.table.specs.Table.{kinds_from}
use Rattle.reading.proofs.read_under.Reads as read_under
use Rattle.promises.specs.Calls.{Holds}

-- the unsigned key of a module: a PK.ECDH.1 whose Subject is an identity of kind SMID, and whose Signature is empty
abbrev pub UnsignedModule : Kind → List Bytes → Type 0
UnsignedModule k fs = (k ≡ ECDH) × IsIdentity SMID (get_or fs 0 []) × (get_or fs 4 [] ≡ [])

pub record Rulings : Type 0 where
  -- up to E10: the fields as the table says, Issuer and Signature both empty or both not, a list of attributes that is permitted, and 1,024 bytes
  pub up_to_E10 : (k : Kind) (fs : List Bytes)
      → PermittedUnder UpToE10 k fs ↔ (FitAll IsIdentity (fields_of k) fs × T (paired k fs) × T (attributed k fs) × (length (record_of k fs) ≤ 1024))
  -- today: the same, but for the unsigned key of a module
  pub today : (k : Kind) (fs : List Bytes) → Permitted k fs ↔ (PermittedUnder UpToE10 k fs × (UnsignedModule k fs → ⊥))
  -- demand 2 for the call that is told the rules: 0 exactly for a record that they permit
  pub exactly : Holds read_under.Post
      (λ κs a r s. (r.no ≡ 0) ↔ ((k : Kind) × (fs : List Bytes) × BuiltUnder a.0 (kinds_from a.1.0 a.1.1.0) a.1.1.1.0.now k fs))
  -- what today's rules accept the earlier ones accept with the same fields
  pub earlier : (ks : List Kind) (s : Bytes) (k : Kind) (fs : List Bytes) → read_of ks s ≡ accepted k fs → read_under UpToE10 ks s ≡ accepted k fs
  -- what they refuse is refused as before
  pub refused_before : (ks : List Kind) (s : Bytes) (n i : ℕ) → read_under UpToE10 ks s ≡ refused n i → read_of ks s ≡ refused n i
  -- 28 exactly for the unsigned key of a module that they accept
  pub ended : (ks : List Kind) (s : Bytes)
      → (answer (read_of ks s) ≡ module_unsigned) ↔ ((k : Kind) × (fs : List Bytes) × (read_under UpToE10 ks s ≡ accepted k fs) × UnsignedModule k fs)
