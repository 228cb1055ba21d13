-- The table of kinds by numbers: document 01, "Seven kinds of record", and document 02, E1. A kind is the number of its row, from 0, and a field type
-- the number of its code.
-- Assumes nothing.
use Rattle.std.specs.Prelude.{ℕ, ◌-◌, ◌<◌, ◌≡◌, Bool, true, false, cond, ◌&&◌, ◌||◌, List, [], ◌∷◌, map, length, take, drop, get_or, eqb}
use Rattle.std.proofs.Math.Option.{Option, none, some}
use Rattle.text.specs.Text.{Bytes, same, Ident, Timestamp, Point, Sig, Mac, Print, Protected, Hex}
use Rattle.format.specs.Kinds.{Kind, SMMAN, SMID, KMCID, ECDSA, ECDH, REQ, RESP, KEY, Field, Text, Printable, Identity, OrEmpty, name, mark, fields_of, record_kinds, pubkey_kinds, all_kinds, among}

-- ---- rows

abbrev pub row_of : Kind → ℕ
row_of SMMAN = 0
row_of SMID = 1
row_of KMCID = 2
row_of ECDSA = 3
row_of ECDH = 4
row_of REQ = 5
row_of RESP = 6
row_of KEY = 7

abbrev pub row_count : ℕ
row_count = length all_kinds

-- where there is no kind: a number that no row will ever take
abbrev pub missing_row : ℕ
missing_row = 255

-- the row of the kind that was found
abbrev pub row_for : Option Kind → ℕ
row_for none = missing_row
row_for (some k) = row_of k

-- what f says of the kind of a row, and z for a row that is not there
unfoldable pub of_row {ℓ} : {A : Type ℓ} → (Kind → A) → A → ℕ → A
of_row f z row = get_or (map f all_kinds) row z

abbrev pub kind_of : ℕ → Option Kind
kind_of row = of_row some none row

abbrev pub mark_of : ℕ → ℕ
mark_of row = of_row mark 0 row

abbrev pub fields_at : ℕ → List Field
fields_at row = of_row fields_of [] row

abbrev pub count_of : ℕ → ℕ
count_of row = of_row (λ k. length (fields_of k)) 0 row

abbrev pub is_pubkey : ℕ → Bool
is_pubkey row = of_row (λ k. among k pubkey_kinds) false row

-- ---- kinds by name, and by a range of rows

abbrev pub is_kind : Bytes → ℕ → Kind → Bool
is_kind t m k = same t (name k) && eqb m (mark k)

abbrev pub named : List Kind → Bytes → Option Kind
named [] t = none
named (k ∷ ks) t = cond (same t (name k)) (some k) (named ks t)

-- the record kinds from row `from` to before row `to`
abbrev pub kinds_from : ℕ → ℕ → List Kind
kinds_from from to = drop (from - row_of ECDSA) (take (to - row_of ECDSA) record_kinds)

-- ---- field types by their codes

abbrev pub field_types : List Field
field_types =
    Text Ident
    ∷ Text Timestamp
    ∷ Text Print
    ∷ Text Point
    ∷ Text Mac
    ∷ OrEmpty (Text Sig)
    ∷ Identity (SMMAN ∷ [])
    ∷ Identity (SMID ∷ [])
    ∷ Identity (KMCID ∷ [])
    ∷ Identity (SMID ∷ KMCID ∷ [])
    ∷ OrEmpty (Identity (SMMAN ∷ []))
    ∷ Text (Hex 24)
    ∷ Printable
    ∷ Text Protected
    ∷ []

-- the type of a code; IDENT for a number that is no code
unfoldable pub field_type : ℕ → Field
field_type code = get_or field_types code (Text Ident)

-- the code of the type of field j, from 0, of a row; that of IDENT where there is no such field
pub record TypeOf (row j code : ℕ) : Type 0 where
  pub means : field_type code ≡ get_or (fields_at row) j (Text Ident)
  pub listed : code < length field_types

-- ---- what a field type says

-- it is an identity, or may be one
abbrev pub is_identity : Field → Bool
is_identity (Text t) = false
is_identity Printable = false
is_identity (Identity ks) = true
is_identity (OrEmpty t) = is_identity t

abbrev pub may_be_empty : Field → Bool
may_be_empty (Text t) = false
may_be_empty Printable = false
may_be_empty (Identity ks) = false
may_be_empty (OrEmpty t) = true

-- the kinds of identity that it permits
abbrev pub permitted : Field → List Kind
permitted (Text t) = []
permitted Printable = []
permitted (Identity ks) = ks
permitted (OrEmpty t) = permitted t

-- one of ks stands in this row
abbrev pub row_among : ℕ → List Kind → Bool
row_among row [] = false
row_among row (k ∷ ks) = eqb row (row_of k) || row_among row ks
