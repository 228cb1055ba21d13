-- The table of the eight kinds: document 01, "Seven kinds of record", and document 02, E1; STS 600-4-2, clauses 7.1 to 7.5.
-- Assumes nothing.
use Rattle.std.specs.Prelude.{ℕ, Bool, false, cond, ◌||◌, List, [], ◌∷◌}
use Prim.Native.Char.{code}
use Rattle.text.specs.Text.{Bytes, ascii, same, one_of, TextType, Ident, Timestamp, Point, Sig, Mac, Print, Protected, Hex}

pub data Kind : Type 0 where
  SMMAN SMID KMCID ECDSA ECDH REQ RESP KEY : Kind

-- what a field holds: a text, printable characters, an identity of one of some kinds, or nothing in place of that
pub data Field : Type 0 where
  Text : TextType → Field
  Printable : Field
  Identity : List Kind → Field
  OrEmpty : Field → Field

abbrev pub name : Kind → Bytes
name SMMAN = ascii "SMMAN.1"
name SMID = ascii "SMID.1"
name KMCID = ascii "KMCID.1"
name ECDSA = ascii "PK.ECDSA.1"
name ECDH = ascii "PK.ECDH.1"
name REQ = ascii "VKLOAD.REQ.1"
name RESP = ascii "VKLOAD.RESP.1"
name KEY = ascii "KEY.1"

abbrev pub mark : Kind → ℕ
mark SMMAN = code ":"
mark SMID = code ":"
mark KMCID = code ":"
mark ECDSA = code "|"
mark ECDH = code "|"
mark REQ = code "|"
mark RESP = code "|"
mark KEY = code "|"

-- Manufacturer, MID, GNT, Fingerprint
abbrev pub identity_fields : List Field
identity_fields = Text Ident ∷ Text Ident ∷ Text Timestamp ∷ Text Print ∷ []

-- Subject, Q, Expiry, Issuer, Signature
abbrev pub pubkey_fields : List Kind → List Field
pubkey_fields subjects =
    Identity subjects ∷ Text Point ∷ Text Timestamp ∷ OrEmpty (Identity (SMMAN ∷ [])) ∷ OrEmpty (Text Sig) ∷ []

-- the request: ID_SM, ID_KMC, TVP, HWID, FWID, QE, MacTag; the response: ID_KMC, ID_SM, TVP, MacTag; the wrapped key: Nonce, Attributes,
-- ProtectedKey
abbrev pub fields_of : Kind → List Field
fields_of SMMAN = identity_fields
fields_of SMID = identity_fields
fields_of KMCID = identity_fields
fields_of ECDSA = pubkey_fields (SMMAN ∷ [])
fields_of ECDH = pubkey_fields (SMID ∷ KMCID ∷ [])
fields_of REQ = Identity (SMID ∷ []) ∷ Identity (KMCID ∷ []) ∷ Text Timestamp ∷ Text Ident ∷ Text Ident ∷ Text Point ∷ Text Mac ∷ []
fields_of RESP = Identity (KMCID ∷ []) ∷ Identity (SMID ∷ []) ∷ Text Timestamp ∷ Text Mac ∷ []
fields_of KEY = Text (Hex 24) ∷ Printable ∷ Text Protected ∷ []

-- the kinds that an identity call reads, those that a record call reads, and the public keys and the wrapped keys among these
abbrev pub identity_kinds : List Kind
identity_kinds = SMMAN ∷ SMID ∷ KMCID ∷ []

abbrev pub record_kinds : List Kind
record_kinds = ECDSA ∷ ECDH ∷ REQ ∷ RESP ∷ KEY ∷ []

abbrev pub pubkey_kinds : List Kind
pubkey_kinds = ECDSA ∷ ECDH ∷ []

abbrev pub key_kinds : List Kind
key_kinds = KEY ∷ []

abbrev pub all_kinds : List Kind
all_kinds = SMMAN ∷ SMID ∷ KMCID ∷ ECDSA ∷ ECDH ∷ REQ ∷ RESP ∷ KEY ∷ []

-- k is one of ks (no two kinds have one name)
abbrev pub among : Kind → List Kind → Bool
among k [] = false
among k (j ∷ ks) = same (name k) (name j) || among k ks

-- ---- what a record, or an identity in one, is called

abbrev pub is_mark : ℕ → Bool
is_mark c = one_of (ascii ":|") c

-- what stands before the first mark, whichever that is
abbrev pub title : Bytes → Bytes
title [] = []
title (c ∷ s) = cond (is_mark c) [] (c ∷ title s)
