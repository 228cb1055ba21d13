-- The fields of 003's records are permitted, so their records are built, and read.
-- Assumes nothing.
use mathlib.Core.Path.{refl}
use mathlib.Core.Logic.{inl, inr}
use mathlib.Core.List.{List}
use lib.Dec.{T}
use Rattle.text.specs.Text.{Bytes, looks, number_from, is_digits, is_alphanumeric, is_ident, is_timestamp, is_hex, is_point, is_printable, is_protected, is_octet}
use Rattle.text.specs.Base16.{check_text}
use Rattle.format.specs.Kinds.{Kind, SMMAN, SMID, KMCID, ECDSA, ECDH, REQ, RESP, KEY, among}
use Rattle.format.specs.Attributes.{is_card, are_attributes}
use Rattle.format.specs.Build.{with_check, record_of, Fits, FitAll, PermittedOver, NeverIdentity, IsIdentity, PermittedUnder, Permitted, Built}
use Rattle.format.specs.declared.Rules.TheVariants.{UpToE10, Today}
use Rattle.promises.specs.Worked.{manufacturer_id_fields, manufacturer_id, module_id_fields, module_id, centre_id_fields, centre_id, manufacturer_key_fields, module_key_fields, centre_key_fields, request_fields, response_fields, key_attributes, key_fields, fields_of_worked, unsigned_key_fields, unsigned_module_fields, later_id_fields, later_key_fields}

-- an identity whose fields are texts as the table says
pub names_permitted : (I : Kind → Bytes → Type 0) → PermittedOver Today I SMMAN manufacturer_id_fields × PermittedOver Today I SMID module_id_fields × PermittedOver Today I KMCID centre_id_fields
    × PermittedOver Today I KMCID later_id_fields
unfolding FitAll Fits record_of with_check check_text manufacturer_id_fields module_id_fields centre_id_fields later_id_fields is_ident is_timestamp looks number_from is_hex
names_permitted I = (
  record { fit = (tt, (tt, (tt, (tt, tt)))); both = tt; attributes = tt; signs = tt; short = tt },
  record { fit = (tt, (tt, (tt, (tt, tt)))); both = tt; attributes = tt; signs = tt; short = tt },
  record { fit = (tt, (tt, (tt, (tt, tt)))); both = tt; attributes = tt; signs = tt; short = tt },
  record { fit = (tt, (tt, (tt, (tt, tt)))); both = tt; attributes = tt; signs = tt; short = tt },
)

is_man : IsIdentity SMMAN manufacturer_id
unfolding IsIdentity manufacturer_id
is_man = (manufacturer_id_fields, record { of-kind = tt; permitted = (names_permitted NeverIdentity).0; built = refl })

pub is_sm : IsIdentity SMID module_id
unfolding IsIdentity module_id
is_sm = (module_id_fields, record { of-kind = tt; permitted = (names_permitted NeverIdentity).1; built = refl })

pub is_kmc : IsIdentity KMCID centre_id
unfolding IsIdentity centre_id
is_kmc = (centre_id_fields, record { of-kind = tt; permitted = (names_permitted NeverIdentity).2; built = refl })

is_later : IsIdentity KMCID (record_of KMCID later_id_fields)
unfolding IsIdentity
is_later = (later_id_fields, record { of-kind = tt; permitted = (names_permitted NeverIdentity).3; built = refl })

pub permitted : (k : Kind) → Permitted k (fields_of_worked k)
unfolding FitAll Fits manufacturer_id module_id centre_id record_of with_check check_text fields_of_worked manufacturer_id_fields module_id_fields centre_id_fields manufacturer_key_fields module_key_fields request_fields response_fields key_attributes key_fields is_ident is_timestamp looks number_from is_digits is_alphanumeric is_hex is_point is_printable is_protected is_octet is_card are_attributes
permitted SMMAN = (names_permitted IsIdentity).0
permitted SMID = (names_permitted IsIdentity).1
permitted KMCID = (names_permitted IsIdentity).2
permitted ECDSA = record { fit = ((SMMAN, tt, is_man), (tt, (tt, (inr (SMMAN, tt, is_man), (inr tt, tt))))); both = tt; attributes = tt; signs = tt; short = tt }
permitted ECDH = record { fit = ((SMID, tt, is_sm), (tt, (tt, (inr (SMMAN, tt, is_man), (inr tt, tt))))); both = tt; attributes = tt; signs = tt; short = tt }
permitted REQ = record { fit = ((SMID, tt, is_sm), ((KMCID, tt, is_kmc), (tt, (tt, (tt, (tt, (tt, tt))))))); both = tt; attributes = tt; signs = tt; short = tt }
permitted KEY = record { fit = (tt, (tt, (tt, tt))); both = tt; attributes = tt; signs = tt; short = tt }
permitted RESP = record { fit = ((KMCID, tt, is_kmc), ((SMID, tt, is_sm), (tt, (tt, tt)))); both = tt; attributes = tt; signs = tt; short = tt }

pub unsigned : Permitted ECDSA unsigned_key_fields × Permitted ECDH centre_key_fields
unfolding FitAll Fits record_of with_check check_text manufacturer_id_fields manufacturer_id centre_id_fields centre_id manufacturer_key_fields unsigned_key_fields centre_key_fields is_timestamp looks number_from is_hex is_point
unsigned = (
  record { fit = ((SMMAN, tt, is_man), (tt, (tt, (inl tt, (inl tt, tt))))); both = tt; attributes = tt; signs = tt; short = tt },
  record { fit = ((KMCID, tt, is_kmc), (tt, (tt, (inl tt, (inl tt, tt))))); both = tt; attributes = tt; signs = tt; short = tt },
)

-- the unsigned key of a module, under the rules up to E10
pub unsigned-module : PermittedUnder UpToE10 ECDH unsigned_module_fields
unfolding FitAll Fits record_of with_check check_text manufacturer_id_fields module_id_fields module_id module_key_fields unsigned_module_fields is_timestamp looks number_from is_hex is_point
unsigned-module = record { fit = ((SMID, tt, is_sm), (tt, (tt, (inl tt, (inl tt, tt))))); both = tt; attributes = tt; signs = tt; short = tt }

pub later_permitted : Permitted ECDH later_key_fields
unfolding FitAll Fits record_of with_check check_text centre_id_fields later_id_fields centre_key_fields later_key_fields is_timestamp looks number_from is_hex is_point
later_permitted = record { fit = ((KMCID, tt, is_later), (tt, (tt, (inl tt, (inl tt, tt))))); both = tt; attributes = tt; signs = tt; short = tt }

-- a record of permitted fields, as a record of one of the kinds ks
pub built_of : (ks : List Kind) (k : Kind) (fs : List Bytes) → T (among k ks) → Permitted k fs → Built ks (record_of k fs) k fs
built_of ks k fs t p = record { of-kind = t; permitted = p; built = refl }
