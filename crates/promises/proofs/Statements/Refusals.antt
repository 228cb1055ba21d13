-- One numbered refusal: for each call that can refuse, the numbers that it can give, and it gives no other. Document 01, "Numbers given
-- back"; docs/CONTRACTS.md prints the same lists. A function of the C interface answers by the definition of its call (Interface.antt), so
-- the call's list is its own.
-- Assumes nothing.
use Rattle.std.specs.Prelude.{ℕ, List, [], ◌∷◌, T}
use Rattle.text.specs.Text.{one_of}
use Rattle.files.specs.Walk.{number_of}
use Rattle.frame.proofs.check_no.Reads as check-no
use Rattle.reading.proofs.read_identity.Reads as read-identity
use Rattle.reading.proofs.read_record.Reads as read-record
use Rattle.reading.proofs.read_under.Reads as read_under
use Rattle.reading.proofs.read_of.Reads as read-of
use Rattle.reading.proofs.judge.Reads as judge
use Rattle.fields.proofs.identity_place.Reads as identity-place
use Rattle.fields.proofs.record_place.Reads as record-place
use Rattle.fields.proofs.identity_field.Reads as identity-field
use Rattle.fields.proofs.record_field.Reads as record-field
use Rattle.fields.proofs.attribute_place.Reads as attribute-place
use Rattle.fields.proofs.attribute_named_place.Reads as attribute-named-place
use Rattle.fields.proofs.attribute.Reads as attribute
use Rattle.fields.proofs.attribute_named.Reads as attribute-named
use Rattle.building.proofs.build.Reads as build
use Rattle.items.proofs.item_place.Reads as item-place
use Rattle.items.proofs.text_item.Reads as text-item
use Rattle.agreement.proofs.shared_info.Reads as shared-info
use Rattle.agreement.proofs.module_text.Reads as module-text
use Rattle.agreement.proofs.centre_text.Reads as centre-text
use Rattle.files.proofs.line_at.Reads as line-at
use Rattle.files.proofs.step_from.Reads as step_from
use Rattle.files.proofs.last_line.Reads as last_line
use Rattle.trailed.proofs.read_trailed.Reads as read-trailed
use Rattle.trailed.proofs.trailed_at.Reads as trailed-at
use Rattle.trailed.proofs.write_trailed.Reads as write-trailed
use Rattle.mail.proofs.write_mail.Reads as write-mail
use Rattle.mail.proofs.read_mail.Reads as read-mail
use Rattle.cabinet.proofs.make_cabinet.Reads as make-cabinet
use Rattle.cabinet.proofs.check_cabinet.Reads as check-cabinet
use Rattle.cabinet.proofs.count_keys.Reads as count-keys
use Rattle.cabinet.proofs.put_key.Reads as put-key
use Rattle.cabinet.proofs.remove_key.Reads as remove_key
use Rattle.cabinet.proofs.admit.Reads as admit
use Rattle.cabinet.proofs.key_place.Reads as key-place
use Rattle.cabinet.proofs.find_key.Reads as find-key
use Rattle.list_text.proofs.write_list.Reads as write-list
use Rattle.newer.proofs.newer_of.Reads as newer-of
use Rattle.expiry.proofs.expiry_under.Reads as expiry-under
use Rattle.expiry.proofs.expiry_of.Reads as expiry-of
use Rattle.newer.proofs.newer.Reads as newer
use Rattle.fingerprint.proofs.check_fingerprint.Reads as check-fingerprint
use Rattle.fingerprint.proofs.write_fingerprint.Reads as write-fingerprint
use Rattle.confirm.proofs.confirm_request.Reads as confirm-request
use Rattle.confirm.proofs.confirm_response.Reads as confirm-response

-- the number that `number` picks of an answer is one of ns, whatever the contract Q allows
abbrev pub GivesOnly : {K : Type 0} {A R S : K → Type 0} → ((κs : K) → A κs → R κs → S κs → Type 0) → ((κs : K) → R κs → S κs → ℕ) → List ℕ → Type 0
GivesOnly {K} {A} {R} {S} Q number ns = (κs : K) (a : A κs) (r : R κs) (s : S κs) → Q κs a r s → T (one_of ns (number κs r s))

-- an identity has no identity in it, and no Issuer and Signature
abbrev pub of_identities : List ℕ
of_identities = 0 ∷ 1 ∷ 2 ∷ 3 ∷ 4 ∷ 5 ∷ 6 ∷ []

abbrev pub of_records : List ℕ
of_records = 0 ∷ 1 ∷ 2 ∷ 3 ∷ 4 ∷ 5 ∷ 6 ∷ 7 ∷ 8 ∷ 9 ∷ 14 ∷ 28 ∷ []

-- a public key has no attributes
abbrev pub of_pubkeys : List ℕ
of_pubkeys = 0 ∷ 1 ∷ 2 ∷ 3 ∷ 4 ∷ 5 ∷ 6 ∷ 7 ∷ 8 ∷ 9 ∷ 28 ∷ []

-- a wrapped key has no identity in it, and no Issuer and Signature
abbrev pub of_keys : List ℕ
of_keys = 0 ∷ 1 ∷ 2 ∷ 3 ∷ 4 ∷ 5 ∷ 6 ∷ 14 ∷ []

-- a request and a response have no Issuer and Signature, and no attributes
abbrev pub of_loads : List ℕ
of_loads = 0 ∷ 1 ∷ 2 ∷ 3 ∷ 4 ∷ 5 ∷ 6 ∷ 7 ∷ 9 ∷ []

abbrev pub of_texts : List ℕ
of_texts = 0 ∷ 1 ∷ 2 ∷ 3 ∷ 4 ∷ 5 ∷ 6 ∷ 7 ∷ 9 ∷ 10 ∷ []

pub record Refusals : Type 0 where
  pub check-no : GivesOnly check-no.Post (λ κs r s. r) (0 ∷ 3 ∷ 4 ∷ [])
  -- reading
  pub read-identity : GivesOnly read-identity.Post (λ κs r s. r.no) of_identities
  pub read-record : GivesOnly read-record.Post (λ κs r s. r.no) of_records
  pub read_under : GivesOnly read_under.Post (λ κs r s. r.no) of_records
  pub read-of : GivesOnly read-of.Post (λ κs r s. r.no) of_records
  pub judge : GivesOnly judge.Post (λ κs r s. r.no) (0 ∷ 2 ∷ 6 ∷ 7 ∷ 8 ∷ 9 ∷ 14 ∷ 28 ∷ [])
  -- one field
  pub identity-place : GivesOnly identity-place.Post (λ κs r s. r.no) (12 ∷ of_identities)
  pub record-place : GivesOnly record-place.Post (λ κs r s. r.no) (12 ∷ of_records)
  pub identity-field : GivesOnly identity-field.Post (λ κs r s. s.1.1.0.now) (12 ∷ of_identities)
  pub record-field : GivesOnly record-field.Post (λ κs r s. s.1.1.0.now) (12 ∷ of_records)
  -- one attribute
  pub attribute-place : GivesOnly attribute-place.Post (λ κs r s. r.no) (12 ∷ of_keys)
  pub attribute-named-place : GivesOnly attribute-named-place.Post (λ κs r s. r.no) (12 ∷ of_keys)
  pub attribute : GivesOnly attribute.Post (λ κs r s. s.1.1.0.now) (12 ∷ of_keys)
  pub attribute-named : GivesOnly attribute-named.Post (λ κs r s. s.1.1.0.now) (12 ∷ of_keys)
  -- building
  pub build : GivesOnly build.Post (λ κs r s. r.no) (0 ∷ 1 ∷ 2 ∷ 5 ∷ 6 ∷ 7 ∷ 8 ∷ 9 ∷ 10 ∷ 14 ∷ 28 ∷ [])
  -- texts and their items
  pub shared-info : GivesOnly shared-info.Post (λ κs r s. r.no) of_texts
  pub module-text : GivesOnly module-text.Post (λ κs r s. r.no) of_texts
  pub centre-text : GivesOnly centre-text.Post (λ κs r s. r.no) of_texts
  pub item-place : GivesOnly item-place.Post (λ κs r s. r.no) (0 ∷ 12 ∷ [])
  pub text-item : GivesOnly text-item.Post (λ κs r s. s.1.1.0.now) (0 ∷ 12 ∷ [])
  -- files; a finished file has number 0
  pub line-at : GivesOnly line-at.Post (λ κs r s. number_of r) (11 ∷ of_records)
  pub step_from : GivesOnly step_from.Post (λ κs r s. number_of r) (11 ∷ of_records)
  pub last_line : GivesOnly last_line.Post (λ κs r s. number_of r) (0 ∷ 11 ∷ [])
  -- manufacturers' files: no other call gives 19 or 20
  pub read-trailed : GivesOnly read-trailed.Post (λ κs r s. r.no) (19 ∷ 20 ∷ of_records)
  pub trailed-at : GivesOnly trailed-at.Post (λ κs r s. number_of r) (11 ∷ 19 ∷ 20 ∷ of_records)
  pub write-trailed : GivesOnly write-trailed.Post (λ κs r s. r.no) (10 ∷ of_records)
  -- records by mail: no other call gives 21 or 22
  pub write-mail : GivesOnly write-mail.Post (λ κs r s. r.no) (10 ∷ of_records)
  pub read-mail : GivesOnly read-mail.Post (λ κs r s. r.no) (10 ∷ 21 ∷ 22 ∷ of_records)
  -- the key cabinet: no other call gives 23 to 27
  pub make-cabinet : GivesOnly make-cabinet.Post (λ κs r s. r.no) (0 ∷ 23 ∷ [])
  pub check-cabinet : GivesOnly check-cabinet.Post (λ κs r s. r.no) (0 ∷ 23 ∷ [])
  pub count-keys : GivesOnly count-keys.Post (λ κs r s. r.no) (0 ∷ 23 ∷ [])
  pub put-key : GivesOnly put-key.Post (λ κs r s. r.no) (23 ∷ 24 ∷ 25 ∷ of_pubkeys)
  pub remove_key : GivesOnly remove_key.Post (λ κs r s. r.no) (23 ∷ 26 ∷ of_identities)
  pub admit : GivesOnly admit.Post (λ κs r s. r.no) (23 ∷ 26 ∷ 27 ∷ of_loads)
  pub key-place : GivesOnly key-place.Post (λ κs r s. r.no) (23 ∷ 26 ∷ of_identities)
  pub find-key : GivesOnly find-key.Post (λ κs r s. s.1.1.0.now) (23 ∷ 26 ∷ of_identities)
  pub write-list : GivesOnly write-list.Post (λ κs r s. r.no) (0 ∷ 10 ∷ [])
  -- the newer key
  pub newer-of : GivesOnly newer-of.Post (λ κs r s. r.no) (13 ∷ of_pubkeys)
  pub newer : GivesOnly newer.Post (λ κs r s. s.1.1.0.now) (13 ∷ of_pubkeys)
  pub expiry-under : GivesOnly expiry-under.Post (λ κs r s. r.no) of_pubkeys
  pub expiry-of : GivesOnly expiry-of.Post (λ κs r s. r.no) of_pubkeys
  -- the Fingerprint of a public key: no other call gives 15
  pub check-fingerprint : GivesOnly check-fingerprint.Post (λ κs r s. r.no) (15 ∷ of_pubkeys)
  pub write-fingerprint : GivesOnly write-fingerprint.Post (λ κs r s. r.no) (10 ∷ of_pubkeys)
  -- confirmation tags: no other call gives 16, 17 or 18
  pub confirm-request : GivesOnly confirm-request.Post (λ κs r s. r.no) (16 ∷ 10 ∷ 18 ∷ of_loads)
  pub confirm-response : GivesOnly confirm-response.Post (λ κs r s. r.no) (16 ∷ 17 ∷ 18 ∷ of_loads)
