-- "The field number is 0 where the table names none": document 01, "Numbers given back". For each call that answers with a field number, when
-- it names a field. A function of the C interface answers by the definition of its call (Interface.antt).
-- Assumes nothing.
use Rattle.std.specs.Prelude.{ℕ, ◌≡◌, [], ◌∷◌, ltb}
use Rattle.text.specs.Text.{one_of}
use Rattle.files.specs.Walk.{number_of, field_of}
use Rattle.reading.proofs.read_identity.Reads as read-identity
use Rattle.reading.proofs.read_record.Reads as read-record
use Rattle.reading.proofs.read_under.Reads as read_under
use Rattle.reading.proofs.read_of.Reads as read-of
use Rattle.reading.proofs.judge.Reads as judge
use Rattle.fields.proofs.identity_place.Reads as identity-place
use Rattle.fields.proofs.record_place.Reads as record-place
use Rattle.fields.proofs.identity_field.Reads as identity-field
use Rattle.fields.proofs.record_field.Reads as record-field
use Rattle.fields.proofs.attribute_place.Reads as attribute-place
use Rattle.fields.proofs.attribute_named_place.Reads as attribute-named-place
use Rattle.fields.proofs.attribute.Reads as attribute
use Rattle.fields.proofs.attribute_named.Reads as attribute-named
use Rattle.building.proofs.build.Reads as build
use Rattle.agreement.proofs.shared_info.Reads as shared-info
use Rattle.agreement.proofs.module_text.Reads as module-text
use Rattle.agreement.proofs.centre_text.Reads as centre-text
use Rattle.files.proofs.line_at.Reads as line-at
use Rattle.files.proofs.step_from.Reads as step_from
use Rattle.files.proofs.last_line.Reads as last_line
use Rattle.trailed.proofs.read_trailed.Reads as read-trailed
use Rattle.trailed.proofs.trailed_at.Reads as trailed-at
use Rattle.trailed.proofs.write_trailed.Reads as write-trailed
use Rattle.mail.proofs.write_mail.Reads as write-mail
use Rattle.mail.proofs.read_mail.Reads as read-mail
use Rattle.cabinet.proofs.make_cabinet.Reads as make-cabinet
use Rattle.cabinet.proofs.check_cabinet.Reads as check-cabinet
use Rattle.cabinet.proofs.put_key.Reads as put-key
use Rattle.cabinet.proofs.remove_key.Reads as remove_key
use Rattle.cabinet.proofs.admit.Reads as admit
use Rattle.cabinet.proofs.key_place.Reads as key-place
use Rattle.cabinet.proofs.find_key.Reads as find-key
use Rattle.newer.proofs.newer_of.Reads as newer-of
use Rattle.expiry.proofs.expiry_under.Reads as expiry-under
use Rattle.expiry.proofs.expiry_of.Reads as expiry-of
use Rattle.newer.proofs.newer.Reads as newer
use Rattle.fingerprint.proofs.check_fingerprint.Reads as check-fingerprint
use Rattle.fingerprint.proofs.write_fingerprint.Reads as write-fingerprint
use Rattle.confirm.proofs.confirm_request.Reads as confirm-request
use Rattle.confirm.proofs.confirm_response.Reads as confirm-response

-- a field is named, by its number from 1, exactly with 6, 7 and 9; the field number is 0 with every other number
abbrev pub NamesField : {K : Type 0} {A R S : K → Type 0} → ((κs : K) → A κs → R κs → S κs → Type 0) → ((κs : K) → R κs → S κs → ℕ) → ((κs : K) → R κs → S κs → ℕ) → Type 0
NamesField {K} {A} {R} {S} Q number field =
    (κs : K) (a : A κs) (r : R κs) (s : S κs) → Q κs a r s → one_of (6 ∷ 7 ∷ 9 ∷ []) (number κs r s) ≡ ltb 0 (field κs r s)

pub record FieldNumbers : Type 0 where
  pub read-identity : NamesField read-identity.Post (λ κs r s. r.no) (λ κs r s. r.field)
  pub read-record : NamesField read-record.Post (λ κs r s. r.no) (λ κs r s. r.field)
  pub read_under : NamesField read_under.Post (λ κs r s. r.no) (λ κs r s. r.field)
  pub read-of : NamesField read-of.Post (λ κs r s. r.no) (λ κs r s. r.field)
  pub judge : NamesField judge.Post (λ κs r s. r.no) (λ κs r s. r.field)
  pub identity-place : NamesField identity-place.Post (λ κs r s. r.no) (λ κs r s. r.field)
  pub record-place : NamesField record-place.Post (λ κs r s. r.no) (λ κs r s. r.field)
  pub identity-field : NamesField identity-field.Post (λ κs r s. s.1.1.0.now) (λ κs r s. s.1.1.1.0.now)
  pub record-field : NamesField record-field.Post (λ κs r s. s.1.1.0.now) (λ κs r s. s.1.1.1.0.now)
  pub attribute-place : NamesField attribute-place.Post (λ κs r s. r.no) (λ κs r s. r.field)
  pub attribute-named-place : NamesField attribute-named-place.Post (λ κs r s. r.no) (λ κs r s. r.field)
  pub attribute : NamesField attribute.Post (λ κs r s. s.1.1.0.now) (λ κs r s. s.1.1.1.0.now)
  pub attribute-named : NamesField attribute-named.Post (λ κs r s. s.1.1.0.now) (λ κs r s. s.1.1.1.0.now)
  pub build : NamesField build.Post (λ κs r s. r.no) (λ κs r s. r.field)
  pub shared-info : NamesField shared-info.Post (λ κs r s. r.no) (λ κs r s. r.field)
  pub module-text : NamesField module-text.Post (λ κs r s. r.no) (λ κs r s. r.field)
  pub centre-text : NamesField centre-text.Post (λ κs r s. r.no) (λ κs r s. r.field)
  pub line-at : NamesField line-at.Post (λ κs r s. number_of r) (λ κs r s. field_of r)
  pub step_from : NamesField step_from.Post (λ κs r s. number_of r) (λ κs r s. field_of r)
  pub last_line : NamesField last_line.Post (λ κs r s. number_of r) (λ κs r s. field_of r)
  pub read-trailed : NamesField read-trailed.Post (λ κs r s. r.no) (λ κs r s. r.field)
  pub trailed-at : NamesField trailed-at.Post (λ κs r s. number_of r) (λ κs r s. field_of r)
  pub write-trailed : NamesField write-trailed.Post (λ κs r s. r.no) (λ κs r s. r.field)
  pub write-mail : NamesField write-mail.Post (λ κs r s. r.no) (λ κs r s. r.field)
  pub read-mail : NamesField read-mail.Post (λ κs r s. r.no) (λ κs r s. r.field)
  pub make-cabinet : NamesField make-cabinet.Post (λ κs r s. r.no) (λ κs r s. r.field)
  pub check-cabinet : NamesField check-cabinet.Post (λ κs r s. r.no) (λ κs r s. r.field)
  pub put-key : NamesField put-key.Post (λ κs r s. r.no) (λ κs r s. r.field)
  pub remove_key : NamesField remove_key.Post (λ κs r s. r.no) (λ κs r s. r.field)
  pub admit : NamesField admit.Post (λ κs r s. r.no) (λ κs r s. r.field)
  pub key-place : NamesField key-place.Post (λ κs r s. r.no) (λ κs r s. r.field)
  pub find-key : NamesField find-key.Post (λ κs r s. s.1.1.0.now) (λ κs r s. s.1.1.1.0.now)
  pub newer-of : NamesField newer-of.Post (λ κs r s. r.no) (λ κs r s. r.field)
  pub newer : NamesField newer.Post (λ κs r s. s.1.1.0.now) (λ κs r s. s.1.1.1.0.now)
  pub expiry-under : NamesField expiry-under.Post (λ κs r s. r.no) (λ κs r s. r.field)
  pub expiry-of : NamesField expiry-of.Post (λ κs r s. r.no) (λ κs r s. r.field)
  pub check-fingerprint : NamesField check-fingerprint.Post (λ κs r s. r.no) (λ κs r s. r.field)
  pub write-fingerprint : NamesField write-fingerprint.Post (λ κs r s. r.no) (λ κs r s. r.field)
  pub confirm-request : NamesField confirm-request.Post (λ κs r s. r.no) (λ κs r s. r.field)
  pub confirm-response : NamesField confirm-response.Post (λ κs r s. r.no) (λ κs r s. r.field)
