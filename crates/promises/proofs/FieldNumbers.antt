-- With which numbers each call names a field, from the laws of format.
-- Assumes nothing.
use Prim.Native.Nat.{ℕ}
use mathlib.Core.Path.{◌≡◌, refl}
use mathlib.Core.List.{List, [], ◌∷◌}
use lib.Dec.{ltb}
use lib.ListN.{length}
use Rattle.text.specs.Text.{Bytes, one_of}
use Rattle.format.specs.Kinds.{Kind, REQ, RESP, identity_kinds, record_kinds, pubkey_kinds, key_kinds}
use Rattle.format.specs.Read.{place, nobody, read_identity, read_under, read_of, read_record}
use Rattle.format.specs.declared.Rules.{Rules}
use Rattle.format.specs.declared.Rules.TheVariants.{Today}
use Rattle.format.proofs.Refusals.{naming, Names, judged_names, over_names}
use Rattle.table.specs.Table.{kinds_from}
use Rattle.fields.specs.Attributes.{attribute_no}
use Rattle.items.specs.Items.{lv_concat}
use Rattle.agreement.specs.Texts.{shared_items, module_items, centre_items, shared_info, module_text, centre_text}
use Rattle.fingerprint.specs.Fingerprint.{check_fingerprint, write_fingerprint}
use Rattle.confirm.specs.Confirm.{confirm_request, confirm_response}
use Rattle.trailed.specs.Trailed.{record_in, read_trailed, write_trailed}
use Rattle.mail.specs.Mail.{write_mail}
use Rattle.promises.proofs.Statements.FieldNumbers.{FieldNumbers}
use Rattle.promises.proofs.Answered.{answered, wanted_answered, attribute_answered, given_answered, judge_answered, build_answered, line_answered, last_answered, trailed_answered, mail_answered, make_answered, cabinet_answered, put_answered, remove_answered, admit_answered, find_answered, newer_answered, expiry_answered, check_answered, request_answered, response_answered}

identity_names : (s : Bytes) → Names (read_identity s)
unfolding read_identity
identity_names s = over_names Today nobody identity_kinds s

under_names : (rules : Rules) (ks : List Kind) (s : Bytes) → Names (read_under rules ks s)
unfolding read_under
under_names rules ks s = over_names rules read_identity ks s

read_names : (ks : List Kind) (s : Bytes) → Names (read_of ks s)
read_names = under_names Today

record_names : (s : Bytes) → Names (read_record s)
unfolding read_record
record_names s = read_names record_kinds s

-- n and i are the number and the field's number of such an answer
abbrev NamesAt : ℕ → ℕ → Type 0
NamesAt n i = one_of naming n ≡ ltb 0 i

trailed_names : (s : Bytes) → Names (read_trailed s)
trailed_names s = trailed_answered NamesAt refl s (record_names (record_in s)) refl refl

attribute_names : (s : Bytes) (wanted : ℕ) → NamesAt (attribute_no (read_of key_kinds s) wanted) (place (read_of key_kinds s))
attribute_names s wanted = attribute_answered NamesAt refl (read_of key_kinds s) wanted (read_names key_kinds s) refl

pub field_numbers : FieldNumbers
unfolding shared_info module_text centre_text check_fingerprint write_fingerprint confirm_request confirm_response write_trailed write_mail
field_numbers = record {
  read-identity = λ κs a r s p. rw p (answered NamesAt refl (read_identity a.0.now) (identity_names a.0.now));
  read-record = λ κs a r s p. rw p (answered NamesAt refl (read_record a.0.now) (record_names a.0.now));
  read_under = λ κs a r s p. rw p (answered NamesAt refl (read_under a.0 (kinds_from a.1.0 a.1.1.0) a.1.1.1.0.now) (under_names a.0 (kinds_from a.1.0 a.1.1.0) a.1.1.1.0.now));
  read-of = λ κs a r s p. rw p (answered NamesAt refl (read_of (kinds_from a.0 a.1.0) a.1.1.0.now) (read_names (kinds_from a.0 a.1.0) a.1.1.0.now));
  judge = λ κs a r s p. rw p (judge_answered NamesAt refl (judged_names Today read_identity) refl a.0 a.1.0.now a.1.1.0.now a.1.1.1.0.now);
  identity-place = λ κs a r s p. rw p.said (wanted_answered NamesAt refl (read_identity a.0.now) a.1.0 (identity_names a.0.now) refl);
  record-place = λ κs a r s p. rw p.said (wanted_answered NamesAt refl (read_record a.0.now) a.1.0 (record_names a.0.now) refl);
  identity-field = λ κs a r s p. rw (p.its_no, p.its_field) (wanted_answered NamesAt refl (read_identity a.0.now) a.1.0 (identity_names a.0.now) refl);
  record-field = λ κs a r s p. rw (p.its_no, p.its_field) (wanted_answered NamesAt refl (read_record a.0.now) a.1.0 (record_names a.0.now) refl);
  attribute-place = λ κs a r s p. rw p.said (attribute_names a.0.now a.1.0);
  attribute-named-place = λ κs a r s p. rw p.said (attribute_names a.0.now _);
  attribute = λ κs a r s p. rw (p.its_no, p.its_field) (attribute_names a.0.now a.1.0);
  attribute-named = λ κs a r s p. rw (p.its_no, p.its_field) (attribute_names a.0.now _);
  build = λ κs a r s p. rw p.said (build_answered NamesAt refl (judged_names Today read_identity) refl refl refl refl a.0.now a.1.0.now a.1.1.0.now (length a.1.1.1.0.now));
  shared-info = λ κs a r s p. rw p.said (given_answered NamesAt refl (λ k fs. lv_concat (shared_items fs)) (length a.1.0.now) (read_of (REQ ∷ []) a.0.now) (read_names (REQ ∷ []) a.0.now) refl);
  module-text = λ κs a r s p. rw p.said (given_answered NamesAt refl (λ k fs. lv_concat (module_items fs)) (length a.1.0.now) (read_of (REQ ∷ []) a.0.now) (read_names (REQ ∷ []) a.0.now) refl);
  centre-text = λ κs a r s p. rw p.said (given_answered NamesAt refl (λ k fs. lv_concat (centre_items fs)) (length a.1.0.now) (read_of (REQ ∷ []) a.0.now) (read_names (REQ ∷ []) a.0.now) refl);
  line-at = λ κs a r s p. rw p (line_answered NamesAt refl read_record record_names refl a.0.now a.1.0);
  step_from = λ κs a r s p. rw p (line_answered NamesAt refl read_record record_names refl a.0.now a.1.0);
  last_line = λ κs a r s p. rw p (last_answered NamesAt refl refl a.0 a.1.0);
  read-trailed = λ κs a r s p. rw p (answered NamesAt refl (read_trailed a.0.now) (trailed_names a.0.now));
  trailed-at = λ κs a r s p. rw p (line_answered NamesAt refl read_trailed trailed_names refl a.0.now a.1.0);
  write-trailed = λ κs a r s p. rw p.said (given_answered NamesAt refl _ (length a.1.0.now) (read_record a.0.now) (record_names a.0.now) refl);
  write-mail = λ κs a r s p. rw p.said (given_answered NamesAt refl _ (length a.1.0.now) (read_record a.0.now) (record_names a.0.now) refl);
  read-mail = λ κs a r s p. rw p.said (mail_answered NamesAt refl a.0.now (length a.1.0.now) read_names refl refl refl);
  make-cabinet = λ κs a r s p. rw p.said (make_answered NamesAt refl refl a.0.now);
  check-cabinet = λ κs a r s p. rw p (cabinet_answered NamesAt refl refl a.0.now);
  put-key = λ κs a r s p. rw p.said (put_answered NamesAt refl refl (read_names pubkey_kinds) refl refl a.0.now a.1.0.now);
  remove_key = λ κs a r s p. rw p.said (remove_answered NamesAt refl refl identity_names refl a.0.now a.1.0.now);
  admit = λ κs a r s p. rw p.said (admit_answered NamesAt refl refl (read_names (REQ ∷ [])) refl refl a.0.now a.1.0.now);
  key-place = λ κs a r s p. rw p.said (find_answered NamesAt refl refl identity_names refl a.0.now a.1.0.now);
  find-key = λ κs a r s p. rw (p.its_no, p.its_field) (find_answered NamesAt refl refl identity_names refl a.0.now a.1.0.now);
  newer-of = λ κs a r s p. rw p (newer_answered NamesAt refl refl identity_names (read_names pubkey_kinds) a.0.now a.1.0.now);
  newer = λ κs a r s p. rw (p.number_so, p.field_so) (newer_answered NamesAt refl refl identity_names (read_names pubkey_kinds) a.0.now a.1.0.now);
  expiry-under = λ κs a r s p. rw p (expiry_answered NamesAt refl a.0 (under_names a.0 pubkey_kinds) a.1.0.now);
  expiry-of = λ κs a r s p. rw p (expiry_answered NamesAt refl Today (read_names pubkey_kinds) a.0.now);
  check-fingerprint = λ κs a r s p. rw p (check_answered NamesAt refl (read_of pubkey_kinds a.0.now) (read_names pubkey_kinds a.0.now) refl);
  write-fingerprint = λ κs a r s p. rw p.said (given_answered NamesAt refl _ (length a.1.0.now) (read_of pubkey_kinds a.0.now) (read_names pubkey_kinds a.0.now) refl);
  confirm-request = λ κs a r s p. rw p.said (request_answered NamesAt refl a.0.now (length a.1.1.0.now) (length a.1.1.1.0.now) (read_of (REQ ∷ []) a.1.0.now) (read_names (REQ ∷ []) a.1.0.now) refl refl refl);
  confirm-response = λ κs a r s p. rw p (response_answered NamesAt refl a.0.now (read_of (REQ ∷ []) a.1.0.now) (read_of (RESP ∷ []) a.1.1.0.now) (read_names (REQ ∷ []) a.1.0.now) (read_names (RESP ∷ []) a.1.1.0.now) refl refl refl);
}
