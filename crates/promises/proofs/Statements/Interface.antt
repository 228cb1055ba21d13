-- Which definition each function of the C interface answers by, and what it leaves in a lent output or behind a pointer: an equation for
-- each, on everything that comes back, so that no function can stand under another one's name, and none has two answers.
-- Assumes nothing.
use Rattle.exports.proofs.check.obscurlane_crc_begin.Reads as crc_begin
use Rattle.exports.proofs.check.obscurlane_crc_add.Reads as crc_add
use Rattle.exports.proofs.check.obscurlane_crc_end.Reads as crc_end
use Rattle.exports.proofs.check.obscurlane_crc_of.Reads as crc-of
use Rattle.exports.proofs.types.obscurlane_is_ident.Reads as is-ident
use Rattle.exports.proofs.types.obscurlane_is_timestamp.Reads as is-timestamp
use Rattle.exports.proofs.dates.obscurlane_moment_of.Reads as moment-of
use Rattle.exports.proofs.dates.obscurlane_expiry_of.Reads as expiry-of
use Rattle.exports.proofs.types.obscurlane_is_hex.Reads as is-hex
use Rattle.exports.proofs.types.obscurlane_is_point.Reads as is-point
use Rattle.exports.proofs.types.obscurlane_is_sig.Reads as is-sig
use Rattle.exports.proofs.types.obscurlane_is_mac.Reads as is-mac
use Rattle.exports.proofs.types.obscurlane_is_print.Reads as is-print
use Rattle.exports.proofs.records.obscurlane_read_identity.Reads as read-identity
use Rattle.exports.proofs.records.obscurlane_read_record.Reads as read-record
use Rattle.exports.proofs.records.obscurlane_identity_field.Reads as identity-field
use Rattle.exports.proofs.records.obscurlane_record_field.Reads as record-field
use Rattle.exports.proofs.records.obscurlane_attribute.Reads as attribute
use Rattle.exports.proofs.records.obscurlane_attribute_named.Reads as attribute-named
use Rattle.exports.proofs.writing.obscurlane_build.Reads as build
use Rattle.exports.proofs.writing.obscurlane_shared_info.Reads as shared-info
use Rattle.exports.proofs.writing.obscurlane_module_text.Reads as module-text
use Rattle.exports.proofs.writing.obscurlane_centre_text.Reads as centre-text
use Rattle.exports.proofs.walking.obscurlane_text_item.Reads as text-item
use Rattle.exports.proofs.walking.obscurlane_line_at.Reads as line-at
use Rattle.exports.proofs.walking.obscurlane_reader_new.Reads as reader_new
use Rattle.exports.proofs.walking.obscurlane_reader_step.Reads as reader-step
use Rattle.exports.proofs.walking.obscurlane_count.Reads as count
use Rattle.exports.proofs.walking.obscurlane_newer.Reads as newer
use Rattle.exports.proofs.hashes.obscurlane_sha384_begin.Reads as sha384_begin
use Rattle.exports.proofs.hashes.obscurlane_sha384_add.Reads as sha384_add
use Rattle.exports.proofs.hashes.obscurlane_sha384_end.Reads as sha384_end
use Rattle.exports.proofs.hashes.obscurlane_sha384_of.Reads as sha384-of
use Rattle.exports.proofs.hashes.obscurlane_check_fingerprint.Reads as check-fingerprint
use Rattle.exports.proofs.hashes.obscurlane_write_fingerprint.Reads as write-fingerprint
use Rattle.exports.proofs.confirming.obscurlane_hmac_of.Reads as hmac-of
use Rattle.exports.proofs.confirming.obscurlane_confirm_request.Reads as confirm-request
use Rattle.exports.proofs.confirming.obscurlane_confirm_response.Reads as confirm-response
use Rattle.exports.proofs.trailing.obscurlane_sha1_begin.Reads as sha1_begin
use Rattle.exports.proofs.trailing.obscurlane_sha1_add.Reads as sha1_add
use Rattle.exports.proofs.trailing.obscurlane_sha1_end.Reads as sha1_end
use Rattle.exports.proofs.trailing.obscurlane_sha1_of.Reads as sha1-of
use Rattle.exports.proofs.trailing.obscurlane_read_trailed.Reads as read-trailed
use Rattle.exports.proofs.trailing.obscurlane_trailed_at.Reads as trailed-at
use Rattle.exports.proofs.trailing.obscurlane_count_trailed.Reads as count-trailed
use Rattle.exports.proofs.trailing.obscurlane_write_trailed.Reads as write-trailed
use Rattle.exports.proofs.mailing.obscurlane_write_mail.Reads as write-mail
use Rattle.exports.proofs.mailing.obscurlane_read_mail.Reads as read-mail
use Rattle.exports.proofs.filing.obscurlane_make_cabinet.Reads as make-cabinet
use Rattle.exports.proofs.filing.obscurlane_check_cabinet.Reads as check-cabinet
use Rattle.exports.proofs.filing.obscurlane_count_keys.Reads as count-keys
use Rattle.exports.proofs.filing.obscurlane_put_key.Reads as put-key
use Rattle.exports.proofs.filing.obscurlane_remove_key.Reads as remove_key
use Rattle.exports.proofs.filing.obscurlane_admit.Reads as admit-request
use Rattle.exports.proofs.filing.obscurlane_find_key.Reads as find-key
use Rattle.std.specs.Prelude.{length}
use Rattle.crc16.specs.Crc.{begin, add, end, crc_of}
use Rattle.text.specs.Text.{is_ident, is_timestamp, is_hex, is_point, is_sig, is_mac, is_print}
use Rattle.text.specs.Seconds.{moment_of}
use Rattle.format.specs.Kinds.{key_kinds}
use Rattle.format.specs.Read.{read_identity, read_of, read_record}
use Rattle.format.specs.Files.{line_at, walk}
use Rattle.reading.specs.Reading.{answer_of}
use Rattle.fields.specs.Fields.{place_said}
use Rattle.fields.specs.Attributes.{cards_said, number_named, attribute_place}
use Rattle.put.specs.Made.{says, leaves}
use Rattle.building.specs.Building.{build as built}
use Rattle.items.specs.Place.{item_place}
use Rattle.agreement.specs.Texts.{shared_info, module_text, centre_text}
use Rattle.files.specs.Walk.{line_said, next_of, totals_of}
use Rattle.newer.specs.Newer.{newer as newest, choice_said}
use Rattle.sha384.specs.Sha384.{sha384}
use Rattle.sha384.specs.State.{begun, added, ended}
use Rattle.fingerprint.specs.Fingerprint.{check_fingerprint, write_fingerprint}
use Rattle.hmac.specs.Hmac.{hmac}
use Rattle.sha_1.specs.Sha1.{sha1}
use Rattle.sha_1.specs.State as short
use Rattle.trailed.specs.Trailed.{read_trailed, trailed_at, count_trailed, write_trailed}
use Rattle.mail.specs.Mail.{write_mail, read_mail}
use Rattle.expiry.specs.Expiry.{expiry_of}
use Rattle.shelf.specs.Cabinet.{make_cabinet, put_key, remove_key, admit, find_key}
use Rattle.cabinet.specs.Cabinet.{filed, checked, counted, found_in}
use Rattle.confirm.specs.Confirm.{says_of, mac_key_of, kek_of, confirm_request, confirm_response}
use Rattle.exports.specs.Exports.{found}
use Rattle.promises.specs.Calls.{Answers, Leaves}

pub record Interface : Type 0 where
  -- the check
  pub crc_begin : Answers crc_begin.Post (λ κs a. begin)
  pub crc_add : Answers crc_add.Post (λ κs a. add a.0 a.1.0)
  pub crc_end : Answers crc_end.Post (λ κs a. end a.0)
  pub crc-of : Answers crc-of.Post (λ κs a. crc_of a.0.now)
  -- text types
  pub is-ident : Answers is-ident.Post (λ κs a. is_ident a.0.now)
  pub is-timestamp : Answers is-timestamp.Post (λ κs a. is_timestamp a.0.now)
  pub moment-of : Answers moment-of.Post (λ κs a. moment_of a.0.now)
  pub expiry-of : Answers expiry-of.Post (λ κs a. expiry_of a.0.now)
  pub is-hex : Answers is-hex.Post (λ κs a. is_hex a.0 a.1.0.now)
  pub is-point : Answers is-point.Post (λ κs a. is_point a.0.now)
  pub is-sig : Answers is-sig.Post (λ κs a. is_sig a.0.now)
  pub is-mac : Answers is-mac.Post (λ κs a. is_mac a.0.now)
  pub is-print : Answers is-print.Post (λ κs a. is_print a.0.now)
  -- reading, one field, and one attribute
  pub read-identity : Answers read-identity.Post (λ κs a. answer_of (read_identity a.0.now))
  pub read-record : Answers read-record.Post (λ κs a. answer_of (read_record a.0.now))
  pub identity-field : Answers identity-field.Post (λ κs a. place_said (read_identity a.0.now) a.1.0)
  pub record-field : Answers record-field.Post (λ κs a. place_said (read_record a.0.now) a.1.0)
  pub attribute : Answers attribute.Post (λ κs a. attribute_place (read_of key_kinds a.0.now) a.1.0)
  pub attribute-named : Answers attribute-named.Post
      (λ κs a. attribute_place (read_of key_kinds a.0.now) (number_named a.1.0.now (cards_said (read_of key_kinds a.0.now))))
  -- building
  pub build_said : Answers build.Post (λ κs a. says (built a.0.now a.1.0.now a.1.1.0.now (length a.1.1.1.0.now)))
  pub build_out : Leaves build.Post (λ κs s. s.1.1.1.0.now)
      (λ κs a. leaves (built a.0.now a.1.0.now a.1.1.0.now (length a.1.1.1.0.now)) a.1.1.1.0.now)
  -- the key agreement texts, and an item of one
  pub shared_info_said : Answers shared-info.Post (λ κs a. says (shared_info a.0.now (length a.1.0.now)))
  pub shared_info_out : Leaves shared-info.Post (λ κs s. s.1.0.now) (λ κs a. leaves (shared_info a.0.now (length a.1.0.now)) a.1.0.now)
  pub module_text_said : Answers module-text.Post (λ κs a. says (module_text a.0.now (length a.1.0.now)))
  pub module_text_out : Leaves module-text.Post (λ κs s. s.1.0.now) (λ κs a. leaves (module_text a.0.now (length a.1.0.now)) a.1.0.now)
  pub centre_text_said : Answers centre-text.Post (λ κs a. says (centre_text a.0.now (length a.1.0.now)))
  pub centre_text_out : Leaves centre-text.Post (λ κs s. s.1.0.now) (λ κs a. leaves (centre_text a.0.now (length a.1.0.now)) a.1.0.now)
  pub text-item : Answers text-item.Post (λ κs a. item_place a.0.now a.1.0)
  -- files: a reader is its place, and goes on to the next one
  pub line-at : Answers line-at.Post (λ κs a. found (line_said (line_at a.0.now a.1.0)))
  pub reader_new : Answers reader_new.Post (λ κs a. 0)
  pub reader_step_said : Answers reader-step.Post (λ κs a. found (line_said (line_at a.0.now a.1.0.now)))
  pub reader_step_place : Leaves reader-step.Post (λ κs s. s.1.0.now) (λ κs a. next_of (line_said (line_at a.0.now a.1.0.now)))
  pub count : Answers count.Post (λ κs a. totals_of (walk a.0.now))
  -- the newer key
  pub newer : Answers newer.Post (λ κs a. choice_said (newest a.0.now a.1.0.now))
  -- SHA-384, and the Fingerprint of a public key
  pub sha384_begin : Answers sha384_begin.Post (λ κs a. begun)
  pub sha384_add : Answers sha384_add.Post (λ κs a. added a.0 a.1.0.now)
  pub sha384_end : Answers sha384_end.Post (λ κs a. record { bytes = ended a.0 })
  pub sha384-of : Answers sha384-of.Post (λ κs a. record { bytes = sha384 a.0.now })
  pub check-fingerprint : Answers check-fingerprint.Post (λ κs a. check_fingerprint a.0.now)
  pub write_fingerprint_said : Answers write-fingerprint.Post (λ κs a. says (write_fingerprint a.0.now (length a.1.0.now)))
  pub write_fingerprint_out : Leaves write-fingerprint.Post (λ κs s. s.1.0.now) (λ κs a. leaves (write_fingerprint a.0.now (length a.1.0.now)) a.1.0.now)
  -- HMAC, and confirmation tags
  pub hmac-of : Answers hmac-of.Post (λ κs a. record { bytes = hmac a.0.now a.1.0.now })
  pub confirm_request_said : Answers confirm-request.Post (λ κs a. says_of (confirm_request a.0.now a.1.0.now (length a.1.1.0.now) (length a.1.1.1.0.now)))
  pub confirm_request_mac_key : Leaves confirm-request.Post (λ κs s. s.1.1.0.now)
      (λ κs a. leaves (mac_key_of (confirm_request a.0.now a.1.0.now (length a.1.1.0.now) (length a.1.1.1.0.now))) a.1.1.0.now)
  pub confirm_request_kek : Leaves confirm-request.Post (λ κs s. s.1.1.1.0.now)
      (λ κs a. leaves (kek_of (confirm_request a.0.now a.1.0.now (length a.1.1.0.now) (length a.1.1.1.0.now))) a.1.1.1.0.now)
  pub confirm-response : Answers confirm-response.Post (λ κs a. confirm_response a.0.now a.1.0.now a.1.1.0.now)
  -- SHA-1, and manufacturers' record files
  pub sha1_begin : Answers sha1_begin.Post (λ κs a. short.begun)
  pub sha1_add : Answers sha1_add.Post (λ κs a. short.added a.0 a.1.0.now)
  pub sha1_end : Answers sha1_end.Post (λ κs a. record { bytes = short.ended a.0 })
  pub sha1-of : Answers sha1-of.Post (λ κs a. record { bytes = sha1 a.0.now })
  pub read-trailed : Answers read-trailed.Post (λ κs a. answer_of (read_trailed a.0.now))
  pub trailed-at : Answers trailed-at.Post (λ κs a. found (line_said (trailed_at a.0.now a.1.0)))
  pub count-trailed : Answers count-trailed.Post (λ κs a. count_trailed a.0.now)
  pub write_trailed_said : Answers write-trailed.Post (λ κs a. says (write_trailed a.0.now (length a.1.0.now)))
  pub write_trailed_out : Leaves write-trailed.Post (λ κs s. s.1.0.now) (λ κs a. leaves (write_trailed a.0.now (length a.1.0.now)) a.1.0.now)
  -- records by mail
  pub write_mail_said : Answers write-mail.Post (λ κs a. says (write_mail a.0.now (length a.1.0.now)))
  pub write_mail_out : Leaves write-mail.Post (λ κs s. s.1.0.now) (λ κs a. leaves (write_mail a.0.now (length a.1.0.now)) a.1.0.now)
  pub read_mail_said : Answers read-mail.Post (λ κs a. says (read_mail a.0.now (length a.1.0.now)))
  pub read_mail_out : Leaves read-mail.Post (λ κs s. s.1.0.now) (λ κs a. leaves (read_mail a.0.now (length a.1.0.now)) a.1.0.now)
  -- the key cabinet
  pub make_cabinet_said : Answers make-cabinet.Post (λ κs a. filed (make_cabinet a.0.now))
  pub make_cabinet_bytes : Leaves make-cabinet.Post (λ κs s. s.0.now) (λ κs a. (make_cabinet a.0.now).bytes)
  pub check-cabinet : Answers check-cabinet.Post (λ κs a. checked a.0.now)
  pub count-keys : Answers count-keys.Post (λ κs a. counted a.0.now)
  pub put_key_said : Answers put-key.Post (λ κs a. filed (put_key a.0.now a.1.0.now))
  pub put_key_bytes : Leaves put-key.Post (λ κs s. s.0.now) (λ κs a. (put_key a.0.now a.1.0.now).bytes)
  pub remove_key_said : Answers remove_key.Post (λ κs a. filed (remove_key a.0.now a.1.0.now))
  pub remove_key_bytes : Leaves remove_key.Post (λ κs s. s.0.now) (λ κs a. (remove_key a.0.now a.1.0.now).bytes)
  pub admit_said : Answers admit-request.Post (λ κs a. filed (admit a.0.now a.1.0.now))
  pub admit_bytes : Leaves admit-request.Post (λ κs s. s.0.now) (λ κs a. (admit a.0.now a.1.0.now).bytes)
  pub find-key : Answers find-key.Post (λ κs a. found_in (find_key a.0.now a.1.0.now))
