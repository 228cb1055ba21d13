-- No call expects its caller to have looked first: demand 1. `Pre` is what a call's `requires` says of its arguments, which the checker makes
-- from the code as it makes `Post`; here it holds of any arguments, for every public call and for every function of the C interface. The
-- checker makes no `Pre` for the two calls of a reader, a struct that holds a reference: that they have no `requires` is seen by .ci/contracts.
-- Assumes nothing.
use Rattle.crc16.proofs.Crc.begin.Reads as begun
use Rattle.crc16.proofs.Crc.add.Reads as add
use Rattle.crc16.proofs.Crc.end.Reads as end
use Rattle.crc16.proofs.crc_of.Reads as crc-of
use Rattle.text.proofs.are_same.Reads as are-same
use Rattle.text.proofs.is_ident.Reads as is-ident
use Rattle.text.proofs.is_timestamp.Reads as is-timestamp
use Rattle.text.proofs.is_later.Reads as is_later
use Rattle.text.proofs.moment_of.Reads as moment-of
use Rattle.text.proofs.seconds_bytes.Reads as seconds-bytes
use Rattle.text.proofs.is_hex.Reads as is-hex
use Rattle.text.proofs.is_point.Reads as is-point
use Rattle.text.proofs.is_sig.Reads as is-sig
use Rattle.text.proofs.is_mac.Reads as is-mac
use Rattle.text.proofs.is_print.Reads as is-print
use Rattle.text.proofs.is_digits.Reads as is-digits
use Rattle.text.proofs.is_alphanumeric.Reads as is-alphanumeric
use Rattle.text.proofs.is_octet.Reads as is-octet
use Rattle.text.proofs.is_printable.Reads as is-printable
use Rattle.text.proofs.is_protected.Reads as is-protected
use Rattle.text.proofs.hex_digit.Reads as hex-digit
use Rattle.text.proofs.hex_value.Reads as hex-value
use Rattle.text.proofs.check_text.Reads as check-text
use Rattle.table.proofs.is_called.Reads as is-called
use Rattle.table.proofs.mark_of.Reads as mark_of
use Rattle.table.proofs.count_of.Reads as count-of
use Rattle.table.proofs.type_of.Reads as type-of
use Rattle.table.proofs.is_pubkey.Reads as is-pubkey
use Rattle.table.proofs.identity_kind.Reads as identity-kind
use Rattle.table.proofs.record_kind.Reads as record-kind
use Rattle.table.proofs.kind_named.Reads as kind-named
use Rattle.table.proofs.is_identity.Reads as is-identity
use Rattle.table.proofs.may_be_empty.Reads as may-be-empty
use Rattle.table.proofs.does_permit.Reads as does-permit
use Rattle.frame.proofs.title_of.Reads as title-of
use Rattle.frame.proofs.mark_after.Reads as mark-after
use Rattle.frame.proofs.next_mark.Reads as next-mark
use Rattle.frame.proofs.part_start.Reads as part-start
use Rattle.frame.proofs.part.Reads as part
use Rattle.frame.proofs.body_of.Reads as body_of
use Rattle.frame.proofs.check_no.Reads as check-no
use Rattle.places.proofs.places_of.Reads as places_of
use Rattle.places.proofs.part_at.Reads as part-at
use Rattle.places.proofs.field_at.Reads as field-at
use Rattle.cards.proofs.are_attributes.Reads as are-attributes
use Rattle.reading.proofs.refuse.Reads as refuse_reading
use Rattle.reading.proofs.read_identity.Reads as read-identity
use Rattle.reading.proofs.judge.Reads as judge
use Rattle.reading.proofs.read_under.Reads as read_under
use Rattle.reading.proofs.read_of.Reads as read-of
use Rattle.reading.proofs.read_record.Reads as read-record
use Rattle.fields.proofs.identity_place.Reads as identity-place
use Rattle.fields.proofs.record_place.Reads as record-place
use Rattle.fields.proofs.identity_field.Reads as identity-field
use Rattle.fields.proofs.record_field.Reads as record-field
use Rattle.fields.proofs.attribute_place.Reads as attribute-place
use Rattle.fields.proofs.attribute_named_place.Reads as attribute-named-place
use Rattle.fields.proofs.attribute.Reads as attribute
use Rattle.fields.proofs.attribute_named.Reads as attribute-named
use Rattle.put.proofs.put.Reads as put
use Rattle.put.proofs.put_byte.Reads as put_byte
use Rattle.put.proofs.put_hex.Reads as put-hex
use Rattle.put.proofs.put_decoded.Reads as put-decoded
use Rattle.put.proofs.refuse.Reads as refuse
use Rattle.sha384.proofs.Sha384.begin.Reads as sha384_begin
use Rattle.sha384.proofs.Sha384.add.Reads as sha384_add
use Rattle.sha384.proofs.Sha384.end.Reads as sha384_end
use Rattle.sha384.proofs.sha384_of.Reads as sha384-of
use Rattle.sha_1.proofs.Sha1.begin.Reads as sha1_begin
use Rattle.sha_1.proofs.Sha1.add.Reads as sha1_add
use Rattle.sha_1.proofs.Sha1.end.Reads as sha1_end
use Rattle.sha_1.proofs.sha1_of.Reads as sha1-of
use Rattle.hmac.proofs.begin.Reads as hmac_begin
use Rattle.hmac.proofs.end.Reads as hmac_end
use Rattle.hmac.proofs.hmac_of.Reads as hmac-of
use Rattle.items.proofs.item_place.Reads as item-place
use Rattle.items.proofs.text_item.Reads as text-item
use Rattle.building.proofs.build.Reads as build
use Rattle.agreement.proofs.shared_info.Reads as shared-info
use Rattle.agreement.proofs.module_text.Reads as module-text
use Rattle.agreement.proofs.centre_text.Reads as centre-text
use Rattle.files.proofs.line_at.Reads as line-at
use Rattle.files.proofs.count.Reads as count
use Rattle.files.proofs.step_from.Reads as step_from
use Rattle.files.proofs.line_end.Reads as line-end
use Rattle.files.proofs.last_line.Reads as last_line
use Rattle.trailed.proofs.read_trailed.Reads as read-trailed
use Rattle.trailed.proofs.trailed_at.Reads as trailed-at
use Rattle.trailed.proofs.count_trailed.Reads as count-trailed
use Rattle.trailed.proofs.write_trailed.Reads as write-trailed
use Rattle.mail.proofs.write_mail.Reads as write-mail
use Rattle.mail.proofs.read_mail.Reads as read-mail
use Rattle.cabinet.proofs.make_cabinet.Reads as make-cabinet
use Rattle.cabinet.proofs.check_cabinet.Reads as check-cabinet
use Rattle.cabinet.proofs.count_keys.Reads as count-keys
use Rattle.cabinet.proofs.put_key.Reads as put-key
use Rattle.cabinet.proofs.remove_key.Reads as remove_key
use Rattle.cabinet.proofs.admit.Reads as admit
use Rattle.cabinet.proofs.key_place.Reads as key-place
use Rattle.cabinet.proofs.find_key.Reads as find-key
use Rattle.list_text.proofs.write_list.Reads as write-list
use Rattle.list_printing.proofs.print_list.Reads as print-list
use Rattle.subjects.proofs.field_in.Reads as field_in
use Rattle.subjects.proofs.are_alike.Reads as are-alike
use Rattle.fingerprint.proofs.check_fingerprint.Reads as check-fingerprint
use Rattle.fingerprint.proofs.write_fingerprint.Reads as write-fingerprint
use Rattle.confirm.proofs.confirm_request.Reads as confirm-request
use Rattle.confirm.proofs.confirm_response.Reads as confirm-response
use Rattle.newer.proofs.newer_of.Reads as newer-of
use Rattle.expiry.proofs.expiry_under.Reads as expiry-under
use Rattle.expiry.proofs.expiry_of.Reads as expiry-of
use Rattle.newer.proofs.newer.Reads as newer
use Rattle.exports.proofs.check.obscurlane_crc_begin.Reads as c_crc_begin
use Rattle.exports.proofs.check.obscurlane_crc_add.Reads as c_crc_add
use Rattle.exports.proofs.check.obscurlane_crc_end.Reads as c_crc_end
use Rattle.exports.proofs.check.obscurlane_crc_of.Reads as c_crc_of
use Rattle.exports.proofs.types.obscurlane_is_ident.Reads as c_is_ident
use Rattle.exports.proofs.types.obscurlane_is_timestamp.Reads as c_is_timestamp
use Rattle.exports.proofs.dates.obscurlane_moment_of.Reads as c_moment_of
use Rattle.exports.proofs.dates.obscurlane_expiry_of.Reads as c_expiry_of
use Rattle.exports.proofs.types.obscurlane_is_hex.Reads as c_is_hex
use Rattle.exports.proofs.types.obscurlane_is_point.Reads as c_is_point
use Rattle.exports.proofs.types.obscurlane_is_sig.Reads as c_is_sig
use Rattle.exports.proofs.types.obscurlane_is_mac.Reads as c_is_mac
use Rattle.exports.proofs.types.obscurlane_is_print.Reads as c_is_print
use Rattle.exports.proofs.records.obscurlane_read_identity.Reads as c_read_identity
use Rattle.exports.proofs.records.obscurlane_read_record.Reads as c_read_record
use Rattle.exports.proofs.records.obscurlane_identity_field.Reads as c_identity_field
use Rattle.exports.proofs.records.obscurlane_record_field.Reads as c_record_field
use Rattle.exports.proofs.records.obscurlane_attribute.Reads as c_attribute
use Rattle.exports.proofs.records.obscurlane_attribute_named.Reads as c_attribute_named
use Rattle.exports.proofs.writing.obscurlane_build.Reads as c_build
use Rattle.exports.proofs.writing.obscurlane_shared_info.Reads as c_shared_info
use Rattle.exports.proofs.writing.obscurlane_module_text.Reads as c_module_text
use Rattle.exports.proofs.writing.obscurlane_centre_text.Reads as c_centre_text
use Rattle.exports.proofs.walking.obscurlane_text_item.Reads as c_text_item
use Rattle.exports.proofs.walking.obscurlane_line_at.Reads as c_line_at
use Rattle.exports.proofs.walking.obscurlane_reader_new.Reads as c_reader_new
use Rattle.exports.proofs.walking.obscurlane_reader_step.Reads as c_reader_step
use Rattle.exports.proofs.walking.obscurlane_count.Reads as c_count
use Rattle.exports.proofs.walking.obscurlane_newer.Reads as c_newer
use Rattle.exports.proofs.hashes.obscurlane_sha384_begin.Reads as c_sha384_begin
use Rattle.exports.proofs.hashes.obscurlane_sha384_add.Reads as c_sha384_add
use Rattle.exports.proofs.hashes.obscurlane_sha384_end.Reads as c_sha384_end
use Rattle.exports.proofs.hashes.obscurlane_sha384_of.Reads as c_sha384_of
use Rattle.exports.proofs.hashes.obscurlane_check_fingerprint.Reads as c_check_fingerprint
use Rattle.exports.proofs.hashes.obscurlane_write_fingerprint.Reads as c_write_fingerprint
use Rattle.exports.proofs.confirming.obscurlane_hmac_of.Reads as c_hmac_of
use Rattle.exports.proofs.confirming.obscurlane_confirm_request.Reads as c_confirm_request
use Rattle.exports.proofs.confirming.obscurlane_confirm_response.Reads as c_confirm_response
use Rattle.exports.proofs.trailing.obscurlane_sha1_begin.Reads as c_sha1_begin
use Rattle.exports.proofs.trailing.obscurlane_sha1_add.Reads as c_sha1_add
use Rattle.exports.proofs.trailing.obscurlane_sha1_end.Reads as c_sha1_end
use Rattle.exports.proofs.trailing.obscurlane_sha1_of.Reads as c_sha1_of
use Rattle.exports.proofs.trailing.obscurlane_read_trailed.Reads as c_read_trailed
use Rattle.exports.proofs.trailing.obscurlane_trailed_at.Reads as c_trailed_at
use Rattle.exports.proofs.trailing.obscurlane_count_trailed.Reads as c_count_trailed
use Rattle.exports.proofs.trailing.obscurlane_write_trailed.Reads as c_write_trailed
use Rattle.exports.proofs.mailing.obscurlane_write_mail.Reads as c_write_mail
use Rattle.exports.proofs.mailing.obscurlane_read_mail.Reads as c_read_mail
use Rattle.exports.proofs.filing.obscurlane_make_cabinet.Reads as c_make_cabinet
use Rattle.exports.proofs.filing.obscurlane_check_cabinet.Reads as c_check_cabinet
use Rattle.exports.proofs.filing.obscurlane_count_keys.Reads as c_count_keys
use Rattle.exports.proofs.filing.obscurlane_put_key.Reads as c_put_key
use Rattle.exports.proofs.filing.obscurlane_remove_key.Reads as c_remove_key
use Rattle.exports.proofs.filing.obscurlane_admit.Reads as c_admit
use Rattle.exports.proofs.filing.obscurlane_find_key.Reads as c_find_key

-- the call whose `requires` is P takes any arguments a, whatever the lifetimes κs
abbrev pub Takes : {K : Type 0} {A : K → Type 0} → ((κs : K) → A κs → Type 0) → Type 0
Takes {K} {A} P = (κs : K) (a : A κs) → P κs a

pub record Total : Type 0 where
  -- crc16
  pub begun : Takes begun.Pre
  pub add : Takes add.Pre
  pub end : Takes end.Pre
  pub crc-of : Takes crc-of.Pre
  -- text
  pub are-same : Takes are-same.Pre
  pub is-ident : Takes is-ident.Pre
  pub is-timestamp : Takes is-timestamp.Pre
  pub is_later : Takes is_later.Pre
  pub moment-of : Takes moment-of.Pre
  pub seconds-bytes : Takes seconds-bytes.Pre
  pub is-hex : Takes is-hex.Pre
  pub is-point : Takes is-point.Pre
  pub is-sig : Takes is-sig.Pre
  pub is-mac : Takes is-mac.Pre
  pub is-print : Takes is-print.Pre
  pub is-digits : Takes is-digits.Pre
  pub is-alphanumeric : Takes is-alphanumeric.Pre
  pub is-octet : Takes is-octet.Pre
  pub is-printable : Takes is-printable.Pre
  pub is-protected : Takes is-protected.Pre
  pub hex-digit : Takes hex-digit.Pre
  pub hex-value : Takes hex-value.Pre
  pub check-text : Takes check-text.Pre
  -- table
  pub is-called : Takes is-called.Pre
  pub mark_of : Takes mark_of.Pre
  pub count-of : Takes count-of.Pre
  pub type-of : Takes type-of.Pre
  pub is-pubkey : Takes is-pubkey.Pre
  pub identity-kind : Takes identity-kind.Pre
  pub record-kind : Takes record-kind.Pre
  pub kind-named : Takes kind-named.Pre
  pub is-identity : Takes is-identity.Pre
  pub may-be-empty : Takes may-be-empty.Pre
  pub does-permit : Takes does-permit.Pre
  -- frame
  pub title-of : Takes title-of.Pre
  pub mark-after : Takes mark-after.Pre
  pub next-mark : Takes next-mark.Pre
  pub part-start : Takes part-start.Pre
  pub part : Takes part.Pre
  pub body_of : Takes body_of.Pre
  pub check-no : Takes check-no.Pre
  -- places
  pub places_of : Takes places_of.Pre
  pub part-at : Takes part-at.Pre
  pub field-at : Takes field-at.Pre
  -- cards
  pub are-attributes : Takes are-attributes.Pre
  -- reading
  pub refuse_reading : Takes refuse_reading.Pre
  pub read-identity : Takes read-identity.Pre
  pub judge : Takes judge.Pre
  pub read_under : Takes read_under.Pre
  pub read-of : Takes read-of.Pre
  pub read-record : Takes read-record.Pre
  -- fields
  pub identity-place : Takes identity-place.Pre
  pub record-place : Takes record-place.Pre
  pub identity-field : Takes identity-field.Pre
  pub record-field : Takes record-field.Pre
  pub attribute-place : Takes attribute-place.Pre
  pub attribute-named-place : Takes attribute-named-place.Pre
  pub attribute : Takes attribute.Pre
  pub attribute-named : Takes attribute-named.Pre
  -- put
  pub put : Takes put.Pre
  pub put_byte : Takes put_byte.Pre
  pub put-hex : Takes put-hex.Pre
  pub put-decoded : Takes put-decoded.Pre
  pub refuse : Takes refuse.Pre
  -- sha384
  pub sha384_begin : Takes sha384_begin.Pre
  pub sha384_add : Takes sha384_add.Pre
  pub sha384_end : Takes sha384_end.Pre
  pub sha384-of : Takes sha384-of.Pre
  -- sha1
  pub sha1_begin : Takes sha1_begin.Pre
  pub sha1_add : Takes sha1_add.Pre
  pub sha1_end : Takes sha1_end.Pre
  pub sha1-of : Takes sha1-of.Pre
  -- hmac
  pub hmac_begin : Takes hmac_begin.Pre
  pub hmac_end : Takes hmac_end.Pre
  pub hmac-of : Takes hmac-of.Pre
  -- items
  pub item-place : Takes item-place.Pre
  pub text-item : Takes text-item.Pre
  -- building
  pub build : Takes build.Pre
  -- agreement
  pub shared-info : Takes shared-info.Pre
  pub module-text : Takes module-text.Pre
  pub centre-text : Takes centre-text.Pre
  -- files
  pub line-at : Takes line-at.Pre
  pub count : Takes count.Pre
  pub step_from : Takes step_from.Pre
  pub line-end : Takes line-end.Pre
  pub last_line : Takes last_line.Pre
  -- trailed
  pub read-trailed : Takes read-trailed.Pre
  pub trailed-at : Takes trailed-at.Pre
  pub count-trailed : Takes count-trailed.Pre
  pub write-trailed : Takes write-trailed.Pre
  -- mail
  pub write-mail : Takes write-mail.Pre
  pub read-mail : Takes read-mail.Pre
  -- cabinet
  pub make-cabinet : Takes make-cabinet.Pre
  pub check-cabinet : Takes check-cabinet.Pre
  pub count-keys : Takes count-keys.Pre
  pub put-key : Takes put-key.Pre
  pub remove_key : Takes remove_key.Pre
  pub admit : Takes admit.Pre
  pub key-place : Takes key-place.Pre
  pub find-key : Takes find-key.Pre
  -- list_text
  pub write-list : Takes write-list.Pre
  -- list_printing
  pub print-list : Takes print-list.Pre
  -- subjects
  pub field_in : Takes field_in.Pre
  pub are-alike : Takes are-alike.Pre
  -- fingerprint
  pub check-fingerprint : Takes check-fingerprint.Pre
  pub write-fingerprint : Takes write-fingerprint.Pre
  -- confirm
  pub confirm-request : Takes confirm-request.Pre
  pub confirm-response : Takes confirm-response.Pre
  -- newer
  pub newer-of : Takes newer-of.Pre
  -- expiry
  pub expiry-under : Takes expiry-under.Pre
  pub expiry-of : Takes expiry-of.Pre
  pub newer : Takes newer.Pre
  -- the C interface
  pub c_crc_begin : Takes c_crc_begin.Pre
  pub c_crc_add : Takes c_crc_add.Pre
  pub c_crc_end : Takes c_crc_end.Pre
  pub c_crc_of : Takes c_crc_of.Pre
  pub c_is_ident : Takes c_is_ident.Pre
  pub c_is_timestamp : Takes c_is_timestamp.Pre
  pub c_moment_of : Takes c_moment_of.Pre
  pub c_expiry_of : Takes c_expiry_of.Pre
  pub c_is_hex : Takes c_is_hex.Pre
  pub c_is_point : Takes c_is_point.Pre
  pub c_is_sig : Takes c_is_sig.Pre
  pub c_is_mac : Takes c_is_mac.Pre
  pub c_is_print : Takes c_is_print.Pre
  pub c_read_identity : Takes c_read_identity.Pre
  pub c_read_record : Takes c_read_record.Pre
  pub c_identity_field : Takes c_identity_field.Pre
  pub c_record_field : Takes c_record_field.Pre
  pub c_attribute : Takes c_attribute.Pre
  pub c_attribute_named : Takes c_attribute_named.Pre
  pub c_build : Takes c_build.Pre
  pub c_shared_info : Takes c_shared_info.Pre
  pub c_module_text : Takes c_module_text.Pre
  pub c_centre_text : Takes c_centre_text.Pre
  pub c_text_item : Takes c_text_item.Pre
  pub c_line_at : Takes c_line_at.Pre
  pub c_reader_new : Takes c_reader_new.Pre
  pub c_reader_step : Takes c_reader_step.Pre
  pub c_count : Takes c_count.Pre
  pub c_newer : Takes c_newer.Pre
  pub c_sha384_begin : Takes c_sha384_begin.Pre
  pub c_sha384_add : Takes c_sha384_add.Pre
  pub c_sha384_end : Takes c_sha384_end.Pre
  pub c_sha384_of : Takes c_sha384_of.Pre
  pub c_check_fingerprint : Takes c_check_fingerprint.Pre
  pub c_write_fingerprint : Takes c_write_fingerprint.Pre
  pub c_hmac_of : Takes c_hmac_of.Pre
  pub c_confirm_request : Takes c_confirm_request.Pre
  pub c_confirm_response : Takes c_confirm_response.Pre
  pub c_sha1_begin : Takes c_sha1_begin.Pre
  pub c_sha1_add : Takes c_sha1_add.Pre
  pub c_sha1_end : Takes c_sha1_end.Pre
  pub c_sha1_of : Takes c_sha1_of.Pre
  pub c_read_trailed : Takes c_read_trailed.Pre
  pub c_trailed_at : Takes c_trailed_at.Pre
  pub c_count_trailed : Takes c_count_trailed.Pre
  pub c_write_trailed : Takes c_write_trailed.Pre
  pub c_write_mail : Takes c_write_mail.Pre
  pub c_read_mail : Takes c_read_mail.Pre
  pub c_make_cabinet : Takes c_make_cabinet.Pre
  pub c_check_cabinet : Takes c_check_cabinet.Pre
  pub c_count_keys : Takes c_count_keys.Pre
  pub c_put_key : Takes c_put_key.Pre
  pub c_remove_key : Takes c_remove_key.Pre
  pub c_admit : Takes c_admit.Pre
  pub c_find_key : Takes c_find_key.Pre
