-- Every public contract determines its call's answer: document 01, "How much each contract says". The statements are about the
-- contracts themselves, as the code has them: `Post` is what a call's `ensures` says of its arguments and its result. One exception is named:
-- `print_list` also answers whether the kernel took the list, which no contract can determine.
-- Assumes nothing.
use Rattle.std.specs.Prelude.{◌≡◌}
use Rattle.std.specs.Borrow.{Bor}
use Rattle.text.specs.Text.{Bytes}
use Rattle.crc16.proofs.Crc.begin.Reads as begun
use Rattle.crc16.proofs.Crc.add.Reads as add
use Rattle.crc16.proofs.Crc.end.Reads as end
use Rattle.crc16.proofs.crc_of.Reads as crc-of
use Rattle.text.proofs.are_same.Reads as are-same
use Rattle.text.proofs.is_ident.Reads as is-ident
use Rattle.text.proofs.is_timestamp.Reads as is-timestamp
use Rattle.text.proofs.is_later.Reads as is_later
use Rattle.text.proofs.moment_of.Reads as moment-of
use Rattle.text.proofs.seconds_bytes.Reads as seconds-bytes
use Rattle.text.proofs.is_hex.Reads as is-hex
use Rattle.text.proofs.is_point.Reads as is-point
use Rattle.text.proofs.is_sig.Reads as is-sig
use Rattle.text.proofs.is_mac.Reads as is-mac
use Rattle.text.proofs.is_print.Reads as is-print
use Rattle.text.proofs.is_digits.Reads as is-digits
use Rattle.text.proofs.is_alphanumeric.Reads as is-alphanumeric
use Rattle.text.proofs.is_octet.Reads as is-octet
use Rattle.text.proofs.is_printable.Reads as is-printable
use Rattle.text.proofs.is_protected.Reads as is-protected
use Rattle.text.proofs.hex_digit.Reads as hex-digit
use Rattle.text.proofs.hex_value.Reads as hex-value
use Rattle.text.proofs.check_text.Reads as check-text
use Rattle.table.proofs.is_called.Reads as is-called
use Rattle.table.proofs.mark_of.Reads as mark_of
use Rattle.table.proofs.count_of.Reads as count-of
use Rattle.table.proofs.type_of.Reads as type-of
use Rattle.table.proofs.is_pubkey.Reads as is-pubkey
use Rattle.table.proofs.identity_kind.Reads as identity-kind
use Rattle.table.proofs.record_kind.Reads as record-kind
use Rattle.table.proofs.kind_named.Reads as kind-named
use Rattle.table.proofs.is_identity.Reads as is-identity
use Rattle.table.proofs.may_be_empty.Reads as may-be-empty
use Rattle.table.proofs.does_permit.Reads as does-permit
use Rattle.frame.proofs.title_of.Reads as title-of
use Rattle.frame.proofs.mark_after.Reads as mark-after
use Rattle.frame.proofs.next_mark.Reads as next-mark
use Rattle.frame.proofs.part_start.Reads as part-start
use Rattle.frame.proofs.part.Reads as part
use Rattle.frame.proofs.body_of.Reads as body_of
use Rattle.frame.proofs.check_no.Reads as check-no
use Rattle.places.proofs.places_of.Reads as places_of
use Rattle.places.proofs.part_at.Reads as part-at
use Rattle.places.proofs.field_at.Reads as field-at
use Rattle.cards.proofs.are_attributes.Reads as are-attributes
use Rattle.reading.proofs.refuse.Reads as refuse_reading
use Rattle.reading.proofs.read_identity.Reads as read-identity
use Rattle.reading.proofs.judge.Reads as judge
use Rattle.reading.proofs.read_under.Reads as read_under
use Rattle.reading.proofs.read_of.Reads as read-of
use Rattle.reading.proofs.read_record.Reads as read-record
use Rattle.fields.proofs.identity_place.Reads as identity-place
use Rattle.fields.proofs.record_place.Reads as record-place
use Rattle.fields.proofs.identity_field.Reads as identity-field
use Rattle.fields.proofs.record_field.Reads as record-field
use Rattle.fields.proofs.attribute_place.Reads as attribute-place
use Rattle.fields.proofs.attribute_named_place.Reads as attribute-named-place
use Rattle.fields.proofs.attribute.Reads as attribute
use Rattle.fields.proofs.attribute_named.Reads as attribute-named
use Rattle.put.proofs.put.Reads as put
use Rattle.put.proofs.put_byte.Reads as put_byte
use Rattle.put.proofs.put_hex.Reads as put-hex
use Rattle.put.proofs.put_decoded.Reads as put-decoded
use Rattle.put.proofs.refuse.Reads as refuse
use Rattle.sha384.proofs.Sha384.begin.Reads as sha384_begin
use Rattle.sha384.proofs.Sha384.add.Reads as sha384_add
use Rattle.sha384.proofs.Sha384.end.Reads as sha384_end
use Rattle.sha384.proofs.sha384_of.Reads as sha384-of
use Rattle.sha_1.proofs.Sha1.begin.Reads as sha1_begin
use Rattle.sha_1.proofs.Sha1.add.Reads as sha1_add
use Rattle.sha_1.proofs.Sha1.end.Reads as sha1_end
use Rattle.sha_1.proofs.sha1_of.Reads as sha1-of
use Rattle.hmac.proofs.begin.Reads as hmac_begin
use Rattle.hmac.proofs.end.Reads as hmac_end
use Rattle.hmac.proofs.hmac_of.Reads as hmac-of
use Rattle.items.proofs.item_place.Reads as item-place
use Rattle.items.proofs.text_item.Reads as text-item
use Rattle.building.proofs.build.Reads as build
use Rattle.agreement.proofs.shared_info.Reads as shared-info
use Rattle.agreement.proofs.module_text.Reads as module-text
use Rattle.agreement.proofs.centre_text.Reads as centre-text
use Rattle.files.proofs.line_at.Reads as line-at
use Rattle.files.proofs.count.Reads as count
use Rattle.files.proofs.step_from.Reads as step_from
use Rattle.files.proofs.line_end.Reads as line-end
use Rattle.files.proofs.last_line.Reads as last_line
use Rattle.trailed.proofs.read_trailed.Reads as read-trailed
use Rattle.trailed.proofs.trailed_at.Reads as trailed-at
use Rattle.trailed.proofs.count_trailed.Reads as count-trailed
use Rattle.trailed.proofs.write_trailed.Reads as write-trailed
use Rattle.mail.proofs.write_mail.Reads as write-mail
use Rattle.mail.proofs.read_mail.Reads as read-mail
use Rattle.cabinet.proofs.make_cabinet.Reads as make-cabinet
use Rattle.cabinet.proofs.check_cabinet.Reads as check-cabinet
use Rattle.cabinet.proofs.count_keys.Reads as count-keys
use Rattle.cabinet.proofs.put_key.Reads as put-key
use Rattle.cabinet.proofs.remove_key.Reads as remove_key
use Rattle.cabinet.proofs.admit.Reads as admit
use Rattle.cabinet.proofs.key_place.Reads as key-place
use Rattle.cabinet.proofs.find_key.Reads as find-key
use Rattle.list_text.proofs.write_list.Reads as write-list
use Rattle.list_printing.proofs.print_list.Reads as print-list
use Rattle.subjects.proofs.field_in.Reads as field_in
use Rattle.subjects.proofs.are_alike.Reads as are-alike
use Rattle.fingerprint.proofs.check_fingerprint.Reads as check-fingerprint
use Rattle.fingerprint.proofs.write_fingerprint.Reads as write-fingerprint
use Rattle.confirm.proofs.confirm_request.Reads as confirm-request
use Rattle.confirm.proofs.confirm_response.Reads as confirm-response
use Rattle.newer.proofs.newer_of.Reads as newer-of
use Rattle.expiry.proofs.expiry_under.Reads as expiry-under
use Rattle.expiry.proofs.expiry_of.Reads as expiry-of
use Rattle.newer.proofs.newer.Reads as newer

-- any two results x and y that the contract Q allows for the same lifetimes κs and arguments a are equal
abbrev pub OneAnswer : {K : Type 0} {A R S : K → Type 0} → ((κs : K) → A κs → R κs → S κs → Type 0) → Type 0
OneAnswer {K} {A} {R} {S} Q = (κs : K) (a : A κs) (x y : R κs) (s t : S κs) → Q κs a x s → Q κs a y t → x ≡ y

-- the same of a part that is handed back: its place and its bytes are the answer
abbrev pub OnePart : {K : Type 0} {A S : K → Type 0} → ((κs : K) → A κs → Bor Bytes → S κs → Type 0) → Type 0
OnePart {K} {A} {S} Q = (κs : K) (a : A κs) (x y : Bor Bytes) (s t : S κs) → Q κs a x s → Q κs a y t → (x.ref_ptr ≡ y.ref_ptr) × (x.now ≡ y.now)

-- of a part of the answer, which `of` picks
abbrev pub OneIn : {K X : Type 0} {A R S : K → Type 0} → ((κs : K) → A κs → R κs → S κs → Type 0) → ((κs : K) → R κs → X) → Type 0
OneIn {K} {X} {A} {R} {S} Q of = (κs : K) (a : A κs) (x y : R κs) (s t : S κs) → Q κs a x s → Q κs a y t → of κs x ≡ of κs y

-- and of what stands behind a `&mut` parameter afterwards, which `left` picks
abbrev pub OneLeft : {K X : Type 0} {A R S : K → Type 0} → ((κs : K) → A κs → R κs → S κs → Type 0) → ((κs : K) → S κs → X) → Type 0
OneLeft {K} {X} {A} {R} {S} Q left =
    (κs : K) (a : A κs) (x y : R κs) (s t : S κs) → Q κs a x s → Q κs a y t → left κs s ≡ left κs t

pub record Determined : Type 0 where
  -- crc16
  pub crc_begin : OneAnswer begun.Post
  pub crc_add : OneAnswer add.Post
  pub crc_end : OneAnswer end.Post
  pub crc-of : OneAnswer crc-of.Post
  -- text
  pub are-same : OneAnswer are-same.Post
  pub is-ident : OneAnswer is-ident.Post
  pub is-timestamp : OneAnswer is-timestamp.Post
  pub is_later : OneAnswer is_later.Post
  pub moment-of : OneAnswer moment-of.Post
  pub seconds-bytes : OneAnswer seconds-bytes.Post
  pub is-hex : OneAnswer is-hex.Post
  pub is-point : OneAnswer is-point.Post
  pub is-sig : OneAnswer is-sig.Post
  pub is-mac : OneAnswer is-mac.Post
  pub is-print : OneAnswer is-print.Post
  pub is-digits : OneAnswer is-digits.Post
  pub is-alphanumeric : OneAnswer is-alphanumeric.Post
  pub is-octet : OneAnswer is-octet.Post
  pub is-printable : OneAnswer is-printable.Post
  pub is-protected : OneAnswer is-protected.Post
  pub hex-digit : OneAnswer hex-digit.Post
  pub hex-value : OneAnswer hex-value.Post
  pub check-text : OneAnswer check-text.Post
  -- table
  pub is-called : OneAnswer is-called.Post
  pub mark_of : OneAnswer mark_of.Post
  pub count-of : OneAnswer count-of.Post
  pub type-of : OneAnswer type-of.Post
  pub is-pubkey : OneAnswer is-pubkey.Post
  pub identity-kind : OneAnswer identity-kind.Post
  pub record-kind : OneAnswer record-kind.Post
  pub kind-named : OneAnswer kind-named.Post
  pub is-identity : OneAnswer is-identity.Post
  pub may-be-empty : OneAnswer may-be-empty.Post
  pub does-permit : OneAnswer does-permit.Post
  -- frame
  pub title-of : OnePart title-of.Post
  pub mark-after : OneAnswer mark-after.Post
  pub next-mark : OneAnswer next-mark.Post
  pub part-start : OneAnswer part-start.Post
  pub part : OnePart part.Post
  pub body_of : OnePart body_of.Post
  pub check-no : OneAnswer check-no.Post
  -- places
  pub places_of : OneAnswer places_of.Post
  pub part-at : OnePart part-at.Post
  pub field-at : OnePart field-at.Post
  -- cards
  pub are-attributes : OneAnswer are-attributes.Post
  -- reading
  pub refuse_reading : OneAnswer refuse_reading.Post
  pub read-identity : OneAnswer read-identity.Post
  pub judge : OneAnswer judge.Post
  pub read_under : OneAnswer read_under.Post
  pub read-of : OneAnswer read-of.Post
  pub read-record : OneAnswer read-record.Post
  -- fields
  pub identity-place : OneAnswer identity-place.Post
  pub record-place : OneAnswer record-place.Post
  pub identity_field_part : OnePart identity-field.Post
  pub identity_field_no : OneLeft identity-field.Post (λ κs s. s.1.1.0.now)
  pub identity_field_field : OneLeft identity-field.Post (λ κs s. s.1.1.1.0.now)
  pub record_field_part : OnePart record-field.Post
  pub record_field_no : OneLeft record-field.Post (λ κs s. s.1.1.0.now)
  pub record_field_field : OneLeft record-field.Post (λ κs s. s.1.1.1.0.now)
  pub attribute-place : OneAnswer attribute-place.Post
  pub attribute-named-place : OneAnswer attribute-named-place.Post
  pub attribute-part : OnePart attribute.Post
  pub attribute-no : OneLeft attribute.Post (λ κs s. s.1.1.0.now)
  pub attribute_field : OneLeft attribute.Post (λ κs s. s.1.1.1.0.now)
  pub attribute_named_part : OnePart attribute-named.Post
  pub attribute_named_no : OneLeft attribute-named.Post (λ κs s. s.1.1.0.now)
  pub attribute_named_field : OneLeft attribute-named.Post (λ κs s. s.1.1.1.0.now)
  -- put
  pub refuse : OneAnswer refuse.Post
  pub put_next : OneAnswer put.Post
  pub put_out : OneLeft put.Post (λ κs s. s.0.now)
  pub put_byte_next : OneAnswer put_byte.Post
  pub put_byte_out : OneLeft put_byte.Post (λ κs s. s.0.now)
  pub put_hex_next : OneAnswer put-hex.Post
  pub put_hex_out : OneLeft put-hex.Post (λ κs s. s.0.now)
  pub put_decoded_next : OneAnswer put-decoded.Post
  pub put_decoded_out : OneLeft put-decoded.Post (λ κs s. s.0.now)
  -- sha384
  pub sha384_begin : OneAnswer sha384_begin.Post
  pub sha384_add : OneAnswer sha384_add.Post
  pub sha384_end : OneAnswer sha384_end.Post
  pub sha384-of : OneAnswer sha384-of.Post
  -- sha1
  pub sha1_begin : OneAnswer sha1_begin.Post
  pub sha1_add : OneAnswer sha1_add.Post
  pub sha1_end : OneAnswer sha1_end.Post
  pub sha1-of : OneAnswer sha1-of.Post
  -- hmac
  pub hmac_begin : OneAnswer hmac_begin.Post
  pub hmac_end : OneAnswer hmac_end.Post
  pub hmac-of : OneAnswer hmac-of.Post
  -- building
  pub build_said : OneAnswer build.Post
  pub build_out : OneLeft build.Post (λ κs s. s.1.1.1.0.now)
  -- items
  pub item-place : OneAnswer item-place.Post
  pub text_item_part : OnePart text-item.Post
  pub text_item_no : OneLeft text-item.Post (λ κs s. s.1.1.0.now)
  -- agreement
  pub shared_info_said : OneAnswer shared-info.Post
  pub shared_info_out : OneLeft shared-info.Post (λ κs s. s.1.0.now)
  pub module_text_said : OneAnswer module-text.Post
  pub module_text_out : OneLeft module-text.Post (λ κs s. s.1.0.now)
  pub centre_text_said : OneAnswer centre-text.Post
  pub centre_text_out : OneLeft centre-text.Post (λ κs s. s.1.0.now)
  -- files
  pub line-at : OneAnswer line-at.Post
  pub count : OneAnswer count.Post
  pub step_from : OneAnswer step_from.Post
  pub line-end : OneAnswer line-end.Post
  pub last_line : OneAnswer last_line.Post
  -- trailed
  pub read-trailed : OneAnswer read-trailed.Post
  pub trailed-at : OneAnswer trailed-at.Post
  pub count-trailed : OneAnswer count-trailed.Post
  pub write_trailed_said : OneAnswer write-trailed.Post
  pub write_trailed_out : OneLeft write-trailed.Post (λ κs s. s.1.0.now)
  -- mail
  pub write_mail_said : OneAnswer write-mail.Post
  pub write_mail_out : OneLeft write-mail.Post (λ κs s. s.1.0.now)
  pub read_mail_said : OneAnswer read-mail.Post
  pub read_mail_out : OneLeft read-mail.Post (λ κs s. s.1.0.now)
  -- cabinet
  pub make_cabinet_said : OneAnswer make-cabinet.Post
  pub make_cabinet_bytes : OneLeft make-cabinet.Post (λ κs s. s.0.now)
  pub check-cabinet : OneAnswer check-cabinet.Post
  pub count-keys : OneAnswer count-keys.Post
  pub put_key_said : OneAnswer put-key.Post
  pub put_key_bytes : OneLeft put-key.Post (λ κs s. s.0.now)
  pub remove_key_said : OneAnswer remove_key.Post
  pub remove_key_bytes : OneLeft remove_key.Post (λ κs s. s.0.now)
  pub admit_said : OneAnswer admit.Post
  pub admit_bytes : OneLeft admit.Post (λ κs s. s.0.now)
  pub key-place : OneAnswer key-place.Post
  pub find_key_part : OnePart find-key.Post
  pub find_key_no : OneLeft find-key.Post (λ κs s. s.1.1.0.now)
  pub find_key_field : OneLeft find-key.Post (λ κs s. s.1.1.1.0.now)
  -- list_text
  pub write_list_said : OneAnswer write-list.Post
  pub write_list_out : OneLeft write-list.Post (λ κs s. s.1.0.now)
  -- list_printing: but for `taken`
  pub print_list_len : OneIn print-list.Post (λ κs r. r.len)
  -- subjects
  pub field_in : OnePart field_in.Post
  pub are-alike : OneAnswer are-alike.Post
  -- fingerprint
  pub check-fingerprint : OneAnswer check-fingerprint.Post
  pub write_fingerprint_said : OneAnswer write-fingerprint.Post
  pub write_fingerprint_out : OneLeft write-fingerprint.Post (λ κs s. s.1.0.now)
  -- confirm
  pub confirm_request_said : OneAnswer confirm-request.Post
  pub confirm_request_mac_key : OneLeft confirm-request.Post (λ κs s. s.1.1.0.now)
  pub confirm_request_kek : OneLeft confirm-request.Post (λ κs s. s.1.1.1.0.now)
  pub confirm-response : OneAnswer confirm-response.Post
  -- newer
  pub newer-of : OneAnswer newer-of.Post
  -- expiry
  pub expiry-under : OneAnswer expiry-under.Post
  pub expiry-of : OneAnswer expiry-of.Post
  pub newer_part : OnePart newer.Post
  pub newer_no : OneLeft newer.Post (λ κs s. s.1.1.0.now)
  pub newer_field : OneLeft newer.Post (λ κs s. s.1.1.1.0.now)
