-- Each contract is an equation on its call's answer, so any two answers are equal.
-- Assumes nothing.
use Prim.Native.Nat.{ℕ}
use mathlib.Core.Path.{◌≡◌, sym, ap, ◌∙◌}
use denote.Ref.{Bor}
use Rattle.crc16.specs.declared.Crc.{Crc}
use Rattle.text.specs.Text.{Bytes}
use Rattle.text.specs.Part.{Part}
use Rattle.table.proofs.Codes.{one_code}
use Rattle.newer.specs.Newer.{Decision, theFirst, theSecond, no_choice, IsChosen, Chosen}
use Rattle.promises.proofs.Statements.Determined.{Determined}

-- two states with one number are one state
one_state : (x y : Crc) (n : ℕ) → x.state ≡ n → y.state ≡ n → x ≡ y
one_state x y n p q = ap {B = Crc} (λ (m : ℕ). record { state = m }) (p ∙ sym q)

-- two parts at one place that hold the same bytes
one_part : {s x y : Bor Bytes} {start : ℕ} {bytes : Bytes} → Part s start bytes x → Part s start bytes y → (x.ref_ptr ≡ y.ref_ptr) × (x.now ≡ y.now)
one_part p q = (p.stands ∙ sym q.stands, p.holds ∙ sym q.holds)

one_chosen : {d : Decision} {a b x y : Bor Bytes} {m n i j : ℕ} → Chosen d a b x m i → Chosen d a b y n j → (x.ref_ptr ≡ y.ref_ptr) × (x.now ≡ y.now)
one_chosen {d} {a} {b} {x} {y} p q = go d p.part_so q.part_so
  where
    go : (c : Decision) → IsChosen c a b x → IsChosen c a b y → (x.ref_ptr ≡ y.ref_ptr) × (x.now ≡ y.now)
    go theFirst e f = (ap (λ x. x.ref_ptr) (e ∙ sym f), ap (λ x. x.now) (e ∙ sym f))
    go theSecond e f = (ap (λ x. x.ref_ptr) (e ∙ sym f), ap (λ x. x.now) (e ∙ sym f))
    go (no_choice w n i) e f = one_part e f

pub determined : Determined
determined = record {
  crc_begin = λ κs a x y s t p q. one_state x y _ p q;
  crc_add = λ κs a x y s t p q. one_state x y _ p q;
  crc_end = λ κs a x y s t p q. p ∙ sym q;
  crc-of = λ κs a x y s t p q. p ∙ sym q;
  are-same = λ κs a x y s t p q. p ∙ sym q;
  is-ident = λ κs a x y s t p q. p ∙ sym q;
  is-timestamp = λ κs a x y s t p q. p ∙ sym q;
  is_later = λ κs a x y s t p q. p ∙ sym q;
  moment-of = λ κs a x y s t p q. p ∙ sym q;
  seconds-bytes = λ κs a x y s t p q. p ∙ sym q;
  is-hex = λ κs a x y s t p q. p ∙ sym q;
  is-point = λ κs a x y s t p q. p ∙ sym q;
  is-sig = λ κs a x y s t p q. p ∙ sym q;
  is-mac = λ κs a x y s t p q. p ∙ sym q;
  is-print = λ κs a x y s t p q. p ∙ sym q;
  is-digits = λ κs a x y s t p q. p ∙ sym q;
  is-alphanumeric = λ κs a x y s t p q. p ∙ sym q;
  is-octet = λ κs a x y s t p q. p ∙ sym q;
  is-printable = λ κs a x y s t p q. p ∙ sym q;
  is-protected = λ κs a x y s t p q. p ∙ sym q;
  hex-digit = λ κs a x y s t p q. p ∙ sym q;
  hex-value = λ κs a x y s t p q. p ∙ sym q;
  check-text = λ κs a x y s t p q. p ∙ sym q;
  is-called = λ κs a x y s t p q. p ∙ sym q;
  mark_of = λ κs a x y s t p q. p ∙ sym q;
  count-of = λ κs a x y s t p q. p ∙ sym q;
  type-of = λ κs a x y s t p q. one_code x y p.listed q.listed (p.means ∙ sym q.means);
  is-pubkey = λ κs a x y s t p q. p ∙ sym q;
  identity-kind = λ κs a x y s t p q. p ∙ sym q;
  record-kind = λ κs a x y s t p q. p ∙ sym q;
  kind-named = λ κs a x y s t p q. p ∙ sym q;
  is-identity = λ κs a x y s t p q. p ∙ sym q;
  may-be-empty = λ κs a x y s t p q. p ∙ sym q;
  does-permit = λ κs a x y s t p q. p ∙ sym q;
  title-of = λ κs a x y s t p q. one_part p q;
  mark-after = λ κs a x y s t p q. p ∙ sym q;
  next-mark = λ κs a x y s t p q. p ∙ sym q;
  part-start = λ κs a x y s t p q. p ∙ sym q;
  part = λ κs a x y s t p q. one_part p q;
  body_of = λ κs a x y s t p q. one_part p q;
  check-no = λ κs a x y s t p q. p ∙ sym q;
  places_of = λ κs a x y s t p q. p ∙ sym q;
  part-at = λ κs a x y s t p q. one_part p q;
  field-at = λ κs a x y s t p q. one_part p q;
  are-attributes = λ κs a x y s t p q. p ∙ sym q;
  refuse_reading = λ κs a x y s t p q. p ∙ sym q;
  read-identity = λ κs a x y s t p q. p ∙ sym q;
  judge = λ κs a x y s t p q. p ∙ sym q;
  read_under = λ κs a x y s t p q. p ∙ sym q;
  read-of = λ κs a x y s t p q. p ∙ sym q;
  read-record = λ κs a x y s t p q. p ∙ sym q;
  identity-place = λ κs a x y s t p q. p.said ∙ sym q.said;
  record-place = λ κs a x y s t p q. p.said ∙ sym q.said;
  identity_field_part = λ κs a x y s t p q. one_part p.its_part q.its_part;
  identity_field_no = λ κs a x y s t p q. p.its_no ∙ sym q.its_no;
  identity_field_field = λ κs a x y s t p q. p.its_field ∙ sym q.its_field;
  record_field_part = λ κs a x y s t p q. one_part p.its_part q.its_part;
  record_field_no = λ κs a x y s t p q. p.its_no ∙ sym q.its_no;
  record_field_field = λ κs a x y s t p q. p.its_field ∙ sym q.its_field;
  attribute-place = λ κs a x y s t p q. p.said ∙ sym q.said;
  attribute-named-place = λ κs a x y s t p q. p.said ∙ sym q.said;
  attribute-part = λ κs a x y s t p q. one_part p.its_part q.its_part;
  attribute-no = λ κs a x y s t p q. p.its_no ∙ sym q.its_no;
  attribute_field = λ κs a x y s t p q. p.its_field ∙ sym q.its_field;
  attribute_named_part = λ κs a x y s t p q. one_part p.its_part q.its_part;
  attribute_named_no = λ κs a x y s t p q. p.its_no ∙ sym q.its_no;
  attribute_named_field = λ κs a x y s t p q. p.its_field ∙ sym q.its_field;
  refuse = λ κs a x y s t p q. p ∙ sym q;
  put_next = λ κs a x y s t p q. p.answers ∙ sym q.answers;
  put_out = λ κs a x y s t p q. p.leaves ∙ sym q.leaves;
  put_byte_next = λ κs a x y s t p q. p.answers ∙ sym q.answers;
  put_byte_out = λ κs a x y s t p q. p.leaves ∙ sym q.leaves;
  put_hex_next = λ κs a x y s t p q. p.answers ∙ sym q.answers;
  put_hex_out = λ κs a x y s t p q. p.leaves ∙ sym q.leaves;
  put_decoded_next = λ κs a x y s t p q. p.answers ∙ sym q.answers;
  put_decoded_out = λ κs a x y s t p q. p.leaves ∙ sym q.leaves;
  sha384_begin = λ κs a x y s t p q. p ∙ sym q;
  sha384_add = λ κs a x y s t p q. p ∙ sym q;
  sha384_end = λ κs a x y s t p q. p ∙ sym q;
  sha384-of = λ κs a x y s t p q. p ∙ sym q;
  sha1_begin = λ κs a x y s t p q. p ∙ sym q;
  sha1_add = λ κs a x y s t p q. p ∙ sym q;
  sha1_end = λ κs a x y s t p q. p ∙ sym q;
  sha1-of = λ κs a x y s t p q. p ∙ sym q;
  hmac_begin = λ κs a x y s t p q. p ∙ sym q;
  hmac_end = λ κs a x y s t p q. p ∙ sym q;
  hmac-of = λ κs a x y s t p q. p ∙ sym q;
  build_said = λ κs a x y s t p q. p.said ∙ sym q.said;
  build_out = λ κs a x y s t p q. p.left ∙ sym q.left;
  item-place = λ κs a x y s t p q. p.said ∙ sym q.said;
  text_item_part = λ κs a x y s t p q. one_part p.part_so q.part_so;
  text_item_no = λ κs a x y s t p q. p.number_so ∙ sym q.number_so;
  shared_info_said = λ κs a x y s t p q. p.said ∙ sym q.said;
  shared_info_out = λ κs a x y s t p q. p.left ∙ sym q.left;
  module_text_said = λ κs a x y s t p q. p.said ∙ sym q.said;
  module_text_out = λ κs a x y s t p q. p.left ∙ sym q.left;
  centre_text_said = λ κs a x y s t p q. p.said ∙ sym q.said;
  centre_text_out = λ κs a x y s t p q. p.left ∙ sym q.left;
  line-at = λ κs a x y s t p q. p ∙ sym q;
  count = λ κs a x y s t p q. p ∙ sym q;
  step_from = λ κs a x y s t p q. p ∙ sym q;
  line-end = λ κs a x y s t p q. p ∙ sym q;
  last_line = λ κs a x y s t p q. p ∙ sym q;
  read-trailed = λ κs a x y s t p q. p ∙ sym q;
  trailed-at = λ κs a x y s t p q. p ∙ sym q;
  count-trailed = λ κs a x y s t p q. p ∙ sym q;
  write_trailed_said = λ κs a x y s t p q. p.said ∙ sym q.said;
  write_trailed_out = λ κs a x y s t p q. p.left ∙ sym q.left;
  write_mail_said = λ κs a x y s t p q. p.said ∙ sym q.said;
  write_mail_out = λ κs a x y s t p q. p.left ∙ sym q.left;
  read_mail_said = λ κs a x y s t p q. p.said ∙ sym q.said;
  read_mail_out = λ κs a x y s t p q. p.left ∙ sym q.left;
  make_cabinet_said = λ κs a x y s t p q. p.said ∙ sym q.said;
  make_cabinet_bytes = λ κs a x y s t p q. p.left ∙ sym q.left;
  check-cabinet = λ κs a x y s t p q. p ∙ sym q;
  count-keys = λ κs a x y s t p q. p ∙ sym q;
  put_key_said = λ κs a x y s t p q. p.said ∙ sym q.said;
  put_key_bytes = λ κs a x y s t p q. p.left ∙ sym q.left;
  remove_key_said = λ κs a x y s t p q. p.said ∙ sym q.said;
  remove_key_bytes = λ κs a x y s t p q. p.left ∙ sym q.left;
  admit_said = λ κs a x y s t p q. p.said ∙ sym q.said;
  admit_bytes = λ κs a x y s t p q. p.left ∙ sym q.left;
  key-place = λ κs a x y s t p q. p.said ∙ sym q.said;
  find_key_part = λ κs a x y s t p q. one_part p.its_part q.its_part;
  find_key_no = λ κs a x y s t p q. p.its_no ∙ sym q.its_no;
  find_key_field = λ κs a x y s t p q. p.its_field ∙ sym q.its_field;
  write_list_said = λ κs a x y s t p q. p.said ∙ sym q.said;
  write_list_out = λ κs a x y s t p q. p.left ∙ sym q.left;
  print_list_len = λ κs a x y s t p q. p ∙ sym q;
  field_in = λ κs a x y s t p q. one_part p q;
  are-alike = λ κs a x y s t p q. p ∙ sym q;
  check-fingerprint = λ κs a x y s t p q. p ∙ sym q;
  write_fingerprint_said = λ κs a x y s t p q. p.said ∙ sym q.said;
  write_fingerprint_out = λ κs a x y s t p q. p.left ∙ sym q.left;
  confirm_request_said = λ κs a x y s t p q. p.said ∙ sym q.said;
  confirm_request_mac_key = λ κs a x y s t p q. p.mac_key_left ∙ sym q.mac_key_left;
  confirm_request_kek = λ κs a x y s t p q. p.kek_left ∙ sym q.kek_left;
  confirm-response = λ κs a x y s t p q. p ∙ sym q;
  newer-of = λ κs a x y s t p q. p ∙ sym q;
  expiry-under = λ κs a x y s t p q. p ∙ sym q;
  expiry-of = λ κs a x y s t p q. p ∙ sym q;
  newer_part = λ κs a x y s t p q. one_chosen p q;
  newer_no = λ κs a x y s t p q. p.number_so ∙ sym q.number_so;
  newer_field = λ κs a x y s t p q. p.field_so ∙ sym q.field_so;
}
