-- Each contract of the C interface is an equation on the answer.
-- Assumes nothing.
use mathlib.Core.Path.{◌≡◌, refl, ap, ◌∙◌}
use Rattle.format.specs.Files.{line_at}
use Rattle.files.specs.Walk.{line_said, next_of}
use Rattle.files.specs.declared.Line.{Line}
use Rattle.files.specs.declared.Line.TheVariants.{Finished, Read}
use Rattle.text.specs.Text.{Bytes}
use Rattle.exports.specs.declared.confirming.Tag.{Tag}
use Rattle.exports.specs.declared.hashes.Digest.{Digest}
use Rattle.exports.specs.declared.trailing.Sha1Digest.{Sha1Digest}
use Rattle.exports.specs.declared.walking.Found.{Found}
use Rattle.exports.specs.Exports.{found}
use Rattle.promises.proofs.Statements.Interface.{Interface}

found_next : (l : Line) → (found l).next ≡ next_of l
found_next (Finished place) = refl
found_next (Read n f k start len next) = refl

pub interface : Interface
interface = record {
  crc_begin = λ κs a r s p. p;
  crc_add = λ κs a r s p. p;
  crc_end = λ κs a r s p. p;
  crc-of = λ κs a r s p. p;
  is-ident = λ κs a r s p. p;
  is-timestamp = λ κs a r s p. p;
  moment-of = λ κs a r s p. p;
  expiry-of = λ κs a r s p. p;
  is-hex = λ κs a r s p. p;
  is-point = λ κs a r s p. p;
  is-sig = λ κs a r s p. p;
  is-mac = λ κs a r s p. p;
  is-print = λ κs a r s p. p;
  read-identity = λ κs a r s p. p;
  read-record = λ κs a r s p. p;
  identity-field = λ κs a r s p. p.said;
  record-field = λ κs a r s p. p.said;
  attribute = λ κs a r s p. p.said;
  attribute-named = λ κs a r s p. p.said;
  build_said = λ κs a r s p. p.said;
  build_out = λ κs a r s p. p.left;
  shared_info_said = λ κs a r s p. p.said;
  shared_info_out = λ κs a r s p. p.left;
  module_text_said = λ κs a r s p. p.said;
  module_text_out = λ κs a r s p. p.left;
  centre_text_said = λ κs a r s p. p.said;
  centre_text_out = λ κs a r s p. p.left;
  text-item = λ κs a r s p. p.said;
  line-at = λ κs a r s p. p;
  reader_new = λ κs a r s p. p.its_place;
  reader_step_said = λ κs a r s p. p.its_line;
  reader_step_place = λ κs a r s p. p.its_place ∙ ap (λ (line : Found). line.next) p.its_line ∙ found_next (line_said (line_at a.0.now a.1.0.now));
  count = λ κs a r s p. p;
  newer = λ κs a r s p. p;
  sha384_begin = λ κs a r s p. p;
  sha384_add = λ κs a r s p. p;
  sha384_end = λ κs a r s p. ap {B = Digest} (λ (b : Bytes). record { bytes = b }) p;
  sha384-of = λ κs a r s p. ap {B = Digest} (λ (b : Bytes). record { bytes = b }) p;
  check-fingerprint = λ κs a r s p. p;
  write_fingerprint_said = λ κs a r s p. p.said;
  write_fingerprint_out = λ κs a r s p. p.left;
  hmac-of = λ κs a r s p. ap {B = Tag} (λ (b : Bytes). record { bytes = b }) p;
  confirm_request_said = λ κs a r s p. p.said;
  confirm_request_mac_key = λ κs a r s p. p.mac_key_left;
  confirm_request_kek = λ κs a r s p. p.kek_left;
  confirm-response = λ κs a r s p. p;
  sha1_begin = λ κs a r s p. p;
  sha1_add = λ κs a r s p. p;
  sha1_end = λ κs a r s p. ap {B = Sha1Digest} (λ (b : Bytes). record { bytes = b }) p;
  sha1-of = λ κs a r s p. ap {B = Sha1Digest} (λ (b : Bytes). record { bytes = b }) p;
  read-trailed = λ κs a r s p. p;
  trailed-at = λ κs a r s p. p;
  count-trailed = λ κs a r s p. p;
  write_trailed_said = λ κs a r s p. p.said;
  write_trailed_out = λ κs a r s p. p.left;
  write_mail_said = λ κs a r s p. p.said;
  write_mail_out = λ κs a r s p. p.left;
  read_mail_said = λ κs a r s p. p.said;
  read_mail_out = λ κs a r s p. p.left;
  make_cabinet_said = λ κs a r s p. p.said;
  make_cabinet_bytes = λ κs a r s p. p.left;
  check-cabinet = λ κs a r s p. p;
  count-keys = λ κs a r s p. p;
  put_key_said = λ κs a r s p. p.said;
  put_key_bytes = λ κs a r s p. p.left;
  remove_key_said = λ κs a r s p. p.said;
  remove_key_bytes = λ κs a r s p. p.left;
  admit_said = λ κs a r s p. p.said;
  admit_bytes = λ κs a r s p. p.left;
  find-key = λ κs a r s p. p.said;
}
