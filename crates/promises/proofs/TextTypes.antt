-- The promises of the text types, from the laws of text.
-- Assumes nothing.
use Prim.Native.Nat.{◌*◌}
use Rattle.text.proofs.Types.{plain, plain_without, lengths, hex_length, hex_characters}
use Rattle.text.proofs.Hexadecimal.{decode_encode, encode_decode, check_hex, check_inj}
use Rattle.promises.specs.TextTypes.{TextTypes}

pub text_types : TextTypes
text_types = record {
  no_colon = λ t s h. plain_without 0x3A tt s (plain t s h);
  no_bar = λ t s h. plain_without 0x7C tt s (plain t s h);
  no_line_feed = λ t s h. plain_without 0x0A tt s (plain t s h);
  lengths = lengths;
  decode_encode = decode_encode;
  encode_decode = λ n s h. encode_decode n s (hex_length (2 * n) s h) (hex_characters (2 * n) s h);
  four_hex = check_hex;
  four_determine = check_inj;
}
