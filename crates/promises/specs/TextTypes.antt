-- What holds of every text type, and of hexadecimal characters and values: document 01, "Text types"; STS 600-4-2, clauses 5.3,
-- 5.5 and 5.8.1.
-- Assumes nothing.
use Rattle.std.specs.Prelude.{ℕ, ◌*◌, ◌<◌, ◌≡◌, T, length, get_or}
use Prim.Native.Char.{code}
use Rattle.text.specs.Text.{Bytes, between, without, is_hex, TextType, is_of, shortest, longest}
use Rattle.text.specs.Base16.{base16, base16_decode, check_text}

pub record TextTypes : Type 0 where
  -- no text type admits ':' or '|' or a line feed
  pub no_colon : (t : TextType) (s : Bytes) → T (is_of t s) → T (without (code ":") s)
  pub no_bar : (t : TextType) (s : Bytes) → T (is_of t s) → T (without (code "|") s)
  pub no_line_feed : (t : TextType) (s : Bytes) → T (is_of t s) → T (without 0x0A s)
  -- each type's length
  pub lengths : (t : TextType) (s : Bytes) → T (is_of t s) → T (between (shortest t) (longest t) (length s))
  -- decoding and encoding are inverse: from bytes, and from an even number of hexadecimal characters
  pub decode_encode : (bs : Bytes) → ((k : ℕ) → get_or bs k 0 < 256) → base16_decode (base16 bs) ≡ bs
  pub encode_decode : (n : ℕ) (s : Bytes) → T (is_hex (2 * n) s) → base16 (base16_decode s) ≡ s
  -- the four characters are HEX(4) and determine the number
  pub four_hex : (n : ℕ) → T (is_hex 4 (check_text n))
  pub four_determine : (a b : ℕ) → a < 65536 → b < 65536 → check_text a ≡ check_text b → a ≡ b
