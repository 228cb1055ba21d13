-- Hexadecimal characters and values: STS 600-4-2, clause 5.3 (BASE16 and BASE16-DECODE), and the four characters of a check,
-- clauses 5.5 and 5.8.1.
-- Assumes nothing.
use Rattle.std.specs.Prelude.{ℕ, ◌+◌, ◌-◌, ◌*◌, ◌/◌, ◌%◌, cond, [], ◌∷◌, ltb}
use Prim.Native.Char.{code}
use Rattle.text.specs.Text.{Bytes, decimal, between}

-- the character of a value below 16; 0, which is no character of any text type, for any other number
unfoldable pub hex_digit : ℕ → ℕ
hex_digit n = cond (ltb n 10) (code "0" + n) (cond (ltb n 16) (code "A" + (n - 10)) 0)

-- the value of a hexadecimal character; 16, which is no value, for any other byte
unfoldable pub hex_value : ℕ → ℕ
hex_value c = cond (decimal c) (c - code "0") (cond (between (code "A") (code "F") c) (10 + (c - code "A")) 16)

-- BASE16: of every byte the top four bits and the bottom four
abbrev pub base16 : Bytes → Bytes
base16 [] = []
base16 (b ∷ bs) = hex_digit (b / 16) ∷ hex_digit (b % 16) ∷ base16 bs

-- BASE16-DECODE, of a text of hexadecimal characters
abbrev pub base16_decode : Bytes → Bytes
base16_decode [] = []
base16_decode (c ∷ []) = []
base16_decode (c ∷ d ∷ s) = (16 * hex_value c + hex_value d) ∷ base16_decode s

-- the check is "a 16-bit big endian bit string": its higher byte comes first
abbrev pub check_bytes : ℕ → Bytes
check_bytes n = n / 256 % 256 ∷ n % 256 ∷ []

unfoldable pub check_text : ℕ → Bytes
check_text n = base16 (check_bytes n)
