-- The conversion between hexadecimal characters and values, by the contracts of its two calls: document 02, E4. One call after the other gives
-- back what went in, so neither can be another table of digits than the standard's sixteen.
-- Assumes nothing.
use Rattle.std.specs.Prelude.{ℕ, ◌<◌, ◌≡◌, T}
use Rattle.text.specs.Text.{Bytes, ascii, one_of}
use Rattle.text.proofs.hex_digit.Reads as hex-digit
use Rattle.text.proofs.hex_value.Reads as hex-value
use Rattle.promises.specs.Calls.{Allows}

-- `hex_digit` of v answers c, and `hex_value` of c answers v
abbrev pub Digit : ℕ → ℕ → Type 0
Digit v c = Allows hex-digit.Post (λ κs. (v, tt)) (λ κs. c)

abbrev pub Value : ℕ → ℕ → Type 0
Value c v = Allows hex-value.Post (λ κs. (c, tt)) (λ κs. v)

abbrev pub sixteen : Bytes
sixteen = ascii "0123456789ABCDEF"

pub record Conversion : Type 0 where
  -- a value below 16, as a character, and its value
  pub value_again : (v c w : ℕ) → v < 16 → Digit v c → Value c w → w ≡ v
  -- one of the sixteen characters, its value, and the character of that
  pub character_again : (c v d : ℕ) → T (one_of sixteen c) → Value c v → Digit v d → d ≡ c
  -- and the character of a value below 16 is one of them
  pub among_sixteen : (v c : ℕ) → v < 16 → Digit v c → T (one_of sixteen c)
