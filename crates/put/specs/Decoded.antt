-- BASE16-DECODE of any bytes: STS 600-4-2, clause 5.3. It fails for what is no string of hexadecimal characters, and gives nothing then.
-- Assumes nothing.
use Rattle.std.specs.Prelude.{cond, []}
use Rattle.text.specs.Text.{Bytes, every, hexadecimal}
use Rattle.text.specs.Base16.{base16_decode}

abbrev pub decoded : Bytes → Bytes
decoded s = cond (every hexadecimal s) (base16_decode s) []
