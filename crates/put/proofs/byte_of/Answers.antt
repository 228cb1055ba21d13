-- `put::byte_of` meets its contract.
-- Assumes nothing.
use native.Mathlib.Omega.{arith}
use Rattle.text.proofs.Hexadecimal.{valued}
use Rattle.put.proofs.byte_of.Goals as goal

pub overflow_mul-result : goal.overflow_mul-result
overflow_mul-result c = omega (arith, c.hex_value.ensures, (valued c.args.high c.requires.0).small)

pub overflow_add-result : goal.overflow_add-result
overflow_add-result c =
    let s = c in
    omega (arith, c.hex_value.ensures, c.hex_value-2.ensures, (valued s.args.high s.requires.0).small, (valued s.args.low s.requires.1).small)
