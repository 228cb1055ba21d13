-- `crc16::bit` meets its contract: the bit that falls out is `state & 1`.
-- Assumes nothing.
use native.Mathlib.Omega.{arith}
use Rattle.crc16.proofs.Steps.{mask_fits, step_masked}
use Rattle.crc16.proofs.bit.Goals as goal

pub overflow_mul-result : goal.overflow_mul-result
overflow_mul-result c = omega (arith, mask_fits c.args.state)

pub returns : goal.returns
returns c = step_masked c.args.state
