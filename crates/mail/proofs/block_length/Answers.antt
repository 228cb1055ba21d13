-- `mail::block_length` meets its contract.
-- Assumes nothing.
use native.Mathlib.Omega.{arith}
use Rattle.mail.proofs.Writing.{block-length}
use Rattle.mail.proofs.block_length.Goals as goal

pub returns : goal.returns
returns c = omega (arith, c.div_ceil.ensures, block-length c.args.rectype.now c.args.record.now)
