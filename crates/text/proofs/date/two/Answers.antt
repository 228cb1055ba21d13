-- `text::date::two` meets its contract.
-- Assumes nothing.
use native.Mathlib.Omega.{arith}
use Rattle.text.proofs.Loops.{number_two}
use Rattle.text.proofs.date.two.Goals as goal

pub returns : goal.returns
returns c = (omega (arith, number_two c.args.s.now c.args.i (omega arith)), omega arith)
