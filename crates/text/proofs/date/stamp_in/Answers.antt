-- `text::date::stamp_in` meets its contract.
-- Assumes nothing.
use native.Mathlib.Omega.{arith}
use Rattle.text.proofs.Types.{other_length}
use Rattle.text.proofs.date.stamp_in.Goals as goal

pub returns-in_err-stamp : goal.returns-in_err-stamp
returns-in_err-stamp c = rw c.from_residual.ensures (other_length c.args.s.now (λ e. let w = c.in_err-stamp.was in let k = c.try_from.ensures.0 e in grind arith))
