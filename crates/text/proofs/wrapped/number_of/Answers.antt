-- `text::wrapped::number_of` meets its contract.
-- Assumes nothing.
use native.Mathlib.Omega.{arith}
use Rattle.text.specs.Text.{number_from}
use Rattle.text.proofs.wrapped.number_of.Goals as goal

pub returns : goal.returns
unfolding number_from
returns c = omega arith
