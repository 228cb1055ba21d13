-- `frame::title_of` meets its contract.
-- Assumes nothing.
use mathlib.Core.Path.{refl}
use native.Mathlib.Omega.{arith}
use Rattle.frame.proofs.Title.{title_within, title_part}
use Rattle.frame.proofs.title_of.Goals as goal

pub slice_bounds-result-end : goal.slice_bounds-result-end
slice_bounds-result-end c = omega (arith, title_within c.args.s.now, c.title_length-at.ensures)

pub returns : goal.returns
returns c = record { stands = refl; holds = title_part c.args.s.now _ c.title_length-at.ensures }
