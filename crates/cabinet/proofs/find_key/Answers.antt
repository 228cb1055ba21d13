-- `cabinet::find_key` meets its contract.
-- Assumes nothing.
use mathlib.Core.Path.{refl}
use native.Mathlib.Omega.{arith}
use Rattle.cabinet.proofs.Calls.{handed}
use Rattle.cabinet.proofs.find_key.Goals as goal

pub slice_bounds-result-end : goal.slice_bounds-result-end
slice_bounds-result-end c = omega (arith, c.key_place-place.ensures.inside)

pub returns : goal.returns
returns c = handed _ c.key_place-place.ensures (record { stands = refl; holds = refl })
