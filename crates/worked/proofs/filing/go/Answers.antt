-- `worked::filing::go` lends the front of the space.
-- Assumes nothing.
use Rattle.std.proofs.Common.{sym, arith, length-take-le}
use Rattle.worked.proofs.filing.go.Goals as goal

pub slice_bounds-go_through-end : goal.slice_bounds-go_through-end
slice_bounds-go_through-end g c = sym (length-take-le _ _ (omega arith))
