-- `cases::filing::go` lends the front of the space.
-- Assumes nothing.
use native.Mathlib.Omega.{arith}
use Rattle.cases.proofs.Lent.{front, again}
use Rattle.cases.proofs.filing.go.Goals as goal

pub slice_bounds-go_through-end : goal.slice_bounds-go_through-end
slice_bounds-go_through-end g c = front 65536 66560 c.zeros-space.result c.zeros-space.ensures (omega arith)

pub slice_bounds-cut-end : goal.slice_bounds-cut-end
slice_bounds-cut-end g c =
    again
    65536
    66560
    c.zeros-space.result
    c.go_through.new.lent
    c.zeros-space.ensures
    (omega arith)
    c.go_through.auto.lent
