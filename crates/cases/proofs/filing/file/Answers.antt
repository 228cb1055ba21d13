-- `cases::filing::file` lends the front of the space.
-- Assumes nothing.
use Prim.Native.Nat.{◌%◌}
use native.Mathlib.Omega.{arith}
use Rattle.cases.proofs.Lent.{front, again}
use Rattle.cases.proofs.filing.file.Goals as goal

pub slice_bounds-prepare-end : goal.slice_bounds-prepare-end
slice_bounds-prepare-end g c = front 65536 66560 c.zeros-space.result c.zeros-space.ensures (omega arith)

pub slice_bounds-space-end-2 : goal.slice_bounds-space-end-2
slice_bounds-space-end-2 g c =
    omega (
      arith,
      again
          65536
          66560
          c.zeros-space.result
          c.prepare.new.lent
          c.zeros-space.ensures
          (omega arith)
          c.prepare.auto.lent,
    )

pub slice_bounds-call-end : goal.slice_bounds-call-end
slice_bounds-call-end g c =
    front
    (c.args.n % 66561)
    66560
    _
    (again
    65536
    66560
    c.zeros-space.result
    c.prepare.new.lent
    c.zeros-space.ensures
    (omega arith)
    c.prepare.auto.lent)
    (omega arith)

pub slice_bounds-cut-end : goal.slice_bounds-cut-end
slice_bounds-cut-end g c =
    again
    (c.args.n % 66561)
    66560
    _
    c.call.new.lent
    (again
    65536
    66560
    c.zeros-space.result
    c.prepare.new.lent
    c.zeros-space.ensures
    (omega arith)
    c.prepare.auto.lent)
    (omega arith)
    c.call.auto.lent
