-- `table::type_of` meets its contract: antt computes the types of all rows, and the array has their codes.
-- Assumes nothing.
use Prim.Native.Nat.{◌<◌}
use mathlib.Core.List.{flatten}
use native.Mathlib.Omega.{arith}
use Rattle.table.specs.Table.{count_of}
use Rattle.table.proofs.Codes.{code_of}
use Rattle.table.proofs.Arrays.{row_there, type_within, type_here, type_past}
use Rattle.table.proofs.type_of.Goals as goal

pub returns-then-count_of-j : goal.returns-then-count_of-j
returns-then-count_of-j c = type_past c.args.row c.args.j (omega (arith, c.count_of.ensures, c.if-count_of-j.true))

pub offset_bounds-row : goal.offset_bounds-row
offset_bounds-row c =
    let there : c.args.j < count_of c.args.row = omega (arith, c.count_of.ensures, c.if-count_of-j.false) in
    omega (arith, row_there c.args.row c.args.j there)

pub bounds-row : goal.bounds-row
bounds-row c =
    let there : c.args.j < count_of c.args.row = omega (arith, c.count_of.ensures, c.if-count_of-j.false) in
    row_there c.args.row c.args.j there

pub bounds-at : goal.bounds-at
bounds-at c =
    let there : c.args.j < count_of c.args.row = omega (arith, c.count_of.ensures, c.if-count_of-j.false) in
    type_within c.args.row c.args.j there

pub overflow_add-at : goal.overflow_add-at
overflow_add-at c =
    let there : c.args.j < count_of c.args.row = omega (arith, c.count_of.ensures, c.if-count_of-j.false) in
    omega (arith, type_within c.args.row c.args.j there)

pub returns : goal.returns
unfolding flatten code_of
returns c =
    let there : c.args.j < count_of c.args.row = omega (arith, c.count_of.ensures, c.if-count_of-j.false) in
    type_here c.args.row c.args.j there
