-- `frame::part` meets its contract.
-- Assumes nothing.
use Prim.Native.Nat.{◌<◌}
use mathlib.Core.Path.{refl}
use native.Mathlib.Omega.{arith}
use lib.ListN.{length}
use Rattle.text.proofs.Part.{same_part}
use Rattle.frame.proofs.Parts.{next_from, next_within, part_none, part_there, place_none, place_there}
use Rattle.frame.proofs.part.Goals as goal

pub returns-then-s-start : goal.returns-then-s-start
returns-then-s-start c = let q = c.part_start-start.ensures in let h = c.if-s-start.true in same_part (place_none _ _ _ _ q h) (part_none _ _ _ _ q h) (record { stands = refl; holds = refl })

pub slice_bounds-result-count-2 : goal.slice_bounds-result-count-2
slice_bounds-result-count-2 c = let a = c.args in omega (arith, c.next_mark-end.ensures, next_from a.mark a.s.now c.part_start-start.result)

pub slice_bounds-result-start-2 : goal.slice_bounds-result-start-2
slice_bounds-result-start-2 c = let a = c.args in omega (arith, c.next_mark-end.ensures, next_from a.mark a.s.now c.part_start-start.result)

pub slice_bounds-result-end-2 : goal.slice_bounds-result-end-2
slice_bounds-result-end-2 c = let a = c.args in omega (arith, c.next_mark-end.ensures, next_within a.mark a.s.now c.part_start-start.result (omega arith))

pub returns : goal.returns
returns c =
    let q = c.part_start-start.ensures in
    let h : c.part_start-start.result < length c.args.s.now = omega (arith, c.if-s-start.false) in
    same_part (place_there _ _ _ _ q h) (part_there _ _ _ _ q h _ c.next_mark-end.ensures) (record { stands = refl; holds = refl })
