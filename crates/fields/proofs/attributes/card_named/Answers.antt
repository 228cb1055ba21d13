-- `fields::attributes::card_named` meets its contract: the loop's invariant says that what is left decides, and that no number is past its place.
-- Assumes nothing.
use Prim.Native.Nat.{suc, ◌+◌}
use mathlib.Core.Path.{◌≡◌, sym, ◌∙◌}
use native.Mathlib.Omega.{arith}
use Rattle.fields.proofs.Cards.{named_start, card_ends, named_here, named_on, named_end}
use Rattle.fields.proofs.attributes.card_named.Goals as goal

pub loop-i-init : goal.loop-i-init
loop-i-init c = (named_start c.args.list.now c.args.name.now, omega arith)

pub slice_bounds-name_of-count : goal.slice_bounds-name_of-count
slice_bounds-name_of-count c = (card_ends _ _ c.loop-i-test.true _ c.next_mark-end.ensures).0

pub slice_bounds-name_of-start : goal.slice_bounds-name_of-start
slice_bounds-name_of-start c = omega (arith, card_ends _ _ c.loop-i-test.true _ c.next_mark-end.ensures)

pub slice_bounds-name_of-end : goal.slice_bounds-name_of-end
slice_bounds-name_of-end c = (card_ends _ _ c.loop-i-test.true _ c.next_mark-end.ensures).1

pub returns-then-are_same : goal.returns-then-are_same
returns-then-are_same c = sym (named_here _ _ _ _ c.loop-i-test.true _ c.next_mark-end.ensures _ c.name_of.ensures (sym c.are_same.ensures ∙ c.if-are_same.true)) ∙ c.loop-i.invariant.0

pub overflow_add-card : goal.overflow_add-card
overflow_add-card c = omega (arith, c.loop-i.invariant.1)

pub overflow_add-i : goal.overflow_add-i
overflow_add-i c = omega (arith, card_ends _ _ c.loop-i-test.true _ c.next_mark-end.ensures)

pub loop-i-smaller : goal.loop-i-smaller
loop-i-smaller c = omega (arith, card_ends _ _ c.loop-i-test.true _ c.next_mark-end.ensures)

pub loop-i-preserved : goal.loop-i-preserved
loop-i-preserved c =
    let e : suc (c.loop-i.card + 1) ≡ suc c.loop-i.card + 1 = omega arith in
    (rw e (named_on _ _ _ _ c.loop-i-test.true _ c.next_mark-end.ensures _ c.name_of.ensures (sym c.are_same.ensures ∙ c.if-are_same.false) ∙ c.loop-i.invariant.0), omega (arith, c.loop-i.invariant.1, card_ends _ _ c.loop-i-test.true _ c.next_mark-end.ensures))

pub returns : goal.returns
returns c = sym (named_end _ _ _ _ c.loop-i-test.false) ∙ c.loop-i.invariant.0
