-- `cards::are_cards` meets its contract. The loop's invariant: the walk over the cards that are left decides.
-- Assumes nothing.
use mathlib.Core.Path.{refl, sym, ◌∙◌}
use native.Mathlib.Omega.{arith}
use lib.ListN.{get_or}
use Rattle.format.specs.Attributes.{appendix_b, cards_in}
use Rattle.cards.specs.Steps.{needed_in, needed_after}
use Rattle.cards.proofs.Keys.{some_back, none_back, none_told}
use Rattle.cards.proofs.Cards.{one_walk, ends_behind, ends_within, turn_stop, turn_on, turn_end}
use Rattle.cards.proofs.are_cards.Goals as goal

pub loop-i-init : goal.loop-i-init
loop-i-init c = (get_or (needed_in appendix_b) 0 0, refl, one_walk (cards_in c.args.list.now))

pub slice_bounds-card_key-count : goal.slice_bounds-card_key-count
slice_bounds-card_key-count c = ends_behind _ _ _ c.loop-i-test.true c.next_mark-end.ensures

pub slice_bounds-card_key-start : goal.slice_bounds-card_key-start
slice_bounds-card_key-start c = omega (arith, ends_behind _ _ _ c.loop-i-test.true c.next_mark-end.ensures)

pub slice_bounds-card_key-end : goal.slice_bounds-card_key-end
slice_bounds-card_key-end c = ends_within _ _ _ c.loop-i-test.true c.next_mark-end.ensures

pub returns-in_default : goal.returns-in_default
returns-in_default c =
    sym (turn_stop _ _ _ c.loop-i-test.true c.next_mark-end.ensures c.loop-i.before c.loop-i.invariant.0 0 (sym (none_back _ c.in_default.ensures)) (omega arith))
    ∙ c.loop-i.invariant.2

pub returns-then-key-before : goal.returns-then-key-before
returns-then-key-before c =
    sym (turn_stop _ _ _ c.loop-i-test.true c.next_mark-end.ensures _ _ c.in-Some.key (some_back _ _ c.in-Some.ensures) c.if-key-before.true) ∙ c.loop-i.invariant.2

pub overflow_add-i : goal.overflow_add-i
overflow_add-i c = omega (arith, ends_within _ _ _ c.loop-i-test.true c.next_mark-end.ensures)

pub loop-i-smaller : goal.loop-i-smaller
loop-i-smaller c = omega (arith, ends_behind _ _ _ c.loop-i-test.true c.next_mark-end.ensures)

pub loop-i-preserved : goal.loop-i-preserved
loop-i-preserved c =
    let i = c.loop-i.invariant in (
      needed_after i.0 c.in-Some.key,
      c.needed_after-needed.ensures i.0 i.1,
      turn_on _ _ _ c.loop-i-test.true c.next_mark-end.ensures _ _ c.in-Some.key (some_back _ _ c.in-Some.ensures) c.if-key-before.false ∙ i.2,
    )

pub returns : goal.returns
returns c =
    let i = c.loop-i.invariant in
    none_told i.0 c.loop-i.needed c.is_none.result i.1 c.is_none.ensures ∙ sym (turn_end _ _ _ _ c.loop-i-test.false) ∙ i.2
