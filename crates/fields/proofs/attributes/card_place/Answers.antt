-- `fields::attributes::card_place` meets its contract: the tests in a row.
-- Assumes nothing.
use mathlib.Core.Path.{refl, ap, ◌∙◌}
use Rattle.frame.specs.Frame.{part_start}
use native.Mathlib.Omega.{arith}
use Rattle.fields.proofs.Cards.{card_number, card_some, place_refused, place_zero, place_past, card_ends, card_within, place_there}
use Rattle.fields.proofs.attributes.card_place.Goals as goal

pub returns-then-answer-ne-ACCEPTED : goal.returns-then-answer-ne-ACCEPTED
returns-then-answer-ne-ACCEPTED c = rw c.nowhere.ensures (place_refused _ _ _ c.requires c.if-answer-ne-ACCEPTED.true)

pub returns-in_default : goal.returns-in_default
returns-in_default c = rw (c.nowhere-in_default.ensures, c.in_default.is) (place_zero _ _ _ c.requires c.if-answer-ne-ACCEPTED.false refl)

pub returns-then-list-start : goal.returns-then-list-start
returns-then-list-start c =
    rw c.nowhere-then-list-start.ensures
    (rw c.in-Some.is (place_past _ _ _ c.requires c.if-answer-ne-ACCEPTED.false (card_some _) _ c.list_of-list.ensures _ (c.part_start-start.ensures ∙ ap (part_start 59 _) (card_number _)) c.if-list-start.true))

pub overflow_add-result : goal.overflow_add-result
overflow_add-result c = omega (arith, card_within _ _ _ c.requires c.if-answer-ne-ACCEPTED.false (card_some _) _ c.list_of-list.ensures _ (c.part_start-start.ensures ∙ ap (part_start 59 _) (card_number _)) c.if-list-start.false _ c.next_mark-end.ensures _ refl)

pub overflow_sub-result : goal.overflow_sub-result
overflow_sub-result c = (card_ends _ _ c.if-list-start.false _ c.next_mark-end.ensures).0

pub returns : goal.returns
returns c = rw c.in-Some.is (place_there _ _ _ c.requires c.if-answer-ne-ACCEPTED.false (card_some _) _ c.list_of-list.ensures _ (c.part_start-start.ensures ∙ ap (part_start 59 _) (card_number _)) c.if-list-start.false _ c.next_mark-end.ensures _ refl)
