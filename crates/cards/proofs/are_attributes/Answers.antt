-- `cards::are_attributes` meets its contract: the last byte, and then the cards.
-- Assumes nothing.
use mathlib.Core.Path.{sym, ◌∙◌}
use Rattle.frame.proofs.Check.{ends_last}
use Rattle.cards.proofs.Cards.{open_end, ended}
use Rattle.cards.proofs.are_attributes.Goals as goal

pub returns-then-eq : goal.returns-then-eq
returns-then-eq c =
    c.are_cards.ensures
    ∙ sym (ended c.args.list.now (sym (ends_last c.args.list.now c.last.result _ c.last.ensures.value) ∙ sym c.eq.ensures ∙ c.if-eq.true))

pub returns-else-eq : goal.returns-else-eq
returns-else-eq c =
    c.if-eq.false
    ∙ sym (open_end c.args.list.now (sym (ends_last c.args.list.now c.last.result _ c.last.ensures.value) ∙ sym c.eq.ensures ∙ c.if-eq.false))
