-- `cards::card_key` meets its contract: the tests of a card in a row.
-- Assumes nothing.
use mathlib.Core.Path.{◌≡◌, sym, ap, ap₂, ◌∙◌}
use mathlib.Core.Bool.{Bool, true}
use Rattle.text.specs.Text.{is_alphanumeric}
use Rattle.text.proofs.Tests.{true_T}
use Rattle.text.proofs.Loops.{rest_all}
use Rattle.format.specs.Attributes.{appendix_b, name_of}
use Rattle.cards.specs.Steps.{key_of, as_key, holds_at}
use Rattle.cards.proofs.Keys.{is_name, name_above, some_key}
use Rattle.cards.proofs.Cards.{first_three, too_short, no_name, too_long, does_fit, fits_not}
use Rattle.cards.proofs.card_key.Goals as goal
use Rattle.cards.proofs.card_key.Goals.{then-card-lt3-via-then-card-lt3, then-card-lt3-via-else-card-lt3+then-not-is_alphanumeric}

pub returns-then-card-lt3 : goal.returns-then-card-lt3
returns-then-card-lt3 c =
    sym (ap as_key
    (elim c.then-card-lt3.branch [
      | then-card-lt3-via-then-card-lt3 w ↦ too_short c.args.card.now w.if-card-lt3.true
      | then-card-lt3-via-else-card-lt3+then-not-is_alphanumeric w ↦ no_name c.args.card.now (sym w.is_alphanumeric.ensures ∙ w.if-not-is_alphanumeric.true)
    ]))

pub returns-then-value-gt-LONGEST_VALUE : goal.returns-then-value-gt-LONGEST_VALUE
returns-then-value-gt-LONGEST_VALUE c =
    sym (ap as_key (too_long _ (sym c.is_alphanumeric.ensures ∙ c.if-not-is_alphanumeric.false) (rw rest_all at c.if-value-gt-LONGEST_VALUE.true)))

pub returns-then-does_hold : goal.returns-then-does_hold
returns-then-does_hold c =
    let card = c.args.card.now in
    let named : is_alphanumeric 3 (name_of card) ≡ true = sym c.is_alphanumeric.ensures ∙ c.if-not-is_alphanumeric.false in
    let key : c.key_of-key.result ≡ key_of (name_of card) = c.key_of-key.ensures ∙ first_three card in
    let says = sym (c.does_hold.ensures ∙ ap₂ {C = Bool} (λ k v. holds_at appendix_b k v) key (rest_all card 3)) ∙ c.if-does_hold.true in
    some_key c.key_of-key.result _ (rw key (name_above (is_name (name_of card) (true_T _ named))))
    (does_fit card named (rw rest_all at c.if-value-gt-LONGEST_VALUE.false) says ∙ sym key)

pub returns-else-does_hold : goal.returns-else-does_hold
returns-else-does_hold c =
    let card = c.args.card.now in
    let named : is_alphanumeric 3 (name_of card) ≡ true = sym c.is_alphanumeric.ensures ∙ c.if-not-is_alphanumeric.false in
    let key : c.key_of-key.result ≡ key_of (name_of card) = c.key_of-key.ensures ∙ first_three card in
    let says = sym (c.does_hold.ensures ∙ ap₂ {C = Bool} (λ k v. holds_at appendix_b k v) key (rest_all card 3)) ∙ c.if-does_hold.false in
    sym (ap as_key (fits_not card named (rw rest_all at c.if-value-gt-LONGEST_VALUE.false) says))
