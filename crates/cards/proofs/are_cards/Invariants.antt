-- `cards::are_cards` meets its contract. The loop's invariant: the walk over the cards that are left decides.
-- Assumes nothing.
use Prim.Native.Nat.{ℕ, ◌-◌}
use mathlib.Core.Path.{◌≡◌}
use mathlib.Core.Bool.{◌&&◌}
use mathlib.Core.List.{[]}
use lib.ListN.{length, drop}
use Rattle.format.specs.Attributes.{appendix_b, are_cards, has_needed, cards_in}
use Rattle.cards.specs.Steps.{as_key}
use Rattle.cards.proofs.Needed.{walk}
use Rattle.cards.proofs.Cards.{keys_of}
use Rattle.cards.proofs.are_cards.Given as goal

abbrev pub invariant-loop-i : goal.invariant-loop-i
invariant-loop-i l =
    (n : ℕ) × (l.needed ≡ as_key n)
    × (walk l.before n (keys_of (cards_in (drop l.i l.list))) ≡ (are_cards [] (cards_in l.list) && has_needed appendix_b (cards_in l.list)))

abbrev pub decreases-loop-i : goal.decreases-loop-i
decreases-loop-i l = length l.list - l.i
