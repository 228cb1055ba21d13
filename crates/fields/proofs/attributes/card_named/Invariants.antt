-- `fields::attributes::card_named` meets its contract: the loop's invariant says that what is left decides, and that no number is past its place.
-- Assumes nothing.
use Prim.Native.Nat.{suc, ◌-◌, ◌≤◌}
use mathlib.Core.Path.{◌≡◌}
use lib.ListN.{length, drop}
use Rattle.format.specs.Attributes.{cards_in}
use Rattle.fields.specs.Attributes.{named_from, number_named}
use Rattle.fields.proofs.attributes.card_named.Given as goal

abbrev pub invariant-loop-i : goal.invariant-loop-i
invariant-loop-i l = (named_from (suc l.card) l.name (cards_in (drop l.i l.list)) ≡ number_named l.name (cards_in l.list)) × (l.card ≤ l.i)

abbrev pub decreases-loop-i : goal.decreases-loop-i
decreases-loop-i l = length l.list - l.i
