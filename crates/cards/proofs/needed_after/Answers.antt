-- `cards::needed_after` meets its contract: each required name, and the next.
-- Assumes nothing.
use mathlib.Core.Path.{refl, sym, ap, ◌∙◌}
use native.Mathlib.Omega.{arith}
use lib.Dec.{eqb}
use borrow.Author.Tests.{eq-eqb, ne_eqb}
use Rattle.cards.specs.Steps.{as_key, needed_after}
use Rattle.cards.proofs.Keys.{told_apart, same_told}
use Rattle.cards.proofs.Needed.{either_way, other_card}
use Rattle.cards.proofs.needed_after.Goals as goal

pub returns-then-ne : goal.returns-then-ne
returns-then-ne c n e = other_card n c.args.key c.args.needed e (told_apart c.args.needed c.args.key (sym c.ne.ensures ∙ c.if-ne.true))

pub returns-in-4277076 : goal.returns-in-4277076
unfolding needed_after
returns-in-4277076 c n e = let same = same_told n c.args.key c.args.needed e (sym c.ne.ensures ∙ c.if-ne.false) in rw (← same, c.in-4277076.is)

pub returns-in-4342868 : goal.returns-in-4342868
unfolding needed_after
returns-in-4342868 c n e = let same = same_told n c.args.key c.args.needed e (sym c.ne.ensures ∙ c.if-ne.false) in rw (← same, c.in-4342868.is)

pub returns-in-4475719 : goal.returns-in-4475719
unfolding needed_after
returns-in-4475719 c n e = let same = same_told n c.args.key c.args.needed e (sym c.ne.ensures ∙ c.if-ne.false) in rw (← same, c.in-4475719.is)

pub returns-in-4932942 : goal.returns-in-4932942
unfolding needed_after
returns-in-4932942 c n e = let same = same_told n c.args.key c.args.needed e (sym c.ne.ensures ∙ c.if-ne.false) in rw (← same, c.in-4932942.is)

pub returns-in-4936270 : goal.returns-in-4936270
unfolding needed_after
returns-in-4936270 c n e = let same = same_told n c.args.key c.args.needed e (sym c.ne.ensures ∙ c.if-ne.false) in rw (← same, c.in-4936270.is)

pub returns-in-4936771 : goal.returns-in-4936771
unfolding needed_after
returns-in-4936771 c n e = let same = same_told n c.args.key c.args.needed e (sym c.ne.ensures ∙ c.if-ne.false) in rw (← same, c.in-4936771.is)

pub returns-in_default : goal.returns-in_default
unfolding needed_after
returns-in_default c n e =
    let same = same_told n c.args.key c.args.needed e (sym c.ne.ensures ∙ c.if-ne.false) in
    let key = c.args.key in
    rw (← same, eq-eqb key key refl, ne_eqb key 4277076 (λ q. omega arith), ne_eqb key 4342868 (λ q. omega arith), ne_eqb key 4475719 (λ q. omega arith), ne_eqb key 4932942 (λ q. omega arith), ne_eqb key 4936270 (λ q. omega arith), ne_eqb key 4936771 (λ q. omega arith))
    (ap as_key (sym (either_way (eqb key 5457731) 0)))
