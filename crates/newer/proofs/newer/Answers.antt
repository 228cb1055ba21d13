-- `newer::newer` meets its contract.
-- Assumes nothing.
use mathlib.Core.Path.{refl}
use Rattle.newer.proofs.Choosing.{chosen_none, chosen_second, chosen_first}
use Rattle.newer.proofs.newer.Goals as goal

pub returns-then-choice-ne-ACCEPTED : goal.returns-then-choice-ne-ACCEPTED
returns-then-choice-ne-ACCEPTED c = chosen_none _ _ c.newer_of-choice.ensures c.if-choice-ne-ACCEPTED.true (record { stands = refl; holds = refl })

pub returns-then-choice-eq-SECOND : goal.returns-then-choice-eq-SECOND
returns-then-choice-eq-SECOND c = chosen_second _ c.newer_of-choice.ensures c.if-choice-ne-ACCEPTED.false c.if-choice-eq-SECOND.true refl

pub returns : goal.returns
returns c = chosen_first _ c.newer_of-choice.ensures c.if-choice-ne-ACCEPTED.false c.if-choice-eq-SECOND.false refl
