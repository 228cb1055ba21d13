-- `newer::newer_of` meets its contract.
-- Assumes nothing.
use mathlib.Core.Path.{ap, ◌∙◌}
use Rattle.newer.specs.Newer.{choice_said}
use Rattle.newer.proofs.Choosing.{said_first, said_second, first_named, second_named, by_keys}
use Rattle.newer.proofs.newer_of.Goals as goal

pub returns-then-one-ne-ACCEPTED : goal.returns-then-one-ne-ACCEPTED
returns-then-one-ne-ACCEPTED c = said_first c.args.first.now c.args.second.now _ c.read_key-one.ensures c.if-one-ne-ACCEPTED.true

pub returns-then-other-ne-ACCEPTED : goal.returns-then-other-ne-ACCEPTED
returns-then-other-ne-ACCEPTED c = said_second c.args.first.now c.args.second.now _ c.read_key-one.ensures c.if-one-ne-ACCEPTED.false _ c.read_key-other.ensures c.if-other-ne-ACCEPTED.true

pub returns : goal.returns
returns c = c.by_subjects.ensures (first_named c.args.first.now c.args.second.now _ c.read_key-one.ensures c.if-one-ne-ACCEPTED.false _ c.read_key-other.ensures c.if-other-ne-ACCEPTED.false _ _ c.subject_of.ensures c.subject_of-2.ensures) (second_named c.args.first.now c.args.second.now _ c.read_key-one.ensures c.if-one-ne-ACCEPTED.false _ c.read_key-other.ensures c.if-other-ne-ACCEPTED.false _ _ c.subject_of.ensures c.subject_of-2.ensures) ∙ ap choice_said (by_keys c.args.first.now c.args.second.now _ c.read_key-one.ensures c.if-one-ne-ACCEPTED.false _ c.read_key-other.ensures c.if-other-ne-ACCEPTED.false _ _ c.subject_of.ensures c.subject_of-2.ensures)
