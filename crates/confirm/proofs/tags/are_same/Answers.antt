-- `confirm::tags::are_same` meets its contract. The loop's invariant: what differs before what is left is in `differing`.
-- Assumes nothing.
use mathlib.Core.Path.{refl, ◌∙◌}
use mathlib.Core.Logic.{inl, inr}
use Rattle.confirm.proofs.Compared.{compared_more, compared_all}
use Rattle.confirm.proofs.tags.are_same.Goals as goal

pub loop-x-init : goal.loop-x-init
loop-x-init c =
    rw (c.into_iter-x-iterator.ensures.into_iter_gives, c.zip-x-items.ensures.first, c.zip-x-items.ensures.second.0, c.iter.ensures.rest) (c.requires, refl)

pub loop-x-preserved : goal.loop-x-preserved
loop-x-preserved c = compared_more c.args.a.now c.args.b.now c.loop-x.differing _ _ c.in-Some.ensures.steps.0 c.in-Some.ensures.steps.1 c.loop-x.invariant

pub returns : goal.returns
returns c =
    let a = c.args.a.now in
    let b = c.args.b.now in
    let d = c.loop-x in
    elim c.in-None.ensures.steps [
      | inl n ↦ compared_all a b d.differing _ _ n.1.0 d.invariant
      | inr n ↦ compared_all a b d.differing _ _ (d.invariant.0 ∙ n.1.0) d.invariant
    ]
