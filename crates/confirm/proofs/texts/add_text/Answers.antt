-- `confirm::texts::add_text` meets its contract. The loop's invariant: the fields before the index are given.
-- Assumes nothing.
use Prim.Native.Nat.{◌+◌}
use mathlib.Core.Path.{◌≡◌}
use mathlib.Core.List.{[], ◌∷◌, ◌++◌}
use lib.ListN.{length}
use Rattle.agreement.specs.Steps.{lv_item}
use Rattle.confirm.proofs.Given.{given_two, given_none, given_more, given_all, text_given}
use borrow.Author.Rules.{rules}
use Rattle.confirm.proofs.texts.add_text.Goals as goal

pub loop-n-init : goal.loop-n-init
loop-n-init c = given_none

pub loop-n-preserved : goal.loop-n-preserved
loop-n-preserved c = given_more c.loop-n.invariant c.loop-n-test.true c.add_field-given.ensures

pub returns : goal.returns
returns c =
    let label = c.args.outline.now.label.now in
    let ns = c.args.outline.now.fields.now in
    let hash = c.args.hash in
    let count = (1 + length ns) ∷ [] in
    let l : length hash.block ≡ 128 = search rules in
    let front = given_two hash l count (lv_item label) c.add-counted.ensures c.add_item-given.ensures in
    text_given hash label ns c.args.request.now.bytes.now (given_all c.loop-n.invariant hash (count ++ lv_item label) c.loop-n-test.false l front)
