-- `confirm::tags::derived` meets its contract.
-- Assumes nothing.
use Rattle.confirm.proofs.Keys.{derived_so}
use Rattle.confirm.proofs.tags.derived.Goals as goal

pub returns : goal.returns
returns c =
    let a = c.args in
    derived_so a.z.now a.request.now.bytes.now c.begin.ensures c.add.ensures c.add-counted.ensures c.add_text.ensures c.end.ensures
