-- `confirm::texts::add_item` meets its contract.
-- Assumes nothing.
use mathlib.Core.List.{[], ◌∷◌}
use lib.ListN.{length}
use Rattle.confirm.proofs.Given.{given_two}
use borrow.Author.Rules.{rules}
use Rattle.confirm.proofs.texts.add_item.Goals as goal

pub returns : goal.returns
returns c =
    let item = c.args.item.now in
    given_two c.args.hash (search rules) (length item ∷ []) item c.add.ensures c.add-2.ensures
