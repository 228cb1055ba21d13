-- `text::alphabet::all_plain` meets its contract.
-- Assumes nothing.
use mathlib.Core.Path.{◌∙◌}
use borrow.Author.Rules.{rules}
use Rattle.std.proofs.lemmas.Iterator.{YieldsList-from_slice}
use Rattle.std.proofs.lemmas.Iterator.Search.{all_from_yields_List}
use Rattle.text.proofs.Loops.{every_all}
use Rattle.text.proofs.alphabet.all_plain.Goals as goal

pub returns : goal.returns
returns g c p h = all_from_yields_List p _ _ _ c.all.ensures.ran (YieldsList-from_slice c.args.s.now cc) (λ x b q k. search (rules, h)) ∙ every_all p c.args.s.now
