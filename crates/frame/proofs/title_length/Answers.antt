-- `frame::title_length` meets its contract.
-- Assumes nothing.
use mathlib.Core.Path.{◌≡◌, sym, ◌∙◌}
use mathlib.Core.Bool.{true, false}
use borrow.Author.Rules.{rules}
use Rattle.std.proofs.lemmas.Iterator.{YieldsList-from_slice, IsFirst-from_position}
use Rattle.format.specs.Read.{is_mark}
use Rattle.frame.proofs.Title.{title_first}
use Rattle.frame.proofs.title_length.Goals as goal

pub returns : goal.returns
returns c =
    c.unwrap_or.ensures
    ∙ sym (title_first c.args.s.now c.position.result
    (IsFirst-from_position _ _ _ (λ x. is_mark x ≡ true) (λ x. is_mark x ≡ false) c.position.ensures.ran (YieldsList-from_slice c.args.s.now cc) (λ x q k. search rules) (λ x q k. search rules)))
