-- `frame::next_mark` meets its contract.
-- Assumes nothing.
use Prim.Native.Nat.{◌+◌}
use mathlib.Core.Path.{◌≡◌, sym, ap, ◌∙◌}
use native.Mathlib.Omega.{arith}
use borrow.Author.Rules.{rules}
use lib.ListN.{length, drop}
use Rattle.std.proofs.lemmas.Iterator.{YieldsList-from_slice, IsFirst-from_position}
use Rattle.text.proofs.Loops.{rest_all}
use Rattle.format.specs.Files.{up_to}
use Rattle.frame.specs.Frame.{next_mark}
use Rattle.frame.proofs.Parts.{next_end, up_to_first}
use Rattle.frame.proofs.next_mark.Goals as goal

pub returns-in-Some : goal.returns-in-Some
unfolding next_mark
returns-in-Some c =
    let e : c.in-Some.rest.now ≡ drop c.args.from c.args.s.now = c.in-Some.ensures.lookup.0.2 ∙ rest_all c.args.s.now c.args.from in
    ap (λ n. c.args.from + n)
    (c.unwrap_or.ensures
    ∙ sym (up_to_first c.args.mark c.in-Some.rest.now c.position.result
    (IsFirst-from_position _ _ _ (λ x. x ≡ c.args.mark) (λ x. x ≡ c.args.mark → ⊥) c.position.ensures.ran (YieldsList-from_slice c.in-Some.rest.now cc) (λ x q k. search rules) (λ x q k. search rules)))
    ∙ ap (λ s. length (up_to c.args.mark s)) e)

pub returns-in-None : goal.returns-in-None
returns-in-None c = sym (next_end c.args.mark c.args.s.now c.args.from (grind (arith, c.in-None.ensures.lookup)))
