-- `text::date::looks_like` meets its contract.
-- Assumes nothing.
use Prim.Native.Nat.{ℕ}
use mathlib.Core.Path.{sym, ◌∙◌}
use borrow.Author.Rules.{rules}
use borrow.Author.Tests.{ne_eqb}
use Rattle.std.proofs.lemmas.Iterator.{YieldsList-from_slice, YieldsList-from_zip}
use Rattle.std.proofs.lemmas.Iterator.Search.{all_from_yields_List}
use Rattle.text.specs.Text.{fits, looks}
use Rattle.text.proofs.Loops.{looks_pairwise, apart, pairwise_zip}
use Rattle.text.proofs.date.looks_like.Goals as goal

pub returns-then-pattern-s : goal.returns-then-pattern-s
returns-then-pattern-s c =
    all_from_yields_List {s = c.zip.result} (λ (x : ℕ × ℕ). fits x.0 x.1) c.all.new.self _ _ c.all.ensures.ran
    (YieldsList-from_zip {s = c.zip.result} (YieldsList-from_slice {s = c.zip.result.a} c.args.pattern.now cc) (YieldsList-from_slice {s = c.zip.result.b} c.args.s.now cc)) (λ x b q k. search rules)
    ∙ pairwise_zip fits looks looks_pairwise c.args.pattern.now c.args.s.now c.if-pattern-s.true

pub returns-else-pattern-s : goal.returns-else-pattern-s
returns-else-pattern-s c =
    ne_eqb _ _ c.if-pattern-s.false ∙ sym (apart fits looks looks_pairwise c.args.pattern.now c.args.s.now c.if-pattern-s.false)
