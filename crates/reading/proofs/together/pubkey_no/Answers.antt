-- `reading::together::pubkey_no` meets its contract.
-- Assumes nothing.
use mathlib.Core.Path.{sym, ap, ap₂, ◌∙◌}
use mathlib.Core.Bool.{true, false, beq}
use borrow.Author.Tests.{eq-eqb, ne_eqb, not-true, not-false}
use Rattle.reading.specs.Steps.{unless}
use Rattle.reading.proofs.Whole.{pubkey_unpaired, pubkey_paired}
use Rattle.reading.proofs.together.pubkey_no.Goals as goal

pub returns-then-is_empty : goal.returns-then-is_empty
returns-then-is_empty c = ap (λ n. unless n tt) (pubkey_unpaired _ _ _ _ _ (sym (ap₂ beq c.is_empty.ensures c.is_empty-2.ensures) ∙ not-true _ c.if-is_empty.true))

pub returns-then-row-eq-ECDH : goal.returns-then-row-eq-ECDH
returns-then-row-eq-ECDH c =
    c.module_no.ensures
    ∙ ap (λ n. unless n tt) (pubkey_paired _ _ _ _ _ (sym (ap₂ beq c.is_empty.ensures c.is_empty-2.ensures) ∙ not-false _ c.if-is_empty.false) true (eq-eqb _ 4 c.if-row-eq-ECDH.true))

pub returns : goal.returns
returns c = ap (λ n. unless n tt) (pubkey_paired _ _ _ _ _ (sym (ap₂ beq c.is_empty.ensures c.is_empty-2.ensures) ∙ not-false _ c.if-is_empty.false) false (ne_eqb _ 4 c.if-row-eq-ECDH.false))
