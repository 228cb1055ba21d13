-- `newer::by_subjects` meets its contract.
-- Assumes nothing.
use mathlib.Core.Path.{sym, ap₂, ◌∙◌}
use mathlib.Core.Bool.{true, false}
use borrow.Author.Tests.{not-true, not-false}
use Rattle.text.specs.Later.{later}
use Rattle.newer.proofs.Choosing.{said_unlike, said_alike}
use Rattle.newer.proofs.by_subjects.Goals as goal

pub returns-then-not-are_alike : goal.returns-then-not-are_alike
returns-then-not-are_alike c = λ p q. said_unlike _ _ p q (sym c.are_alike.ensures ∙ not-true _ c.if-not-are_alike.true-raw)

pub returns-then-is_second : goal.returns-then-is_second
returns-then-is_second c = λ p q. said_alike _ _ p q (sym c.are_alike.ensures ∙ not-false _ c.if-not-are_alike.false-raw) true (sym (c.is_later-is_second.ensures ∙ ap₂ later c.field_in.ensures.holds c.field_in-2.ensures.holds) ∙ c.if-is_second.true)

pub returns-else-is_second : goal.returns-else-is_second
returns-else-is_second c = λ p q. said_alike _ _ p q (sym c.are_alike.ensures ∙ not-false _ c.if-not-are_alike.false-raw) false (sym (c.is_later-is_second.ensures ∙ ap₂ later c.field_in.ensures.holds c.field_in-2.ensures.holds) ∙ c.if-is_second.false)
