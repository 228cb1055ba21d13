-- `text::moment::moment_of` meets its contract.
-- Assumes nothing.
use Prim.Native.Nat.{ℕ}
use mathlib.Core.Path.{ap, ◌∙◌}
use mathlib.Core.Bool.{true}
use lib.IntN.{ℤ, sub_ℕ}
use mir.Syntax.{w64}
use mir.ValLaws.{to_z-of_z}
use Rattle.text.specs.Seconds.{since_year_one, start, seconds, moment_of}
use Rattle.text.proofs.moment.moment_of.Goals as goal

pub returns-in-Some : goal.returns-in-Some
unfolding moment_of seconds
returns-in-Some c =
    rw c.in-Some.ensures.0
    (ap (λ (z : ℤ). record { valid = true; seconds = z })
    (to_z-of_z w64 _ (record { sfits = c.since_start.type_inv })
    ∙ c.since_start.ensures
    ∙ ap (λ (n : ℕ). sub_ℕ n (since_year_one start)) (c.since_year_one.ensures.0 ∙ ap since_year_one c.in-Some.ensures.1)))

pub returns-in-None : goal.returns-in-None
unfolding moment_of
returns-in-None c = rw c.in-None.ensures
