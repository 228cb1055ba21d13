-- `text::alphabet::all_wide` meets its contract. The loop's invariant: all says what holds of the bytes passed, and what is left decides.
-- Assumes nothing.
use Prim.Native.Nat.{ℕ}
use mathlib.Core.Path.{◌≡◌}
use mathlib.Core.Bool.{Bool, ◌&&◌}
use lib.ListN.{drop}
use Rattle.text.specs.Text.{every}
use Rattle.text.specs.Steps.{Tests}
use Rattle.text.proofs.alphabet.all_wide.Given as goal

abbrev pub invariant-loop-c : goal.invariant-loop-c
invariant-loop-c g l =
    goal.F-IsAlwaysCallable g l.does_belong
    × ((p : ℕ → Bool) → Tests (goal.F-post g l.does_belong) p → (l.all && every p (drop l.c-index l.s)) ≡ every p l.s)
