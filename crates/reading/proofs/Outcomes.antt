-- Outcomes: what passes and what stops, and number 1.
-- Assumes nothing.
use Rattle.std.specs.Prelude.{Ok, Err, is_ok}
use mathlib.Core.Bool.{true≢false, false≢true}
use Rattle.reading.specs.Steps.{unless}
use Prim.Native.Nat.{ℕ, zero, suc, ◌≤◌, ◌<◌}
use mathlib.Core.Path.{◌≡◌, refl, ap}
use mathlib.Core.List.{List}
use native.Mathlib.Omega.{arith}
use lib.ListN.{length}
use borrow.Author.Tests.{le-leb, lt-leb}
use Rattle.text.specs.Text.{Bytes}
use Rattle.format.specs.Kinds.{Kind}
use Rattle.format.specs.Read.{Outcome, refused, passing, title, mark_after, kind_in, of_kind, read_as, read_over}
use Rattle.format.specs.declared.Rules.{Rules}

pub passing_stop : (n i : ℕ) (o : Outcome) → (n ≡ 0 → ⊥) → passing n i o ≡ refused n i
passing_stop zero i o h = absurd (h refl)
passing_stop (suc n) i o h = refl

pub passing_on : (n i : ℕ) (o : Outcome) → n ≡ 0 → passing n i o ≡ o
passing_on zero i o h = refl
passing_on (suc n) i o h = absurd (omega arith)

-- what an `Ok` and an `Err` tell of the number and of the outcome
pub unless_ok : {A : Type 0} (n : ℕ) (a b : A) → Ok a ≡ unless n b → (n ≡ 0) × (a ≡ b)
unless_ok zero a b e = (refl, search e)
unless_ok (suc n) a b e = absurd (true≢false (ap is_ok e))

pub unless_err : {A : Type 0} (n m : ℕ) (b : A) → Err m ≡ unless n b → (m ≡ n) × (n ≡ 0 → ⊥)
unless_err zero m b e = absurd (false≢true (ap is_ok e))
unless_err (suc n) m b e = (search e, λ z. omega arith)

pub unless_not : {A : Type 0} (n : ℕ) (b : A) → (n ≡ 0 → ⊥) → Err n ≡ unless n b
unless_not zero b h = absurd (h refl)
unless_not (suc n) b h = refl

pub passing_as : {a b : ℕ} (i : ℕ) (o : Outcome) → a ≡ b → passing a i o ≡ passing b i o
passing_as i o e = ap (λ (x : ℕ). passing x i o) e

module _ (rules : Rules) (ask : Bytes → Outcome) (ks : List Kind) (s : Bytes) where
  pub over_long : 1024 < length s → read_over rules ask ks s ≡ refused 1 0
  unfolding read_over
  over_long h = rw (lt-leb (length s) 1024 h)

  pub over_kind : length s ≤ 1024 → read_over rules ask ks s ≡ of_kind (kind_in ks (title s) (mark_after s)) (read_as rules ask s)
  unfolding read_over
  over_kind h = rw (le-leb (length s) 1024 h)
