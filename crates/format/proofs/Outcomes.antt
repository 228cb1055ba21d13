-- What a call says: what holds of its refusals, and of its last outcome if the tests pass, holds of the call. So no refusal has
-- the number 0.
-- Assumes nothing.
use Prim.Native.Nat.{ℕ, zero, suc}
use mathlib.Core.Path.{◌≡◌, refl}
use mathlib.Core.Option.{Option, none, some}
use mathlib.Core.Bool.{Bool, true, false}
use mathlib.Core.List.{List}
use native.Mathlib.Omega.{arith}
use lib.Dec.{T}
use Rattle.text.specs.Text.{Bytes}
use Rattle.numbers.specs.Numbers.{unknown_kind}
use Rattle.format.specs.Kinds.{Kind}
use Rattle.format.specs.Read.{Outcome, accepted, refused, answer, provided, passing, of_kind}

pub never : {n i : ℕ} {k : Kind} {fs : List Bytes} → refused n i ≡ accepted k fs → ⊥
never e = let z : ◌≡◌ {A = ℕ} 0 1 = cc in omega arith

-- ---- a law of outcomes

module _ (S : Outcome → Type 0) where
  pub provided_law : (b : Bool) (n : ℕ) (o : Outcome) → S (refused n 0) → (T b → S o) → S (provided b n o)
  provided_law true n o r f = f tt
  provided_law false n o r f = r

  pub passing_law : (n i : ℕ) (o : Outcome) → ((m : ℕ) → S (refused (suc m) i)) → (n ≡ 0 → S o) → S (passing n i o)
  passing_law zero i o r f = f refl
  passing_law (suc n) i o r f = r n

  pub of_kind_law : (k : Option Kind) (o : Kind → Outcome) → S (refused unknown_kind 0) → ((j : Kind) → k ≡ some j → S (o j)) → S (of_kind k o)
  of_kind_law none o r f = r
  of_kind_law (some j) o r f = f j refl

-- ---- an honest outcome accepts what P holds of, and refuses with another number than 0

abbrev pub Honest : (Kind → List Bytes → Type 0) → Outcome → Type 0
Honest P (accepted k fs) = P k fs
Honest P (refused zero i) = ⊥
Honest P (refused (suc n) i) = Unit {0}

pub honest_map : {P Q : Kind → List Bytes → Type 0} → ((k : Kind) (fs : List Bytes) → P k fs → Q k fs) → (o : Outcome) → Honest P o → Honest Q o
honest_map f (accepted k fs) h = f k fs h
honest_map f (refused zero i) h = h
honest_map f (refused (suc n) i) h = h

pub honest_zero : (P : Kind → List Bytes → Type 0) (o : Outcome) → Honest P o → answer o ≡ 0 → (k : Kind) × (fs : List Bytes) × (o ≡ accepted k fs)
honest_zero P (accepted k fs) h e = (k, fs, refl)
honest_zero P (refused zero i) h e = absurd h
honest_zero P (refused (suc n) i) h e = absurd (omega arith)

-- a refusal has another number than 0, and every refusal of a call
abbrev pub Numbered : Outcome → Type 0
Numbered o = Honest (λ k fs. Unit {0}) o

abbrev pub NeverZero : (Bytes → Outcome) → Type 0
NeverZero call = (s : Bytes) → Numbered (call s)

pub honest_of : (P : Kind → List Bytes → Type 0) (o : Outcome) → Numbered o → ((k : Kind) (fs : List Bytes) → o ≡ accepted k fs → P k fs) → Honest P o
honest_of P (accepted k fs) h f = f k fs refl
honest_of P (refused zero i) h f = h
honest_of P (refused (suc n) i) h f = h
