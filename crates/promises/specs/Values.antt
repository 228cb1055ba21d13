-- Values that a document states, beside what computes them.
-- Assumes nothing.
use Rattle.std.specs.Prelude.{ℕ, zero, suc, ◌+◌, ◌≡◌, Bool, cond, List, [], ◌∷◌, ◌++◌, ℤ}
use Rattle.text.specs.Text.{Bytes}
use Rattle.format.specs.Kinds.{Field}

-- what is computed, and what it must be
pub data Value : Type 0 where
  number : ℕ → ℕ → Value
  signed : ℤ → ℤ → Value
  bytes : Bytes → Bytes → Value
  test : Bool → Bool → Value
  types : List Field → List Field → Value

abbrev pub Comes : Value → Type 0
Comes (number n m) = n ≡ m
Comes (signed x y) = x ≡ y
Comes (bytes s t) = s ≡ t
Comes (test b c) = b ≡ c
Comes (types ts us) = ts ≡ us

abbrev pub AllCome : List Value → Type 0
AllCome [] = Unit {0}
AllCome (v ∷ vs) = Comes v × AllCome vs

-- those of the n numbers from c on that make the test true between `before` and `after`
unfoldable pub admitted_from : ℕ → ℕ → (Bytes → Bool) → Bytes → Bytes → Bytes
admitted_from zero c is before after = []
admitted_from (suc n) c is before after =
    cond (is (before ++ c ∷ after)) (c ∷ admitted_from n (suc c) is before after) (admitted_from n (suc c) is before after)

-- of all byte values
abbrev pub admitted : (Bytes → Bool) → Bytes → Bytes → Bytes
admitted is before after = admitted_from 256 0 is before after
