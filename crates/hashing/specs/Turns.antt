-- The loops in which FIPS 180-4 describes a hash.
-- Assumes nothing.
use Rattle.std.specs.Prelude.{ℕ, zero, suc, List, [], ◌∷◌, ◌++◌}

-- "For t = 0 to n - 1": what v has become by the first n turns, each of which is told its number
unfoldable pub turns : {A : Type 0} → (A → ℕ → A) → A → ℕ → A
turns turn v zero = v
turns turn v (suc n) = turn (turns turn v n) n

-- the words l, and n more, each made of those before it and of its number
unfoldable pub grown : (List ℕ → ℕ → ℕ) → List ℕ → ℕ → List ℕ
grown next = turns (λ w n. w ++ next w n ∷ [])
