-- Parts and the mark after each: STS 600-4-2, clauses 5.7.1 (DFCONCAT) and 5.7.2 (DFPARSE). A record is its kind's name and its fields with
-- such marks, and a list of attributes its cards.
-- Assumes nothing.
use Rattle.std.specs.Prelude.{ℕ, Bool, false, cond, List, [], ◌∷◌, ◌++◌, T, eqb}
use Rattle.text.specs.Text.{Bytes, without}

-- DFCONCAT: each part, and the mark after it
abbrev pub joined : ℕ → List Bytes → Bytes
joined m [] = []
joined m (f ∷ fs) = f ++ m ∷ joined m fs

-- no part has the byte m in it, so that what is joined can be cut again
abbrev pub WithoutAll : ℕ → List Bytes → Type 0
WithoutAll m [] = Unit {0}
WithoutAll m (f ∷ fs) = T (without m f) × WithoutAll m fs

-- the last byte of s, or c if there is none
abbrev pub last_or : ℕ → Bytes → ℕ
last_or c [] = c
last_or c (d ∷ s) = last_or d s

-- m is the last byte of s; no bytes have no last one
abbrev pub ends_in : ℕ → Bytes → Bool
ends_in m [] = false
ends_in m (c ∷ s) = eqb (last_or c s) m

-- the parts that the mark m ends; what no mark ends is a part too
abbrev pub on_first : ℕ → List Bytes → List Bytes
on_first c [] = (c ∷ []) ∷ []
on_first c (f ∷ fs) = (c ∷ f) ∷ fs

abbrev pub cut : ℕ → Bytes → List Bytes
cut m [] = []
cut m (c ∷ s) = cond (eqb c m) ([] ∷ cut m s) (on_first c (cut m s))
