-- Folding: joining the rows undoes it; no byte comes into a row that the whole has not, and each row has 64 characters or ends as the whole does.
-- Assumes nothing.
use Prim.Native.Nat.{ℕ, zero, suc, ◌+◌, ◌*◌, ◌/◌, ◌≤◌, ◌<◌}
use mathlib.Core.Path.{◌≡◌, refl, sym, ap, ◌∙◌, subst}
use mathlib.Core.Logic.{◌⊎◌, inl, inr}
use mathlib.Core.Bool.{not}
use mathlib.Core.List.{[], ◌∷◌, ◌++◌, flatten}
use native.Mathlib.Omega.{arith}
use lib.Dec.{T, eqb}
use lib.ListN.{length, take, drop, length-drop, take-append-drop}
use lib.Seq.{length-take-le, take_all}
use Rattle.text.specs.Text.{Bytes, without}
use Rattle.text.proofs.Tests.{every_parts}
use Rattle.format.specs.Build.{WithoutAll}
use Rattle.format.specs.Read.{last_or}
use Rattle.format.proofs.Table.{All}
use Rattle.format.proofs.Parts.{last_append, last_any}
use Rattle.mail.specs.Mail.{rows, folded}

-- ---- as many rows as there must be

-- n rows hold the bytes of s, and one row fewer does not
abbrev pub Enough : ℕ → Bytes → Type 0
Enough n s = (length s ≤ 64 * n) × (64 * n < length s + 64)

pub enough : (s : Bytes) → Enough ((length s + 63) / 64) s
enough s = (omega arith, omega arith)

pub fewer : (n : ℕ) (s : Bytes) → Enough (suc (suc n)) s → (64 < length s) × Enough (suc n) (drop 64 s)
fewer n s h = (omega (arith, h.1), (omega (arith, h.0, length-drop 64 s), omega (arith, h.1, length-drop 64 s)))

-- ---- joining undoes folding

flat_rows : (n : ℕ) (s : Bytes) → length s ≤ 64 * n → flatten (rows n s) ≡ s
unfolding rows flatten
flat_rows zero [] h = refl
flat_rows zero (c ∷ s) h = absurd (omega arith)
flat_rows (suc n) s h = ap (λ (r : Bytes). take 64 s ++ r) (flat_rows n (drop 64 s) (omega (arith, length-drop 64 s))) ∙ take-append-drop 64 s

pub flat_folded : (s : Bytes) → flatten (folded s) ≡ s
flat_folded s = flat_rows _ s (enough s).0

-- ---- no row has a byte that the whole has not

rows_without : (m n : ℕ) (s : Bytes) → T (without m s) → WithoutAll m (rows n s)
unfolding rows
rows_without m zero s h = tt
rows_without m (suc n) s h =
    let parts = every_parts (λ c. not (eqb c m)) (take 64 s) (drop 64 s) (rw take-append-drop h) in
    (parts.0, rows_without m n (drop 64 s) parts.1)

pub folded_without : (m : ℕ) (s : Bytes) → T (without m s) → WithoutAll m (folded s)
folded_without m s h = rows_without m _ s h

-- ---- a row is full, or it is the last, which ends as the whole does

abbrev pub IsRow : ℕ → Bytes → Type 0
IsRow l r = (length r ≡ 64) ⊎ (last_or 0 r ≡ l)

last_drop : (n : ℕ) (s : Bytes) → n < length s → last_or 0 (drop n s) ≡ last_or 0 s
last_drop n s h =
    last_any 0 (last_or 0 (take n s)) (drop n s) (omega (arith, length-drop n s))
    ∙ sym (last_append 0 (take n s) (drop n s))
    ∙ ap (last_or 0) (take-append-drop n s)

rows_are : (n : ℕ) (s : Bytes) → Enough n s → All (IsRow (last_or 0 s)) (rows n s)
unfolding rows
rows_are zero s h = tt
rows_are (suc zero) s h = (inr (ap (last_or 0) (take_all 64 s (omega (arith, h.0)))), tt)
rows_are (suc (suc n)) s h =
    let f = fewer n s h in
    (inl (length-take-le 64 s (omega (arith, f.0))), let P : ℕ → Type 0 = λ z. All (IsRow z) (rows (suc n) (drop 64 s)) in subst P (last_drop 64 s f.0) (rows_are (suc n) (drop 64 s) f.1))

pub folded_rows : (s : Bytes) → All (IsRow (last_or 0 s)) (folded s)
folded_rows s = rows_are _ s (enough s)
