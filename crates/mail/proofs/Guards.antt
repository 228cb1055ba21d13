-- The guards: a BEGINS line names its record type, no line feed stands in a guard, and no row of a folded record is one: a full
-- row is longer than any guard, and the last row ends with the record's check, a guard with a hyphen.
-- Assumes nothing.
use Prim.Native.Nat.{ℕ, ◌+◌, ◌-◌, ◌≤◌, ◌<◌}
use Prim.Native.Char.{code}
use mathlib.Core.Path.{◌≡◌, refl, sym, ap, ◌∙◌}
use mathlib.Core.Logic.{◌≢◌, ⊎_elim}
use mathlib.Core.Bool.{Bool, true, false, not, ◌&&◌}
use mathlib.Core.List.{List, [], ◌∷◌, ◌++◌}
use native.Mathlib.Omega.{arith}
use lib.Dec.{T, eqb}
use lib.Pointwise.{pointwise}
use lib.ListN.{length, take, drop, length-append}
use lib.Seq.{take_at}
use mir.Facts.{and_yes, yes_and}
use Rattle.text.specs.Text.{Bytes, ascii, same, without, is_ident, Ident}
use Rattle.text.proofs.Tests.{same_refl, T_true, true_T, and_stop, and_on, between_high, every_append}
use Rattle.text.proofs.Loops.{same_pairwise, apart}
use Rattle.text.proofs.Types.{plain, plain_without, lengths}
use Rattle.format.specs.Read.{last_or}
use Rattle.format.specs.Files.{line_feed}
use Rattle.format.proofs.Table.{All}
use Rattle.mail.specs.Mail.{guard, begins_line, ends_line, rectype_in, is_begins}
use Rattle.format.proofs.Parts.{last_append}
use Rattle.mail.proofs.Folding.{IsRow}

pub guard_length : (word t : Bytes) → length (guard word t) ≡ 6 + length t + length word
guard_length word t = omega (arith, length-append t word)

-- ---- a BEGINS line

pub begins_rectype : (t : Bytes) → rectype_in (begins_line t) ≡ t
begins_rectype t = take_at t (ascii " BEGINS--") (length (begins_line t) - 15) (omega (arith, guard_length (ascii " BEGINS--") t))

pub begins_is : (t : Bytes) → T (is_ident t) → T (is_begins (begins_line t))
unfolding is_begins
begins_is t h = rw begins_rectype (yes_and (is_ident t) (same (begins_line t) (begins_line t)) h (same_refl (begins_line t)))

pub guard_without : (word t : Bytes) → T (without line_feed word) → T (is_ident t) → T (without line_feed (guard word t))
guard_without word t w h = every_append (λ c. not (eqb c line_feed)) t word (plain_without line_feed tt t (plain Ident t h)) w

-- ---- no row is an ENDS line

row_no_guard : (t r : Bytes) (l : ℕ) → T (is_ident t) → (l ≡ code "-" → ⊥) → IsRow l r → r ≢ ends_line t
row_no_guard t r l h n w e =
    ⊎_elim
    (λ full. absurd (omega (arith, full, ap length e, guard_length (ascii " ENDS--") t, between_high 1 32 (length t) (lengths Ident t h))))
    (λ last. n (sym last ∙ ap (last_or 0) e ∙ last_append (code ":") t (ascii " ENDS--")))
    w

pub rows_no_guard : (t : Bytes) (l : ℕ) → T (is_ident t) → (l ≡ code "-" → ⊥) → (rs : List Bytes) → All (IsRow l) rs → All (λ r. r ≢ ends_line t) rs
rows_no_guard t l h n [] w = tt
rows_no_guard t l h n (r ∷ rs) w = (row_no_guard t r l h n w.0, rows_no_guard t l h n rs w.1)

-- ---- a guard by its length, and by its parts, as the code strips them off

pub guard_apart : (line word t : Bytes) → (length line ≡ 6 + length t + length word → ⊥) → false ≡ same line (guard word t)
guard_apart line word t h = sym (apart eqb same same_pairwise line (guard word t) (λ q. h (q ∙ guard_length word t)))

-- the front v is there, as the library compares it, and w is what is left
same_front : (v w s : Bytes) → same s (v ++ w) ≡ (pointwise eqb (take (length v) s) v && same (drop (length v) s) w)
same_front [] w s = refl
same_front (c ∷ v) w [] = refl
same_front (c ∷ v) w (d ∷ s) = rw (same_front v w s) (go (eqb d c))
  where
    go : (b : Bool) → (b && (pointwise eqb (take (length v) s) v && same (drop (length v) s) w)) ≡ ((b && pointwise eqb (take (length v) s) v) && same (drop (length v) s) w)
    go true = refl
    go false = refl

module _ (v w s : Bytes) where
  pub front_apart : pointwise eqb (take (length v) s) v ≡ false → same s (v ++ w) ≡ false
  front_apart e = same_front v w s ∙ and_stop _ _ e

  pub front_stripped : {r : Bytes} → pointwise eqb (take (length v) s) v ≡ true → r ≡ drop (length v) s → same s (v ++ w) ≡ same r w
  front_stripped e q = same_front v w s ∙ and_on _ _ e ∙ ap (λ (x : Bytes). same x w) (sym q)

-- ---- a BEGINS line as the code finds it

pub rectype_none : (l : Bytes) → length l < 15 → [] ≡ rectype_in l
rectype_none l h = let e : length l - 15 ≡ 0 = omega arith in rw e

pub rectype_there : (l : Bytes) → take (length l - 9 - 6) (drop 6 l) ≡ rectype_in l
rectype_there l = ap (λ (n : ℕ). take n (drop 6 l)) (let e : length l - 9 - 6 ≡ length l - 15 = omega arith in e)

pub ident_short : (t : Bytes) → is_ident t ≡ true → length t ≤ 32
ident_short t e = between_high 1 32 (length t) (lengths Ident t (true_T (is_ident t) e))

module _ (l t : Bytes) (e : t ≡ rectype_in l) where
  pub begins_no : is_ident t ≡ false → false ≡ is_begins l
  unfolding is_begins
  begins_no h = sym (and_stop (is_ident (rectype_in l)) (same l (begins_line (rectype_in l))) (rw e at h))

  pub begins_so : is_ident t ≡ true → same l (begins_line t) ≡ is_begins l
  unfolding is_begins
  begins_so h = rw e (sym (and_on (is_ident (rectype_in l)) (same l (begins_line (rectype_in l))) (rw e at h)))

pub begins_ident : (l : Bytes) → is_begins l ≡ true → is_ident (rectype_in l) ≡ true
unfolding is_begins
begins_ident l h = T_true (is_ident (rectype_in l)) (and_yes (is_ident (rectype_in l)) (same l (begins_line (rectype_in l))) (true_T _ h)).0
