-- Rows and kinds: each row is that of one kind, and a look-up answers what is said of that kind.
-- Assumes nothing.
use Prim.Native.Nat.{ℕ, ◌≤◌, ◌<◌}
use mathlib.Core.Path.{◌≡◌, refl, sym, ap, ap₂, ◌∙◌}
use mathlib.Core.Bool.{Bool, true, false, ◌||◌, beq}
use mathlib.Core.Option.{Option, none, some}
use mathlib.Core.List.{List, [], ◌∷◌, map}
use native.Mathlib.Omega.{arith}
use lib.ListN.{get_or, get_or-eq_default, get_or-map}
use lib.Seq.{drop-cons}
use lib.Dec.{T, eqb, ltb, eqb→eq, ltb→lt}
use borrow.Author.Tests.{ne_eqb}
use Rattle.text.specs.Text.{same, all_of}
use Rattle.text.proofs.Tests.{all_below, below, less_or, same→eq}
use Rattle.format.specs.Kinds.{Kind, SMMAN, name, all_kinds, pubkey_kinds, among}
use Rattle.format.proofs.Table.{name_inj, every_kind}
use Rattle.table.specs.Table.{row_of, missing_row, row_count, row_for, of_row, is_pubkey, row_among}

-- ---- the kind of a row

abbrev pub kind_at : ℕ → Kind
kind_at row = get_or all_kinds row SMMAN

pub at_row : (k : Kind) → kind_at (row_of k) ≡ k
at_row k = name_inj (kind_at (row_of k)) k (same→eq _ _ (every_kind (λ j. same (name (kind_at (row_of j))) (name j)) tt k))

pub row_small : (k : Kind) → row_of k < row_count
row_small k = ltb→lt (row_of k) row_count (every_kind (λ j. ltb (row_of j) row_count) tt k)

pub row_at : (row : ℕ) → row < row_count → row_of (kind_at row) ≡ row
unfolding all_below
row_at row h = eqb→eq (row_of (kind_at row)) row (below row_count (λ n. eqb (row_of (kind_at n)) n) tt row h)

pub row_inj : (k j : Kind) → row_of k ≡ row_of j → k ≡ j
row_inj k j e = sym (at_row k) ∙ ap kind_at e ∙ at_row j

-- ---- what is said of a row

module _ {ℓ} {A : Type ℓ} (f : Kind → A) (z : A) where
  -- an entry that is there is the same whatever stands for one that is not
  pub in_row : (row : ℕ) → row < row_count → of_row f z row ≡ f (kind_at row)
  unfolding of_row
  in_row row h =
      ap (λ (l : List A). get_or l 0 z) (sym (drop-cons (map f all_kinds) row z h) ∙ drop-cons (map f all_kinds) row (f SMMAN) h)
      ∙ get_or-map f all_kinds row SMMAN

  pub of-kind : (k : Kind) → of_row f z (row_of k) ≡ f k
  of-kind k = in_row (row_of k) (row_small k) ∙ ap f (at_row k)

  pub past_rows : (row : ℕ) → row_count ≤ row → of_row f z row ≡ z
  unfolding of_row
  past_rows row h = get_or-eq_default (map f all_kinds) z h

-- ---- the row that a search finds

pub record Found (o : Option Kind) (row : ℕ) : Type 0 where
  pub kind : Kind
  pub is : o ≡ some kind
  pub at : row ≡ row_of kind

pub found : (o : Option Kind) (row : ℕ) → row ≡ row_for o → (row ≡ missing_row → ⊥) → Found o row
found none row e h = absurd (h e)
found (some k) row e h = record { kind = k; is = refl; at = e }

-- ---- tests by rows

pub same_bools : (a b : Bool) → T (beq a b) → a ≡ b
same_bools true true t = refl
same_bools true false t = absurd t
same_bools false true t = absurd t
same_bools false false t = refl

pub pubkey_rows : (row : ℕ) → (eqb row 3 || eqb row 4) ≡ is_pubkey row
unfolding all_below of_row
pubkey_rows row =
    less_or row row_count
    (λ h. same_bools (eqb row 3 || eqb row 4) (is_pubkey row) (below row_count (λ n. beq (eqb n 3 || eqb n 4) (is_pubkey n)) tt row h))
    (past row)
  where
    past : (n : ℕ) → row_count ≤ n → (eqb n 3 || eqb n 4) ≡ is_pubkey n
    past n l = rw (ne_eqb n 3 (λ z. omega arith), ne_eqb n 4 (λ z. omega arith), past_rows (λ k. among k pubkey_kinds) false n l)

-- no two kinds have one name: a test of each kind against each
same_names : (k j : Kind) → same (name k) (name j) ≡ eqb (row_of k) (row_of j)
same_names k j = same_bools _ _ (every_kind (alike k) (every_kind (λ x. all_of (map (alike x) all_kinds)) tt k) j)
  where
    alike : Kind → Kind → Bool
    alike x y = beq (same (name x) (name y)) (eqb (row_of x) (row_of y))

pub among_row : (k : Kind) (ks : List Kind) → row_among (row_of k) ks ≡ among k ks
among_row k [] = refl
among_row k (j ∷ ks) = ap₂ ◌||◌ (sym (same_names k j)) (among_row k ks)
