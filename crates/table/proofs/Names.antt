-- A kind is known by its name alone: what the search for a name finds.
-- Assumes nothing.
use Prim.Native.Nat.{ℕ, ◌≤◌}
use mathlib.Core.Path.{◌≡◌, refl, ap, sym, ◌∙◌}
use mathlib.Core.Bool.{Bool, true, false, cond, ◌&&◌, ◌||◌}
use mathlib.Core.Option.{Option, none, some, none-ne-some, some-injective}
use mathlib.Core.List.{List, [], ◌∷◌}
use native.Mathlib.Omega.{arith}
use lib.ListN.{length}
use lib.Dec.{T, eqb, leb, eqb→eq, leb→le}
use Rattle.text.specs.Text.{Bytes, same}
use Rattle.text.proofs.Tests.{by_test, or_left, or_right, cond_yes, cond_no, same→eq, same_refl}
use Rattle.format.specs.Kinds.{Kind, name, mark, all_kinds, among}
use Rattle.format.specs.Read.{kind_in}
use Rattle.format.proofs.Table.{every_kind}
use Rattle.table.specs.Table.{row_of, missing_row, row_for, named}
use Rattle.table.proofs.Rows.{row_small, row_inj, found}

pub named_some : (ks : List Kind) (t : Bytes) (k : Kind) → named ks t ≡ some k → t ≡ name k
named_some [] t k e = absurd (none-ne-some k e)
named_some (j ∷ ks) t k e =
    by_test (same t (name j))
    (λ h. same→eq t (name j) h ∙ ap name (some-injective j k (sym (cond_yes (same t (name j)) (some j) (named ks t) h) ∙ e)))
    (λ h. named_some ks t k (sym (cond_no (same t (name j)) (some j) (named ks t) h) ∙ e))

-- and it is a kind of the list
pub named_among : (ks : List Kind) (t : Bytes) (k : Kind) → named ks t ≡ some k → T (among k ks)
named_among [] t k e = absurd (none-ne-some k e)
named_among (j ∷ ks) t k e = go (same t (name j)) (named_among ks t k) e
  where
    go : (b : Bool) → (named ks t ≡ some k → T (among k ks)) → cond b (some j) (named ks t) ≡ some k → T (same (name k) (name j) || among k ks)
    go true more e = or_left (same (name k) (name j)) (among k ks) (rw (some-injective j k e) (same_refl (name k)))
    go false more e = or_right (same (name k) (name j)) (among k ks) (more e)

pub named_known : (k : Kind) → named all_kinds (name k) ≡ some k
named_known k =
    let row = eqb→eq (row_of k) (row_for (named all_kinds (name k))) (every_kind (λ j. eqb (row_of j) (row_for (named all_kinds (name j)))) tt k) in
    let f = found (named all_kinds (name k)) (row_of k) row (λ z. omega (arith, row_small k)) in
    f.is ∙ ap {B = Option Kind} some (row_inj f.kind k (sym f.at))

pub name_short : (k : Kind) → length (name k) ≤ 13
name_short k = leb→le (length (name k)) 13 (every_kind (λ j. leb (length (name j)) 13) tt k)

-- a name that no kind of a list has, no kind of its rest has
pub named_none : (k : Kind) (ks : List Kind) (t : Bytes) → named (k ∷ ks) t ≡ none → named ks t ≡ none
named_none k ks t e = go (same t (name k)) e
  where
    go : (b : Bool) → cond b (some k) (named ks t) ≡ none → named ks t ≡ none
    go true e = absurd (none-ne-some k (sym e))
    go false e = e

-- there is a row behind it, in words of any width
pub row_bounded : (o : Option Kind) → row_for o ≤ missing_row
row_bounded none = omega arith
row_bounded (some k) = omega (arith, row_small k)

-- no kind has it with any mark
pub kind_in_none : (ks : List Kind) (t : Bytes) (m : ℕ) → named ks t ≡ none → kind_in ks t m ≡ none
kind_in_none [] t m e = refl
kind_in_none (k ∷ ks) t m e = go (same t (name k)) (kind_in_none ks t m) e
  where
    go : (b : Bool) → (named ks t ≡ none → kind_in ks t m ≡ none) → cond b (some k) (named ks t) ≡ none → cond (b && eqb m (mark k)) (some k) (kind_in ks t m) ≡ none
    go true more e = absurd (none-ne-some k (sym e))
    go false more e = more e
