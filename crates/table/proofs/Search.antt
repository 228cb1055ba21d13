-- The search over the rows, for the first kind that passes a test.
-- Assumes nothing.
use Prim.Native.Nat.{ℕ, zero, suc, ◌+◌, ◌-◌, ◌≤◌, ◌<◌}
use mathlib.Core.Path.{◌≡◌, refl, sym, ap, ◌∙◌}
use mathlib.Core.Bool.{Bool, true, false, cond}
use mathlib.Core.Option.{Option, none, some}
use mathlib.Core.List.{List, [], ◌∷◌}
use native.Mathlib.Omega.{arith}
use native.Mathlib.Numerals.{add-one}
use lib.ListN.{take, drop, length-take}
use lib.Seq.{drop-cons, drop-drop, get_or-take}
use Rattle.text.specs.Text.{Bytes, same}
use Rattle.text.proofs.Tests.{less_or}
use Rattle.format.specs.Kinds.{Kind, SMMAN, name, record_kinds, all_kinds}
use Rattle.format.specs.Read.{kind_in}
use Rattle.table.specs.Table.{row_count, row_for, of_row, is_kind, named, kinds_from}
use Rattle.table.proofs.Rows.{kind_at, row_at, in_row}

-- f finds the first kind that passes p
pub record Search (p : Kind → Bool) (f : List Kind → Option Kind) : Type 0 where
  pub ends : f [] ≡ none
  pub step : (k : Kind) (ks : List Kind) → f (k ∷ ks) ≡ cond (p k) (some k) (f ks)

pub kind_search : (t : Bytes) (m : ℕ) → Search (is_kind t m) (λ ks. kind_in ks t m)
kind_search t m = record { ends = refl; step = λ k ks. refl }

pub name_search : (t : Bytes) → Search (λ k. same t (name k)) (λ ks. named ks t)
name_search t = record { ends = refl; step = λ k ks. refl }

module _ (p : Kind → Bool) (f : List Kind → Option Kind) (w : Search p f) (to row : ℕ) where
  abbrev rows : List Kind
  rows = take to all_kinds

  look : row < row_count → row < to → f (drop row rows) ≡ cond (of_row p false row) (some (kind_at row)) (f (drop (row + 1) rows))
  look h l =
      rw (drop-cons rows row SMMAN (omega (arith, length-take to all_kinds)), get_or-take to all_kinds row SMMAN l, add-one, in_row p false row h)
      (w.step (kind_at row) _)

  pub search_hit : row < row_count → row < to → of_row p false row ≡ true → row ≡ row_for (f (drop row rows))
  search_hit h l e = sym (ap row_for (rw e at (look h l)) ∙ row_at row h)

  pub search_on : row < row_count → row < to → of_row p false row ≡ false → f (drop (row + 1) rows) ≡ f (drop row rows)
  search_on h l e = sym (rw e at (look h l))

-- ---- the record kinds in a range of rows: the first is row 3

from_three : (to : ℕ) → drop 3 (take to all_kinds) ≡ take (to - 3) record_kinds
from_three zero = refl
from_three (suc zero) = refl
from_three (suc (suc zero)) = refl
from_three (suc (suc (suc to))) = ap (λ (n : ℕ). take n record_kinds) (sym (let e : suc (suc (suc to)) - 3 ≡ to = omega arith in e))

range_above : (from to : ℕ) → 3 ≤ from → drop from (take to all_kinds) ≡ kinds_from from to
range_above from to h =
    let e : 3 + (from - 3) ≡ from = omega arith in
    ap (λ (n : ℕ). drop n (take to all_kinds)) (sym e) ∙ sym (drop-drop (from - 3) 3 (take to all_kinds)) ∙ ap (drop (from - 3)) (from_three to)

range_below : (from to : ℕ) → from < 3 → drop 3 (take to all_kinds) ≡ kinds_from from to
range_below from to h = let e : from - 3 ≡ 0 = omega arith in rw e (from_three to)

-- from a row on, but from the first of them at the earliest
pub range_from : (from to first : ℕ) → (from < 3 → first ≡ 3) → (3 ≤ from → first ≡ from) → drop first (take to all_kinds) ≡ kinds_from from to
range_from from to first f g =
    less_or from 3
    (λ h. ap (λ (n : ℕ). drop n (take to all_kinds)) (f h) ∙ range_below from to h)
    (λ h. ap (λ (n : ℕ). drop n (take to all_kinds)) (g h) ∙ range_above from to h)
