-- Where the items of a text that LVCONCAT writes stand: each behind the text of the items before it.
-- Assumes nothing.
use Prim.Native.Nat.{ℕ, zero, suc, ◌+◌, ◌≤◌, ◌<◌}
use mathlib.Core.Path.{◌≡◌, refl, sym, ap, ◌∙◌}
use mathlib.Core.Option.{some, none-ne-some}
use mathlib.Core.List.{List, [], ◌∷◌, ◌++◌, append_assoc}
use native.Mathlib.Omega.{arith}
use native.Mathlib.Nat.{add-zero}
use lib.ListN.{length, take, drop, get_or, length-append, take-append-drop}
use lib.Seq.{take-suc, drop-cons, get_or-append-add}
use Rattle.text.specs.Text.{Bytes}
use Rattle.items.specs.Items.{lv_items, lv_concat, nth}
use Rattle.items.specs.Place.{behind}

items_append : (is js : List Bytes) → lv_items (is ++ js) ≡ lv_items is ++ lv_items js
items_append [] js = refl
items_append (i ∷ is) js = rw (append_assoc, ← items_append is js)

module _ (is : List Bytes) (i : ℕ) (h : i < length is) where
  -- the length of item i, from 0, stands behind the items before it
  length_there : get_or (lv_items is) (length (lv_items (take i is))) 0 ≡ length (get_or is i [])
  length_there =
      ap (λ (js : List Bytes). get_or (lv_items js) (length (lv_items (take i is))) 0) (sym (take-append-drop i is))
      ∙ ap (λ (s : Bytes). get_or s (length (lv_items (take i is))) 0) (items_append (take i is) (drop i is))
      ∙ rw add-zero at (get_or-append-add (lv_items (take i is)) (lv_items (drop i is)) 0 0)
      ∙ rw (drop-cons is i [] h)

  one_more : length (lv_items (take (suc i) is)) ≡ length (lv_items (take i is)) + 1 + length (get_or is i [])
  one_more =
      rw (take-suc is i [] h, items_append) (omega (arith, length-append (lv_items (take i is)) (lv_items (get_or is i [] ∷ [])), length-append (get_or is i []) []))

pub behind_items : (i : ℕ) (is : List Bytes) → i ≤ length is → behind i (lv_concat is) ≡ length (lv_concat (take i is))
unfolding behind
behind_items zero is h = refl
behind_items (suc i) is h = rw (behind_items i is (omega arith)) (omega (arith, length_there is i h, one_more is i h))

-- an item that is there has a number up to theirs
pub nth_within : (n : ℕ) (is : List Bytes) (x : Bytes) → nth n is ≡ some x → n ≤ length is
nth_within n [] x e = absurd (none-ne-some x e)
nth_within zero (i ∷ is) x e = omega arith
nth_within (suc zero) (i ∷ is) x e = omega arith
nth_within (suc (suc n)) (i ∷ is) x e = omega (arith, nth_within (suc n) is x e)
