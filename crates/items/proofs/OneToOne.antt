-- A text has one reading, and what is read was built.
-- Assumes nothing.
use Prim.Native.Nat.{ℕ, zero, suc, ◌+◌, ◌≤◌, ◌<◌}
use mathlib.Core.Path.{◌≡◌, refl, sym, ap, ap₂, ◌∙◌, subst}
use mathlib.Core.Logic.{◌↔◌}
use mathlib.Core.Option.{Option, none, some, none-ne-some}
use mathlib.Core.List.{List, [], ◌∷◌, ◌++◌}
use native.Mathlib.Omega.{arith}
use lib.Dec.{T, leb, leb→le, le→leb}
use lib.ListN.{length, take, drop, length-append, take-append-drop}
use lib.Seq.{take-append_seam, drop-append_seam, length-take-le, get_or-drop}
use mir.Facts.{yes_and}
use Rattle.text.specs.Text.{Bytes}
use Rattle.text.proofs.Tests.{by_test, cond_yes, cond_no}
use Rattle.text.proofs.Hexadecimal.{AreBytes}
use Rattle.items.specs.Items.{lv_items, lv_concat, short_items, concats, item_before, items_in, items_of, nth, nth_of, text_item}

-- ---- what is built is read

pub items_back : (is : List Bytes) → items_in (length is) (lv_items is) ≡ some is
items_back [] = refl
items_back (i ∷ is) =
    cond_yes (leb (length i) (length (i ++ lv_items is))) _ _ (le→leb (length i) (length (i ++ lv_items is)) (omega (arith, length-append i (lv_items is))))
    ∙ ap₂ (λ (t r : Bytes). item_before t (items_in (length is) r)) (take-append_seam i (lv_items is)) (drop-append_seam i (lv_items is))
    ∙ ap (item_before i) (items_back is)

-- one_to_one
pub concat_inj : (is js : List Bytes) → lv_concat is ≡ lv_concat js → is ≡ js
concat_inj is js e =
    let z : some is ≡ some js = sym (items_back is) ∙ ap items_of e ∙ items_back js in
    cc

-- ---- what is read was built

after_some : (t : Bytes) (o : Option (List Bytes)) (is : List Bytes) → item_before t o ≡ some is → (js : List Bytes) × (o ≡ some js) × (is ≡ t ∷ js)
after_some t none is e = absurd (none-ne-some is e)
after_some t (some js) is e = (js, refl, cc)

record Read (n : ℕ) (s : Bytes) (is : List Bytes) : Type 0 where
  count : n ≡ length is
  bytes : s ≡ lv_items is
  short : T (short_items is)

items_sound : (n : ℕ) (s : Bytes) (is : List Bytes) → AreBytes s → items_in n s ≡ some is → Read n s is
items_sound zero [] is b e = let e' : [] ≡ is = cc in subst (Read 0 []) e' (record { count = refl; bytes = refl; short = tt })
items_sound zero (c ∷ s) is b e = absurd (none-ne-some is e)
items_sound (suc n) [] is b e = absurd (none-ne-some is e)
items_sound (suc n) (l ∷ s) is b e =
    by_test (leb l (length s))
    (λ t.
    let h : l ≤ length s = leb→le l (length s) t in
    let (js, o, q) = after_some (take l s) (items_in n (drop l s)) is (sym (cond_yes (leb l (length s)) _ none t) ∙ e) in
    let r = items_sound n (drop l s) js (λ k. subst (λ (c : ℕ). c < 256) (sym (get_or-drop l s k 0)) (b (suc (l + k)))) o in
    let u : length (take l s) ≡ l = length-take-le l s h in
    subst (Read (suc n) (l ∷ s)) (sym q) (record {
      count = ap suc r.count;
      bytes = ap₂ {C = Bytes} (λ (m : ℕ) (x : Bytes). m ∷ x) (sym u) (sym (take-append-drop l s) ∙ ap (λ (x : Bytes). take l s ++ x) r.bytes);
      short = yes_and (leb (length (take l s)) 255) (short_items js) (le→leb (length (take l s)) 255 (omega (arith, b 0))) r.short;
    }))
    (λ t. absurd (none-ne-some is (sym (cond_no (leb l (length s)) _ none t) ∙ e)))

pub items_exact : (s : Bytes) (is : List Bytes) → AreBytes s → (items_of s ≡ some is) ↔ (T (concats is) × (s ≡ lv_concat is))
items_exact [] is b = (λ e. absurd (none-ne-some is e), λ h. ap items_of h.1 ∙ items_back is)
items_exact (n ∷ s) is b = (
  λ e.
      let r = items_sound n s is (λ k. b (suc k)) e in (
        yes_and (leb (length is) 255) (short_items is) (le→leb (length is) 255 (omega (arith, b 0, r.count))) r.short,
        ap₂ {C = Bytes} (λ (m : ℕ) (t : Bytes). m ∷ t) r.count r.bytes,
      ),
  λ h. ap items_of h.1 ∙ items_back is,
)

nth_among : (n : ℕ) (o : Option (List Bytes)) (x : Bytes) → nth_of n o ≡ some x → (is : List Bytes) × (o ≡ some is) × (nth n is ≡ some x)
nth_among n none x e = absurd (none-ne-some x e)
nth_among n (some is) x e = (is, refl, e)

-- an item is handed back exactly of a text that LVCONCAT writes, and it is that list's item n
pub item_exact : (s : Bytes) (n : ℕ) (x : Bytes) → AreBytes s
    → (text_item s n ≡ some x) ↔ ((is : List Bytes) × T (concats is) × (s ≡ lv_concat is) × (nth n is ≡ some x))
unfolding text_item
item_exact s n x b = (
  λ e.
      let (is, o, q) = nth_among n (items_of s) x e in
      let r = (items_exact s is b).0 o in
      (is, r.0, r.1, q),
  λ h. ap (nth_of n) ((items_exact s h.0 b).1 (h.1, h.2)) ∙ h.3,
)
