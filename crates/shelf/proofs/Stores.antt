-- What each call leaves, by places: a change at one place is a store of its bytes there, and of nothing else.
-- Assumes nothing.
use Prim.Native.Nat.{ℕ, zero, suc, ◌+◌, ◌*◌, ◌≤◌, ◌<◌}
use mathlib.Core.Path.{◌≡◌, sym, ap, ap₂, ◌∙◌}
use mathlib.Core.Bool.{Bool, true, false}
use mathlib.Core.Option.{none, some}
use mathlib.Core.List.{List, [], ◌∷◌, ◌++◌, append_assoc}
use native.Mathlib.Omega.{arith}
use native.Mathlib.Nat.{suc-mul, zero-mul, zero-add, add_comm}
use lib.ListN.{length, take, drop, set}
use lib.Seq.{drop_at, take-append-add, drop-append-add, drop-drop, take-append_seam}
use Rattle.text.specs.Text.{Bytes}
use Rattle.text.specs.Seconds.{start}
use Rattle.text.specs.Later.{later}
use Rattle.text.proofs.Tests.{T_true, T_false, by_test}
use Rattle.numbers.specs.Numbers.{not_cabinet, not_later, no_place, not_there, tvp_not_later}
use Rattle.shelf.specs.Places.{Names, Held, Place, free, held, is_free, holds, contents, lookup, change, lowest, any_free}
use Rattle.shelf.specs.Cabinet.{width, about, declined, asks, reads, requests, encode, entry, shelf, image, put_at, remove_at, admit_at, is_old, unless_old, Result, leaving, told, put_key, remove_key, admit, nothing, find_key}
use Rattle.shelf.proofs.Places.{change_set, free_lowest, no_free_lowest, lookup_here, lookup_there}
use Rattle.shelf.proofs.Images.{AllGood, length_encode, shelf_some}

-- the bytes s with the place q at number i
abbrev pub stored_at : Bytes → ℕ → Place → Bytes
stored_at s i q = (take (i * width) s ++ encode q) ++ drop (i * width + width) s

image_set : (ps : List Place) (i : ℕ) (q : Place) → AllGood ps → i < length ps → image (set ps i q) ≡ stored_at (image ps) i q
image_set [] i q a l = absurd (omega arith)
image_set (p ∷ ps) zero q a l =
    let n : 0 * width + width ≡ width = ap (λ (x : ℕ). x + width) (zero-mul width) ∙ zero-add width in
    ap₂ (λ (x y : Bytes). x ++ y)
    (sym (ap (λ (m : ℕ). take m (encode p ++ image ps) ++ encode q) (zero-mul width)))
    (sym (ap (λ (m : ℕ). drop m (encode p ++ image ps)) n ∙ drop_at (encode p) (image ps) width (length_encode p a.0)))
image_set (p ∷ ps) (suc i) q a l =
    let e = length_encode p a.0 in
    let n : suc i * width ≡ length (encode p) + i * width = suc-mul i width ∙ add_comm (i * width) width ∙ ap (λ (x : ℕ). x + i * width) (sym e) in
    let m : suc i * width + width ≡ length (encode p) + (i * width + width) = omega (arith, n) in
    ap (λ (x : Bytes). encode p ++ x) (image_set ps i q a.1 (omega arith))
    ∙ sym (append_assoc (encode p) (take (i * width) (image ps) ++ encode q) (drop (i * width + width) (image ps)))
    ∙ ap₂ (λ (x y : Bytes). x ++ y)
    (sym (append_assoc (encode p) (take (i * width) (image ps)) (encode q))
    ∙ ap (λ (x : Bytes). x ++ encode q) (sym (ap (λ (x : ℕ). take x (encode p ++ image ps)) n ∙ take-append-add (encode p) (image ps) (i * width))))
    (sym (ap (λ (x : ℕ). drop x (encode p ++ image ps)) m ∙ drop-append-add (encode p) (image ps) (i * width + width)))

-- ---- the record that is found stands there

text_front : (p : Place) (h : Held) → contents p ≡ some h → (t : Bytes) → take (length h.text) (encode p ++ t) ≡ h.text
unfolding encode
text_front free h e t = let z : ◌≡◌ {A = ℕ} 0 1 = cc in absurd (omega arith)
text_front (held g) h e t =
    let f : g ≡ h = cc in
    rw (← f) (ap (take (length g.text)) (append_assoc ((g.text ++ _) ++ _) _ t ∙ append_assoc (g.text ++ _) _ _ ∙ append_assoc g.text _ _) ∙ take-append_seam g.text _)

pub found_part : (k : Names) (ps : List Place) (h : Held) → AllGood ps → lookup k ps ≡ some h
    → take (length h.text) (drop (lowest (holds k) ps * width) (image ps)) ≡ h.text
found_part k [] h a e = let z : ◌≡◌ {A = ℕ} 0 1 = cc in absurd (omega arith)
found_part k (p ∷ ps) h a e =
    by_test (holds k p)
    (λ t. rw (T_true (holds k p) t, zero-mul width) (text_front p h (sym (lookup_here k p ps t) ∙ e) (image ps)))
    (λ t.
    rw (T_false (holds k p) t)
    (ap (take (length h.text))
    (ap (λ (n : ℕ). drop n (encode p ++ image ps)) (suc-mul (lowest (holds k) ps) width ∙ add_comm (lowest (holds k) ps * width) width)
    ∙ sym (drop-drop (lowest (holds k) ps * width) width (encode p ++ image ps))
    ∙ ap (drop (lowest (holds k) ps * width)) (drop_at (encode p) (image ps) width (length_encode p a.0)))
    ∙ found_part k ps h a.1 (sym (lookup_there k p ps t) ∙ e)))

-- ---- bytes that are no cabinet

module _ (s i : Bytes) (e : shelf s ≡ none) where
  pub put_23 : put_key s i ≡ leaving s not_cabinet 0
  unfolding put_key
  put_23 = rw e

  pub remove_23 : remove_key s i ≡ leaving s not_cabinet 0
  unfolding remove_key
  remove_23 = rw e

  pub admit_23 : admit s i ≡ leaving s not_cabinet 0
  unfolding admit
  admit_23 = rw e

  pub find_23 : find_key s i ≡ nothing not_cabinet 0
  unfolding find_key
  find_23 = rw e

-- ---- bytes that are one, with the places ps

abbrev stored : Bytes → Result
stored x = record { no = 0; field = 0; bytes = x }

module _ (s : Bytes) (ps : List Place) (e : shelf s ≡ some ps) where
  image_change : (t : Place → Bool) (q : Place) → lowest t ps < length ps → image (change t q ps) ≡ stored_at s (lowest t ps) q
  image_change t q l =
      let h = shelf_some s ps e in
      ap image (change_set t q ps)
      ∙ image_set ps (lowest t ps) q h.1.good l
      ∙ ap (λ (x : Bytes). stored_at x (lowest t ps) q) h.0

  pub put_own : (r : Bytes) (n i : ℕ) → reads r ≡ declined n i → put_key s r ≡ leaving s n i
  unfolding put_key
  put_own r n i a = rw (e, a)

  module _ (r : Bytes) (k : Names) (g : Bytes) (a : reads r ≡ about k g) where
    put_some : put_key s r ≡ told s (put_at k g r ps (lookup k ps))
    unfolding put_key
    put_some = rw (e, a)

    pub put_later : (h : Held) → lookup k ps ≡ some h → later g h.gnt ≡ true → lowest (holds k) ps < length ps
        → put_key s r ≡ stored (stored_at s (lowest (holds k) ps) (entry k g r h.tvp))
    unfolding put_at
    put_later h f t l = put_some ∙ rw (f, t) (ap (λ (x : Bytes). stored x) (image_change (holds k) (entry k g r h.tvp) l))

    pub put_not_later : (h : Held) → lookup k ps ≡ some h → later g h.gnt ≡ false → put_key s r ≡ leaving s not_later 0
    unfolding put_at
    put_not_later h f t = put_some ∙ rw (f, t)

    pub put_first : lookup k ps ≡ none → lowest is_free ps < length ps → put_key s r ≡ stored (stored_at s (lowest is_free ps) (entry k g r start))
    unfolding put_at
    put_first f l = put_some ∙ rw (f, T_true (any_free ps) (free_lowest ps l)) (ap (λ (x : Bytes). stored x) (image_change is_free (entry k g r start) l))

    pub put_full : lookup k ps ≡ none → length ps ≤ lowest is_free ps → put_key s r ≡ leaving s no_place 0
    unfolding put_at
    put_full f l = put_some ∙ rw (f, T_false (any_free ps) (no_free_lowest ps l))

  pub admit_own : (q : Bytes) (n i : ℕ) → requests q ≡ declined n i → admit s q ≡ leaving s n i
  unfolding admit
  admit_own q n i a = rw (e, a)

  module _ (q : Bytes) (k : Names) (t : Bytes) (a : requests q ≡ about k t) where
    pub admit_none : unless_old (lookup k ps) ≡ none → admit s q ≡ leaving s not_there 0
    unfolding admit admit_at
    admit_none f = rw (e, a, f)

    pub admit_not_later : (h : Held) → lookup k ps ≡ some h → is_old h.text ≡ false → later t h.tvp ≡ false → admit s q ≡ leaving s tvp_not_later 0
    unfolding admit admit_at
    admit_not_later h f o l = rw (e, a, f, o, l)

    pub admit_later : (h : Held) → lookup k ps ≡ some h → is_old h.text ≡ false → later t h.tvp ≡ true → lowest (holds k) ps < length ps
        → admit s q ≡ stored (stored_at s (lowest (holds k) ps) (entry h.names h.gnt h.text t))
    unfolding admit admit_at
    admit_later h f o l m = rw (e, a, f, o, l) (ap (λ (x : Bytes). stored x) (image_change (holds k) (entry h.names h.gnt h.text t) m))

  module _ (i : Bytes) where
    pub remove_own : (n j : ℕ) → asks i ≡ declined n j → remove_key s i ≡ leaving s n j
    unfolding remove_key
    remove_own n j a = rw (e, a)

    pub find_own : (n j : ℕ) → asks i ≡ declined n j → find_key s i ≡ nothing n j
    unfolding find_key
    find_own n j a = rw (e, a)

    module _ (k : Names) (g : Bytes) (a : asks i ≡ about k g) where
      pub remove_some : (h : Held) → lookup k ps ≡ some h → lowest (holds k) ps < length ps → remove_key s i ≡ stored (stored_at s (lowest (holds k) ps) free)
      unfolding remove_key remove_at
      remove_some h f l = rw (e, a, f) (ap (λ (x : Bytes). stored x) (image_change (holds k) free l))

      pub remove_none : lookup k ps ≡ none → remove_key s i ≡ leaving s not_there 0
      unfolding remove_key remove_at
      remove_none f = rw (e, a, f)

      pub find_some : (h : Held) → lookup k ps ≡ some h → is_old h.text ≡ false
          → find_key s i ≡ record { no = 0; field = 0; start = lowest (holds k) ps * width; text = h.text }
      unfolding find_key
      find_some h f o = rw (e, a, f, o)

      pub find_none : unless_old (lookup k ps) ≡ none → find_key s i ≡ nothing not_there 0
      unfolding find_key
      find_none f = rw (e, a, f)
