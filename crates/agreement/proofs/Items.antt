-- The items of a text: what goes in of each field, how long all of it is, and the loops that count and write it.
-- Assumes nothing.
use Prim.Native.Nat.{ℕ, ◌+◌, ◌*◌, ◌≤◌, ◌<◌}
use mathlib.Core.Path.{◌≡◌, refl, sym, ap, ◌∙◌}
use mathlib.Core.List.{List, [], ◌∷◌, ◌++◌, map}
use native.Mathlib.Omega.{arith}
use native.Mathlib.Numerals.{add-one}
use lib.ListN.{length, drop, get_or, drop_of_length-le, length-append, length-map}
use lib.Seq.{drop-cons}
use lib.Dec.{T, leb, eqb, le→leb, eqb→eq}
use mir.Facts.{yes_and}
use borrow.Author.Tests.{eq-eqb, ne_eqb}
use Rattle.text.specs.Text.{Bytes, is_hex}
use Rattle.text.specs.Base16.{base16_decode}
use Rattle.text.proofs.Tests.{by_test, T_false}
use Rattle.items.specs.Items.{lv_items, lv_concat, short_items}
use Rattle.put.specs.Put.{Put}
use Rattle.put.proofs.Pieces.{put_as, put_then}
use Rattle.agreement.specs.Steps.{field_no, lv_item, item_for, items_by, Small, Suited}
use Rattle.put.proofs.Underway.{Underway, begin, has_room, go_on, finish}
use Rattle.agreement.proofs.Decoding.{point_bytes}

-- ---- one field, which the code has as f

module _ (fs : List Bytes) (n : ℕ) (f : Bytes) (e : f ≡ field_no fs n) where
  pub item_other : (n ≡ 6 → ⊥) → f ≡ item_for fs n
  item_other h = e ∙ rw (ne_eqb n 6 h)

  module _ (h : n ≡ 6) where
    pub item_qe : base16_decode f ≡ item_for fs n
    item_qe = rw (eq-eqb n 6 h, e)

    pub item_hex : Suited fs → T (is_hex 194 f)
    item_hex s = rw (e, h) s.point

    pub item_point : Suited fs → length (item_for fs n) ≡ 97
    item_point s = rw (← item_qe) (point_bytes f (item_hex s))

item_short : (fs : List Bytes) (n : ℕ) → Suited fs → length (item_for fs n) ≤ 255
item_short fs n s =
    by_test (eqb n 6)
    (λ t. omega (arith, item_point fs n (field_no fs n) refl (eqb→eq n 6 t) s))
    (λ t. rw (T_false (eqb n 6) t) (s.short n))

-- ---- all of them, one after another

abbrev pub entries : List Bytes → List ℕ → Bytes
entries fs ns = lv_items (map (item_for fs) ns)

module _ (fs : List Bytes) (ns : List ℕ) (i : ℕ) where
  pub entries_more : i < length ns → entries fs (drop i ns) ≡ lv_item (item_for fs (get_or ns i 0)) ++ entries fs (drop (i + 1) ns)
  entries_more h = rw (drop-cons ns i 0 h, add-one)

  pub entries_end : length ns ≤ i → entries fs (drop i ns) ≡ []
  entries_end h = rw (drop_of_length-le ns h)

module _ (fs : List Bytes) (s : Suited fs) where
  entries_short : (ns : List ℕ) → length (entries fs ns) ≤ 256 * length ns
  entries_short [] = omega arith
  entries_short (n ∷ ns) = omega (arith, length-append (item_for fs n) (entries fs ns), item_short fs n s, entries_short ns)

  -- so that a text of them can be built
  pub short-items : (ns : List ℕ) → T (short_items (map (item_for fs) ns))
  short-items [] = tt
  short-items (n ∷ ns) =
      yes_and (leb (length (item_for fs n)) 255) (short_items (map (item_for fs) ns)) (le→leb (length (item_for fs n)) 255 (item_short fs n s)) (short-items ns)

-- ---- the whole text

module _ (label : Bytes) (ns : List ℕ) (fs : List Bytes) where
  pub text_length : length (lv_concat (items_by label ns fs)) ≡ 2 + length label + length (entries fs ns)
  text_length = omega (arith, length-append label (entries fs ns))

  -- its count, its label and its fields
  pub text_said : ((1 + length ns) ∷ []) ++ lv_item label ++ entries fs ns ≡ lv_concat (items_by label ns fs)
  text_said = ap (λ (n : ℕ). n ∷ lv_items (items_by label ns fs)) (omega (arith, length-map ns (item_for fs)))

  pub text_pieces : {o o₁ o₂ out : Bytes} {at next r : ℕ} → Put o 0 ((1 + length ns) ∷ []) o₁ next → Put o₁ next (lv_item label) o₂ at
      → Put o₂ at (entries fs ns) out r → Put o 0 (lv_concat (items_by label ns fs)) out r
  text_pieces p p₁ p₂ = put_as text_said (put_then p (put_then p₁ p₂))

-- ---- the loop that counts: total is the length of all but the fields from i on
pub record Counted (label : Bytes) (ns : List ℕ) (fs : List Bytes) (total i : ℕ) : Type 0 where
  pub small : Small label ns
  pub suited : Suited fs
  pub rest : total + length (entries fs (drop i ns)) ≡ length (lv_concat (items_by label ns fs))

pub counted_none : {label : Bytes} {ns : List ℕ} {fs : List Bytes} → Small label ns → Suited fs → Counted label ns fs (2 + length label) 0
counted_none {label} {ns} {fs} a s = record { small = a; suited = s; rest = sym (text_length label ns fs) }

module _ {label : Bytes} {ns : List ℕ} {fs : List Bytes} {total i : ℕ} (d : Counted label ns fs total i) where
  module _ (h : i < length ns) {m : ℕ} (e : m ≡ length (item_for fs (get_or ns i 0))) where
    one : length (entries fs (drop i ns)) ≡ 1 + m + length (entries fs (drop (i + 1) ns))
    one =
        omega (arith, ap length (entries_more fs ns i h), length-append (lv_item (item_for fs (get_or ns i 0))) (entries fs (drop (i + 1) ns)))

    -- no sum is too large for its type
    pub counted_fits : total + (1 + m) < 65536
    counted_fits = omega (arith, one, d.rest, d.small, text_length label ns fs, entries_short fs d.suited ns)

    pub counted_more : Counted label ns fs (total + (1 + m)) (i + 1)
    counted_more = record { small = d.small; suited = d.suited; rest = omega (arith, one, d.rest) }

  pub counted_all : length ns ≤ i → total ≡ length (lv_concat (items_by label ns fs))
  counted_all h = omega (arith, d.rest, ap length (entries_end fs ns i h))

-- ---- the loop that writes: the fields before i are written
pub record Entered (o : Bytes) (k : ℕ) (ns : List ℕ) (fs : List Bytes) (out : Bytes) (at i : ℕ) : Type 0 where
  pub way : Underway o k (entries fs ns) (entries fs (drop i ns)) out at

pub entered_none : {o : Bytes} {k : ℕ} {ns : List ℕ} {fs : List Bytes} → k + length (entries fs ns) ≤ length o → Entered o k ns fs o k 0
entered_none h = record { way = begin h }

module _ {o : Bytes} {k : ℕ} {ns : List ℕ} {fs : List Bytes} {out : Bytes} {at i : ℕ} (d : Entered o k ns fs out at i) where
  module _ (h : i < length ns) where
    pub entered_room : at + 1 + length (item_for fs (get_or ns i 0)) ≤ length out
    entered_room = omega (arith, has_room d.way (lv_item (item_for fs (get_or ns i 0))) _ (entries_more fs ns i h))

    pub entered_more : {out' : Bytes} {at' : ℕ} → Put out at (lv_item (item_for fs (get_or ns i 0))) out' at' → Entered o k ns fs out' at' (i + 1)
    entered_more p = record { way = go_on d.way _ _ (entries_more fs ns i h) p }

  pub entered_all : length ns ≤ i → Put o k (entries fs ns) out at
  entered_all h = finish d.way (entries_end fs ns i h)
