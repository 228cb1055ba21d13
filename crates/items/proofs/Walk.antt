-- The walk over the items of a text.
-- Assumes nothing.
use Prim.Native.Nat.{ℕ, zero, suc, ◌+◌, ◌-◌, ◌≤◌, ◌<◌}
use mathlib.Core.Path.{◌≡◌, refl, sym, ap, ◌∙◌, subst}
use mathlib.Core.Bool.{cond}
use mathlib.Core.Option.{Option, none, some}
use mathlib.Core.List.{List, [], ◌∷◌}
use native.Mathlib.Omega.{arith}
use native.Mathlib.Numerals.{add-one}
use lib.Dec.{leb}
use lib.ListN.{length, take, drop, get_or, length-drop, drop_of_length-le}
use lib.Seq.{drop-cons, drop-drop, length-take-le}
use borrow.Author.Tests.{le-leb, lt-leb}
use denote.Ref.{Bor}
use Rattle.std.specs.Option.{MatchOption}
use Rattle.std.proofs.Common.{Option as Maybe, Some, None}
use Rattle.text.specs.Text.{Bytes}
use Rattle.text.specs.Part.{Part}
use Rattle.text.proofs.Tests.{less_or}
use Rattle.text.proofs.Part.{same_part}
use Rattle.items.specs.Items.{item_before, items_in, items_of, nth_of, text_item}
use Rattle.items.specs.Place.{behind, nowhere, ItemPlaced, ItemHanded}
use Rattle.items.specs.declared.Place.{Place}

-- ---- the answer

pub placed_none : {s : Bytes} {w : ℕ} (r : Place) → r ≡ nowhere → text_item s w ≡ none → ItemPlaced s w r
placed_none {s} {w} r q e = subst (ItemPlaced s w) (sym q) (record { said = rw e; inside = omega arith; bytes = rw e })

-- the part as the code cuts it
pub handed : {text r : Bor Bytes} {w : ℕ} (at : Place) → ItemPlaced text.now w at
    → Part text at.start (take (at.start + at.len - at.start) (drop at.start text.now)) r → ItemHanded text w r at.no
handed at h p = record {
  part_so = same_part (ap (λ (x : Place). x.start) h.said) (rw (let e : at.start + at.len - at.start ≡ at.len = omega arith in e) h.bytes) p;
  number_so = ap (λ (x : Place). x.no) h.said;
}

-- ---- the walk

pub no_text : (s : Bytes) (w : ℕ) → length s ≡ 0 → text_item s w ≡ none
unfolding text_item
no_text [] w e = refl
no_text (c ∷ s) w e = absurd (omega arith)

pub number_zero : (s : Bytes) (w : ℕ) → w ≡ 0 → text_item s w ≡ none
unfolding text_item
number_zero s w e = rw e (of (items_of s))
  where
    of : (o : Option (List Bytes)) → nth_of 0 o ≡ none
    of none = refl
    of (some []) = refl
    of (some (i ∷ is)) = refl

-- the item x, if the rest has items
abbrev given : Bytes → Option (List Bytes) → Option Bytes
given x none = none
given x (some is) = some x

-- i of n items are passed, and place p is reached; item w, if it is among them, has its length at place f
pub record Passed (s : Bytes) (w n i p f : ℕ) : Type 0 where
  pub wanted : 1 ≤ w
  pub inside : i ≤ n
  pub place : p ≤ length s
  pub reached : p ≡ behind i s
  pub early : i < w → text_item s w ≡ nth_of (w - i) (items_in (n - i) (drop p s))
  pub there : w ≤ i → f ≡ behind (w - 1) s
  pub end : w ≤ i → f + 1 + get_or s f 0 ≤ length s
  pub late : w ≤ i → text_item s w ≡ given (take (get_or s f 0) (drop (f + 1) s)) (items_in (n - i) (drop p s))

pub walked_none : (s : Bytes) (w : ℕ) → (length s ≡ 0 → ⊥) → (w ≡ 0 → ⊥) → Passed s w (get_or s 0 0) 0 1 0
unfolding text_item behind
walked_none [] w h z = absurd (h refl)
walked_none (n ∷ s) w h z = record {
  wanted = omega (arith, z);
  inside = omega arith;
  place = omega arith;
  reached = refl;
  early = λ k. rw (let e : w - 0 ≡ w = omega arith in e, let e : n - 0 ≡ n = omega arith in e);
  there = λ k. absurd (omega (arith, z));
  end = λ k. absurd (omega (arith, z));
  late = λ k. absurd (omega (arith, z));
}

nth_later : (m : ℕ) (x : Bytes) (o : Option (List Bytes)) → nth_of (suc (suc m)) (item_before x o) ≡ nth_of (suc m) o
nth_later m x none = refl
nth_later m x (some is) = refl

nth_here : (x : Bytes) (o : Option (List Bytes)) → nth_of 1 (item_before x o) ≡ given x o
nth_here x none = refl
nth_here x (some is) = refl

given_after : (x y : Bytes) (o : Option (List Bytes)) → given x (item_before y o) ≡ given x o
given_after x y none = refl
given_after x y (some is) = refl

nth_none : (m : ℕ) → nth_of m (some []) ≡ none
nth_none zero = refl
nth_none (suc zero) = refl
nth_none (suc (suc m)) = refl

-- one item more, of which the length stands at place p
item_at : (s : Bytes) (k m p : ℕ) → k ≡ suc m → p < length s
    → items_in k (drop p s) ≡ cond (leb (get_or s p 0) (length (drop (p + 1) s))) (item_before (take (get_or s p 0) (drop (p + 1) s)) (items_in m (drop (p + 1 + get_or s p 0) s))) none
item_at s k m p e h = rw (e, drop-cons s p 0 h, add-one, drop-drop)

module _ {s : Bytes} {w n i p f : ℕ} (d : Passed s w n i p f) where
  -- where the rest has no items, there is no answer
  broken : items_in (n - i) (drop p s) ≡ none → text_item s w ≡ none
  broken z = less_or i w (λ h. d.early h ∙ rw z) (λ h. d.late h ∙ rw z)

  pub no_length : i < n → length s ≤ p → text_item s w ≡ none
  no_length h z = broken (rw (let e : n - i ≡ suc (n - (i + 1)) = omega arith in e, drop_of_length-le s {i = p} z))

  pub no_bytes : i < n → p < length s → length s - (p + 1) < get_or s p 0 → text_item s w ≡ none
  no_bytes h k z =
      broken (item_at s (n - i) (n - (i + 1)) p (omega arith) k ∙ rw (lt-leb (get_or s p 0) (length (drop (p + 1) s)) (omega (arith, length-drop (p + 1) s))))

  pub bytes_behind : n ≤ i → p < length s → text_item s w ≡ none
  bytes_behind h k = broken (rw (let e : n - i ≡ 0 = omega arith in e, drop-cons s p 0 k))

  last : n ≤ i → length s ≤ p → items_in (n - i) (drop p s) ≡ some []
  last h k = rw (let e : n - i ≡ 0 = omega arith in e, drop_of_length-le s {i = p} k)

  pub too_few : n ≤ i → length s ≤ p → n < w → text_item s w ≡ none
  too_few h k z = d.early (omega arith) ∙ rw (last h k) (nth_none (w - i))

  pub found : n ≤ i → length s ≤ p → w ≤ n → ItemPlaced s w (record { no = 0; start = f + 1; len = get_or s f 0 })
  found h k z =
      let x : text_item s w ≡ some (take (get_or s f 0) (drop (f + 1) s)) = d.late (omega arith) ∙ rw (last h k) in
      let l = length-take-le (get_or s f 0) (drop (f + 1) s) (omega (arith, d.end (omega arith), length-drop (f + 1) s)) in
      record { said = rw (x, l, d.there (omega arith)); inside = d.end (omega arith); bytes = rw x }

  module _ (h : i < n) (k : p < length s) (y : get_or s p 0 ≤ length s - (p + 1)) where
    passed : items_in (n - i) (drop p s) ≡ item_before (take (get_or s p 0) (drop (p + 1) s)) (items_in (n - (i + 1)) (drop (p + 1 + get_or s p 0) s))
    passed =
        item_at s (n - i) (n - (i + 1)) p (omega arith) k ∙ rw (le-leb (get_or s p 0) (length (drop (p + 1) s)) (omega (arith, length-drop (p + 1) s)))

    reached_next : p + 1 + get_or s p 0 ≡ behind (i + 1) s
    unfolding behind
    reached_next = ap (λ (q : ℕ). q + 1 + get_or s q 0) d.reached ∙ ap (λ (j : ℕ). behind j s) (sym (add-one i))

    -- item i + 1 is not the wanted one
    pub walked_more : (i + 1 ≡ w → ⊥) → Passed s w n (i + 1) (p + 1 + get_or s p 0) f
    walked_more z = record {
      wanted = d.wanted;
      inside = omega arith;
      place = omega arith;
      reached = reached_next;
      early = λ q.
          d.early (omega arith) ∙ ap (nth_of (w - i)) passed
          ∙ rw (let e : w - i ≡ suc (suc (w - (i + 2))) = omega arith in e, nth_later, let e : w - (i + 1) ≡ suc (w - (i + 2)) = omega arith in e);
      there = λ q. d.there (omega (arith, z));
      end = λ q. d.end (omega (arith, z));
      late = λ q. d.late (omega (arith, z)) ∙ rw (passed, given_after);
    }

    -- item i + 1 is the wanted one
    pub walked_there : i + 1 ≡ w → Passed s w n (i + 1) (p + 1 + get_or s p 0) p
    walked_there z = record {
      wanted = d.wanted;
      inside = omega arith;
      place = omega arith;
      reached = reached_next;
      early = λ q. absurd (omega arith);
      there = λ q. d.reached ∙ ap (λ (j : ℕ). behind j s) (omega arith);
      end = λ q. omega arith;
      late = λ q.
          d.early (omega arith) ∙ ap (nth_of (w - i)) passed
          ∙ rw (let e : w - i ≡ 1 = omega arith in e, nth_here);
    }

-- ---- what the code keeps of it: where the wanted item's length stands, once it is passed

pub record Walked (s : Bytes) (w n i p : ℕ) (o : Maybe ℕ) : Type 0 where
  pub length_at : ℕ
  pub passed : Passed s w n i p length_at
  pub kept : MatchOption o (i < w) (λ x. (w ≤ i) × (x ≡ length_at))

pub walk_begins : (s : Bytes) (w : ℕ) → (length s ≡ 0 → ⊥) → (w ≡ 0 → ⊥) → Walked s w (get_or s 0 0) 0 1 None
walk_begins s w h z = record { length_at = 0; passed = walked_none s w h z; kept = omega arith }

module _ {s : Bytes} {w n i p : ℕ} (h : i < n) (k : p < length s) (y : get_or s p 0 ≤ length s - (p + 1)) where
  pub walk_more : (o o' : Maybe ℕ) → Walked s w n i p o → (i + 1 ≡ w → ⊥) → o' ≡ o → Walked s w n (i + 1) (p + 1 + get_or s p 0) o'
  walk_more None o' d z e = rw e (record { length_at = d.length_at; passed = walked_more d.passed h k y z; kept = omega (arith, z, d.kept) })
  walk_more (Some x) o' d z e = rw e (record { length_at = d.length_at; passed = walked_more d.passed h k y z; kept = (omega (arith, d.kept.0), d.kept.1) })

  pub walk_there : {o o' : Maybe ℕ} → Walked s w n i p o → i + 1 ≡ w → o' ≡ Some p → Walked s w n (i + 1) (p + 1 + get_or s p 0) o'
  walk_there d z e = rw e (record { length_at = p; passed = walked_there d.passed h k y z; kept = (omega arith, refl) })

module _ {s : Bytes} {w n i p : ℕ} {o : Maybe ℕ} (d : Walked s w n i p o) (h : n ≤ i) (k : length s ≤ p) where
  pub walk_missing : o ≡ None → text_item s w ≡ none
  walk_missing e = too_few d.passed h k (omega (arith, rw e at d.kept))

  module _ {x : ℕ} (e : o ≡ Some x) where
    kept : (w ≤ i) × (x ≡ d.length_at)
    kept = rw e at d.kept

    pub walk_found : ItemPlaced s w (record { no = 0; start = x + 1; len = get_or s x 0 })
    walk_found = rw kept.1 (found d.passed h k (omega (arith, kept.0, d.passed.inside)))
