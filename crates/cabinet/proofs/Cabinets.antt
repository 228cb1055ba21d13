-- Bytes whose places can all be read, and whether they are a cabinet, as the code asks it.
-- Assumes nothing.
use Prim.Native.Nat.{ℕ, zero, suc, ◌+◌, ◌-◌, ◌*◌, ◌≤◌, ◌<◌}
use mathlib.Core.Path.{◌≡◌, refl, sym, ap, ap₂, ◌∙◌, subst}
use mathlib.Core.Logic.{◌≢◌}
use mathlib.Core.Bool.{Bool, true, false, not, cond}
use mathlib.Core.Option.{Option, none, some}
use mathlib.Core.List.{List, [], ◌∷◌, ◌++◌}
use native.Mathlib.Omega.{arith}
use native.Mathlib.Numerals.{add-one}
use native.Mathlib.Nat.{add-zero}
use lib.ListN.{length, drop, get_or, drop_of_length-le, length-drop}
use lib.Seq.{get_or-take, get_or-drop, drop-cons}
use lib.Dec.{T, eqb, eqb→eq}
use mir.Facts.{and_yes, T_not, yes_eqb}
use borrow.Author.Tests.{eq-eqb, ne_eqb}
use Rattle.text.specs.Text.{Bytes, without}
use Rattle.text.proofs.Tests.{T_true, T_false, by_test}
use Rattle.shelf.specs.Places.{Names, Held, Place, free, held, is_free, holds, lowest, occupied, alone, distinct}
use Rattle.shelf.specs.Cabinet.{places, width, tvp_at, number_of, zeros, encode, parts, decode_all, provided, where_distinct, shelf}
use Rattle.shelf.proofs.Readings.{fitting}
use Rattle.shelf.proofs.Images.{Good, decode_some, parts_some, provided_some, distinct_some}
use Rattle.cabinet.specs.Steps.{is_some, is_place_at, part_at, names_in, subject_at, starts_so, first, first_from, all_pass, has_names, is_free_at, alone_at, occupied_of}
use Rattle.cabinet.proofs.Names.{names_text, Clean, clean, names_taken, free_names, its_subject, subject_taken, held_names}
use Rattle.cabinet.proofs.Bridge.{first_same, lowest_drop, missing_lowest, alone_in, distinct_first, all_places, place_at}

-- ---- the numbers of a cabinet

pub places_are : places ≡ 64
unfolding places
places_are = refl

pub width_is : width ≡ 1024
unfolding width
width_is = refl

size_is : places * width ≡ 65536
unfolding places width
size_is = refl

shelf_by : (s : Bytes) → shelf s ≡ provided (eqb (length s) 65536) (where_distinct (decode_all (parts 1024 places s)))
unfolding shelf
shelf_by s = ap₂ (λ (n w : ℕ). provided (eqb (length s) n) (where_distinct (decode_all (parts w places s)))) size_is width_is

-- ---- bytes whose places are ps

pub record Read (s : Bytes) (ps : List Place) : Type 0 where
  pub long : length s ≡ 65536
  pub number : length ps ≡ 64
  pub at : (i : ℕ) → i < 64 → (encode (get_or ps i free) ≡ part_at s i) × Good (get_or ps i free)

pub read_all : (s : Bytes) (ps : List Place) → length s ≡ 65536 → decode_all (parts 1024 places s) ≡ some ps → Read s ps
read_all s ps l e =
    record {
      long = l;
      number = (parts_some places s ps (l ∙ sym size_is) (ap (λ (w : ℕ). decode_all (parts w places s)) width_is ∙ e)).2 ∙ places_are;
      at = λ i h. decode_some (part_at s i) (get_or ps i free) (place_at places s ps e i (rw places_are h));
    }

front_byte : (s : Bytes) (i : ℕ) → get_or s (i * 1024) 0 ≡ get_or (part_at s i) 0 0
front_byte s i = sym (get_or-take 1024 (drop (i * 1024) s) 0 0 (omega arith) ∙ get_or-drop (i * 1024) s 0 0 ∙ ap (λ (n : ℕ). get_or s n 0) (add-zero (i * 1024)))

-- a free place begins with a zero, and a record does not
free_front : (p : Place) → Good p → eqb (get_or (encode p) 0 0) 0 ≡ is_free p
unfolding encode width
free_front free g = refl
free_front (held h) g =
    let f = fitting h.text h.names h.gnt g.0 in
    go h.text f.some_byte f.no_zero
  where
    go : (t : Bytes) → length t ≢ 0 → T (without 0 t) → eqb (get_or (((t ++ zeros (tvp_at - length h.text)) ++ h.tvp) ++ number_of h.text) 0 0) 0 ≡ false
    go [] n w = absurd (n refl)
    go (c ∷ t) n w = T_false (eqb c 0) (and_yes (not (eqb c 0)) (without 0 t) w).0

names_front : (k : Names) → Clean k → (p : Place) → Good p → starts_so (encode p) (names_text k) ≡ holds k p
unfolding encode
names_front k c free g = free_names k c
names_front k c (held h) g = held_names h g.0 k c

-- the names of a record are clean, and the code takes them from its place
names_held : (h : Held) → Good (held h) → Clean h.names × (names_in (subject_at (encode (held h))) ≡ names_text h.names)
names_held h g = (clean (its_subject h g.0), ap names_in (subject_taken h g.0) ∙ names_taken (its_subject h g.0))

module _ {s : Bytes} {ps : List Place} (R : Read s ps) where
  pub free_so : (i : ℕ) → i < 64 → is_free_at s i ≡ is_free (get_or ps i free)
  free_so i l =
      let (e, g) = R.at i l in
      ap (λ (c : ℕ). eqb c 0) (front_byte s i ∙ ap (λ (x : Bytes). get_or x 0 0) (sym e)) ∙ free_front (get_or ps i free) g

  names_so : (k : Names) → Clean k → (i : ℕ) → i < 64 → has_names s (names_text k) i ≡ holds k (get_or ps i free)
  names_so k c i l =
      let (e, g) = R.at i l in
      ap (λ (x : Bytes). starts_so x (names_text k)) (sym e) ∙ names_front k c (get_or ps i free) g

  first_so : (t : ℕ → Bool) (u : Place → Bool) → ((i : ℕ) → i < 64 → t i ≡ u (get_or ps i free)) → (i : ℕ) → i ≤ 64 → first_from t i ≡ i + lowest u (drop i ps)
  first_so t u h i l =
      first_same t (λ j. u (get_or ps j free)) (64 - i) i (λ j a b. h j (omega arith))
      ∙ ap (λ (n : ℕ). first (λ j. u (get_or ps j free)) (n - i) i) (sym R.number)
      ∙ sym (lowest_drop u i ps (omega (arith, R.number)))

  pub names_from : (k : Names) → Clean k → (i : ℕ) → i ≤ 64 → first_from (has_names s (names_text k)) i ≡ i + lowest (holds k) (drop i ps)
  names_from k c = first_so (has_names s (names_text k)) (holds k) (names_so k c)

  pub lowest_names : (k : Names) → Clean k → first_from (has_names s (names_text k)) 0 ≡ lowest (holds k) ps
  lowest_names k c = names_from k c 0 (omega arith) ∙ omega arith

  pub lowest_free : first_from (is_free_at s) 0 ≡ lowest is_free ps
  lowest_free = first_so (is_free_at s) is_free free_so 0 (omega arith) ∙ omega arith

  -- ---- no two records share their names

  alone_held : (i : ℕ) → i < 64 → (p : Place) → get_or ps i free ≡ p → alone_at s i ≡ alone p (drop (suc i) ps)
  unfolding alone_at
  alone_held i l free e = rw (free_so i l, e)
  alone_held i l (held h) e =
      let (b, g) = R.at i l in
      let g' : Good (held h) = subst Good e g in
      let (c, n) = names_held h g' in
      let v : names_in (subject_at (part_at s i)) ≡ names_text h.names = ap (λ (x : Bytes). names_in (subject_at x)) (sym b ∙ ap encode e) ∙ n in
      let f : first_from (has_names s (names_text h.names)) (i + 1) ≡ (i + 1) + lowest (holds h.names) (drop (suc i) ps) =
      names_from h.names c (i + 1) (omega arith) ∙ ap (λ (m : ℕ). (i + 1) + lowest (holds h.names) (drop m ps)) (add-one i) in
      rw (free_so i l, e, v, f)
      (end (lowest (holds h.names) (drop (suc i) ps)) (length (drop (suc i) ps)) (omega (arith, length-drop (suc i) ps, R.number))
      ∙ sym (missing_lowest h.names (drop (suc i) ps)))
    where
      end : (a b : ℕ) → (i + 1) + b ≡ 64 → eqb ((i + 1) + a) 64 ≡ eqb a b
      end a b q =
          by_test (eqb a b)
          (λ t. rw (T_true (eqb a b) t) (eq-eqb ((i + 1) + a) 64 (omega (arith, eqb→eq a b t))))
          (λ t. rw (T_false (eqb a b) t) (ne_eqb ((i + 1) + a) 64 (λ z. let w : a ≡ b = omega arith in T_not (eqb a b) (yes_eqb w) t)))

  pub distinct_so : all_pass (alone_at s) ≡ distinct ps
  distinct_so =
      ap (λ (n : ℕ). eqb n 64) (first_same (λ i. not (alone_at s i)) (λ i. not (alone_in ps i)) 64 0 (λ j a b. ap not (alone_held j (omega arith) (get_or ps j free) refl)))
      ∙ ap (λ (n : ℕ). eqb (first (λ i. not (alone_in ps i)) n 0) n) (sym R.number)
      ∙ sym (distinct_first ps)

  -- ---- how many are occupied

  occupied_from : (n i : ℕ) → i + n ≡ 64 → occupied_of s n i ≡ occupied (drop i ps)
  unfolding occupied_of
  occupied_from zero i e = ap occupied (sym (drop_of_length-le ps {i = i} (omega (arith, R.number))))
  occupied_from (suc n) i e =
      ap₂ (λ (b : Bool) (m : ℕ). cond b 0 1 + m) (free_so i (omega arith)) (occupied_from n (suc i) (omega arith))
      ∙ ap occupied (sym (drop-cons ps i free (omega (arith, R.number))))

  pub occupied_so : occupied_of s 64 0 ≡ occupied ps
  occupied_so = occupied_from 64 0 refl

-- ---- the code's test of one place

module _ (s : Bytes) (i : ℕ) where
  pub alone_free : get_or (part_at s i) 0 0 ≡ 0 → true ≡ alone_at s i
  unfolding alone_at
  alone_free e = sym (rw (eq-eqb (get_or s (i * 1024) 0) 0 (front_byte s i ∙ e)))

  pub alone_named : (get_or (part_at s i) 0 0 ≡ 0 → ⊥) → {p j v : Bytes} {at : ℕ} → p ≡ part_at s i → j ≡ subject_at p → v ≡ names_in j → at ≡ first_from (has_names s v) (i + 1)
      → eqb at 64 ≡ alone_at s i
  unfolding alone_at
  alone_named n a b c d =
      ap (λ (x : ℕ). eqb x 64) (d ∙ ap (λ (x : Bytes). first_from (has_names s x) (i + 1)) (c ∙ ap names_in (b ∙ ap subject_at a)))
      ∙ sym (rw (ne_eqb (get_or s (i * 1024) 0) 0 (λ e. n (sym (front_byte s i) ∙ e))))

-- ---- is this a cabinet

provided_is : (b : Bool) (x : Option (List Place)) → b ≡ false → is_some (provided b x) ≡ false
provided_is b x e = rw e

pub cabinet_long : (s : Bytes) → (length s ≡ 65536 → ⊥) → false ≡ is_some (shelf s)
cabinet_long s n = sym (ap is_some (shelf_by s) ∙ provided_is (eqb (length s) 65536) _ (ne_eqb (length s) 65536 n))

abbrev pub its : Bytes → Option (List Place)
its s = decode_all (parts 1024 places s)

pub all_read : (s : Bytes) → all_pass (is_place_at s) ≡ is_some (its s)
all_read s = sym (all_places places s ∙ ap (λ (n : ℕ). eqb (first (λ i. not (is_place_at s i)) n 0) n) places_are)

module _ (s : Bytes) (l : length s ≡ 65536) where
  shelf_long : is_some (shelf s) ≡ is_some (where_distinct (its s))
  shelf_long = ap is_some (shelf_by s) ∙ ap (λ (b : Bool). is_some (provided b (where_distinct (its s)))) (eq-eqb (length s) 65536 l)

  pub cabinet_bad : false ≡ all_pass (is_place_at s) → false ≡ is_some (shelf s)
  cabinet_bad e = sym (shelf_long ∙ go (its s) (e ∙ all_read s))
    where
      go : (o : Option (List Place)) → false ≡ is_some o → is_some (where_distinct o) ≡ false
      go none f = refl
      go (some ps) f = let z : ◌≡◌ {A = ℕ} 0 1 = cc in absurd (omega arith)

  pub cabinet_so : true ≡ all_pass (is_place_at s) → all_pass (alone_at s) ≡ is_some (shelf s)
  cabinet_so e = go (its s) refl (e ∙ all_read s) ∙ sym shelf_long
    where
      distinct_is : (b : Bool) (ps : List Place) → is_some (provided b (some ps)) ≡ b
      distinct_is true ps = refl
      distinct_is false ps = refl

      go : (o : Option (List Place)) → its s ≡ o → true ≡ is_some o → all_pass (alone_at s) ≡ is_some (where_distinct o)
      go none q f = let z : ◌≡◌ {A = ℕ} 0 1 = cc in absurd (omega arith)
      go (some ps) q f = distinct_so (read_all s ps l q) ∙ sym (distinct_is (distinct ps) ps)

-- ---- bytes that are one

pub none_there : (s : Bytes) → false ≡ is_some (shelf s) → shelf s ≡ none
none_there s e = go (shelf s) e
  where
    go : (o : Option (List Place)) → false ≡ is_some o → o ≡ none
    go none f = refl
    go (some ps) f = let z : ◌≡◌ {A = ℕ} 0 1 = cc in absurd (omega arith)

pub some_there : (s : Bytes) → true ≡ is_some (shelf s) → (ps : List Place) × (shelf s ≡ some ps) × Read s ps
some_there s e = go (shelf s) refl e
  where
    go : (o : Option (List Place)) → shelf s ≡ o → true ≡ is_some o → (ps : List Place) × (shelf s ≡ some ps) × Read s ps
    go none q f = let z : ◌≡◌ {A = ℕ} 0 1 = cc in absurd (omega arith)
    go (some ps) q f =
        let h = provided_some (eqb (length s) 65536) (where_distinct (its s)) ps (sym (shelf_by s) ∙ q) in
        (ps, q, read_all s ps (eqb→eq (length s) 65536 h.0) (distinct_some (its s) ps h.1).1)
