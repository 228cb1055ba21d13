-- The fields as the call is lent them: bytes and lengths say the same as the list of the fields, and field after field is found
-- by counting the lengths.
-- Assumes nothing.
use Prim.Native.Nat.{ℕ, zero, suc, ◌+◌, ◌≤◌, ◌<◌}
use mathlib.Core.Path.{◌≡◌, refl, sym, ap, ap₂, ◌∙◌}
use mathlib.Core.List.{List, [], ◌∷◌}
use native.Mathlib.Omega.{arith}
use native.Mathlib.Numerals.{add-one}
use lib.ListN.{length, take, drop, get_or, set, replicate, length-set, length-append, length-drop, drop_of_length-le, take-append-drop}
use lib.Seq.{sets, length-take-le, take-append_seam, drop-append_seam, drop-cons, drop-drop}
use Rattle.text.specs.Text.{Bytes}
use Rattle.places.specs.Places.{lengths, seven}
use Rattle.places.specs.declared.Places.{Places}
use Rattle.places.proofs.Stands.{Stands, part-at}
use Rattle.building.specs.Building.{sum, pieces, run}
use Rattle.building.specs.Steps.{starts_by, places_by, Lie}

-- ---- there and back

pub pieces_count : (ns : List ℕ) (s : Bytes) → length (pieces ns s) ≡ length ns
pieces_count [] s = refl
pieces_count (n ∷ ns) s = ap suc (pieces_count ns (drop n s))

pub pieces_lengths : (ns : List ℕ) (s : Bytes) → sum ns ≡ length s → lengths (pieces ns s) ≡ ns
pieces_lengths [] s e = refl
pieces_lengths (n ∷ ns) s e =
    ap₂ {C = List ℕ} (λ x xs. x ∷ xs) (length-take-le n s (omega arith)) (pieces_lengths ns (drop n s) (omega (arith, length-drop n s)))

pub pieces_run : (ns : List ℕ) (s : Bytes) → sum ns ≡ length s → run (pieces ns s) ≡ s
pieces_run [] [] e = refl
pieces_run [] (c ∷ s) e = absurd (omega arith)
pieces_run (n ∷ ns) s e = rw (pieces_run ns (drop n s) (omega (arith, length-drop n s))) (take-append-drop n s)

pub pieces_back : (fs : List Bytes) → pieces (lengths fs) (run fs) ≡ fs
pieces_back [] = refl
pieces_back (f ∷ fs) = rw (take-append_seam f (run fs), drop-append_seam f (run fs), pieces_back fs)

pub sum_lengths : (fs : List Bytes) → sum (lengths fs) ≡ length (run fs)
sum_lengths [] = refl
sum_lengths (f ∷ fs) = omega (arith, sum_lengths fs, length-append f (run fs))

-- ---- from field i on

pub sum_step : (ns : List ℕ) (i : ℕ) → i < length ns → sum (drop i ns) ≡ get_or ns i 0 + sum (drop (i + 1) ns)
sum_step ns i h = rw (drop-cons ns i 0 h, add-one)

-- ---- where the fields stand

starts_count : (p : ℕ) (ns : List ℕ) → length (starts_by p ns) ≡ length ns
starts_count p [] = refl
starts_count p (n ∷ ns) = ap suc (starts_count (p + n) ns)

stands : (s : Bytes) (ns : List ℕ) (p : ℕ) → p + sum ns ≤ length s → (j : ℕ) → j < length ns → Stands s (get_or (starts_by p ns) j 0) (get_or (pieces ns (drop p s)) j [])
stands s [] p h j l = absurd (omega arith)
stands s (n ∷ ns) p h zero l =
    let e : length (take n (drop p s)) ≡ n = length-take-le n (drop p s) (omega (arith, length-drop p s)) in
    record { within = omega (arith, e); bytes = rw e }
stands s (n ∷ ns) p h (suc j) l = rw (drop-drop n p s) (stands s ns (p + n) (omega arith) j (omega arith))

pub lie : (s : Bytes) (ns : List ℕ) → length ns ≤ 7 → sum ns ≡ length s → (r : Places) → r ≡ places_by ns → Lie s ns r.starts r.lens
lie s ns few e r er =
    rw er record {
      at = λ j.
          rw (pieces_lengths ns s e) at
          (part-at s (starts_by 0 ns) (pieces ns s) (omega (arith, few, pieces_count ns s)) (starts_count 0 ns ∙ sym (pieces_count ns s)) (λ i h. stands s ns 0 (omega (arith, e)) i (omega (arith, h, pieces_count ns s))) j);
    }

-- ---- the loop that finds the places: all there once those from field j on, which starts at p, are written

pub record Found (s : Bytes) (ns starts sizes : List ℕ) (p j : ℕ) : Type 0 where
  pub left : p + sum (drop j ns) ≡ length s
  pub few : length ns ≤ 7
  pub seven_starts : length starts ≡ 7
  pub seven_sizes : length sizes ≡ 7
  pub all_starts : sets starts j (starts_by p (drop j ns)) ≡ seven 0 (starts_by 0 ns)
  pub all_sizes : sets sizes j (drop j ns) ≡ seven 0 ns

pub found_none : (s : Bytes) (ns : List ℕ) → length ns ≤ 7 → sum ns ≡ length s → Found s ns (replicate 7 0) (replicate 7 0) 0 0
found_none s ns few e = record { left = omega (arith, e); few = few; seven_starts = refl; seven_sizes = refl; all_starts = refl; all_sizes = refl }

module _ {s : Bytes} {ns starts sizes : List ℕ} {p j : ℕ} (w : Found s ns starts sizes p j) where
  pub found_all : length ns ≤ j → record { count = length ns; starts = starts; lens = sizes } ≡ places_by ns
  found_all h =
      let none = drop_of_length-le ns {i = j} h in
      ap₂ (made (length ns)) (rw none at w.all_starts) (rw none at w.all_sizes)
    where
      made : ℕ → List ℕ → List ℕ → Places
      made n x y = record { count = n; starts = x; lens = y }

  module _ (h : j < length ns) where
    pub found_fits : p + get_or ns j 0 ≤ length s
    found_fits = omega (arith, w.left, sum_step ns j h)

    pub found_next : Found s ns (set starts j p) (set sizes j (get_or ns j 0)) (p + get_or ns j 0) (j + 1)
    found_next =
        let here = drop-cons ns j 0 h in
        record {
          left = omega (arith, w.left, sum_step ns j h);
          few = w.few;
          seven_starts = length-set starts j p ∙ w.seven_starts;
          seven_sizes = length-set sizes j (get_or ns j 0) ∙ w.seven_sizes;
          all_starts = rw (add-one j) (rw here at w.all_starts);
          all_sizes = rw (add-one j) (rw here at w.all_sizes);
        }
