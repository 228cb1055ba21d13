-- The walk over the fields of a body: the starts and the lengths are all there once those from field j on are written.
-- Assumes nothing.
use Prim.Native.Nat.{ℕ, suc, ◌+◌, ◌-◌, ◌≤◌, ◌<◌}
use mathlib.Core.Path.{◌≡◌, refl, ap, ap₂, sym, ◌∙◌}
use mathlib.Core.List.{List, [], ◌∷◌}
use native.Mathlib.Omega.{arith}
use native.Mathlib.Numerals.{add-one}
use lib.ListN.{length, take, drop, set, length-set, length-drop, length-take, replicate}
use lib.Seq.{sets, drop-drop, length-take-le}
use Rattle.text.specs.Text.{Bytes}
use Rattle.format.specs.Read.{cut}
use Rattle.frame.specs.Frame.{next_mark}
use Rattle.frame.proofs.Parts.{cut_at, cut_none, cut_rest, next_from, next_within}
use Rattle.places.specs.Places.{starts_from, lengths, seven, lens_of, count_few, places_of}
use Rattle.places.specs.declared.Places.{Places}
use Rattle.places.proofs.Seven.{sets_past}

-- the fields of a body
abbrev pub fields_by : ℕ → Bytes → List Bytes
fields_by m b = drop 1 (cut m b)

-- p has j fields, and field j starts at place i
pub record Going (m : ℕ) (b : Bytes) (p : Places) (j i : ℕ) : Type 0 where
  pub there : drop j (fields_by m b) ≡ cut m (drop i b)
  pub passed : j ≤ length (fields_by m b)
  pub counted : p.count ≡ j
  pub seven_starts : length p.starts ≡ 7
  pub seven_lens : length p.lens ≡ 7
  pub all_starts : sets p.starts j (starts_from i (drop j (fields_by m b))) ≡ seven 0 (starts_from (next_mark m b 0 + 1) (fields_by m b))
  pub all_lens : sets p.lens j (lengths (drop j (fields_by m b))) ≡ lens_of (fields_by m b)

module _ (m : ℕ) (b : Bytes) where
  pub walk_begins : (e : ℕ) → e ≡ next_mark m b 0 → Going m b (record { count = 0; starts = replicate 7 0; lens = replicate 7 0 }) 0 (e + 1)
  walk_begins e q = record { there = rw q (cut_rest m b); passed = omega arith; counted = refl; seven_starts = refl; seven_lens = refl; all_starts = rw q; all_lens = refl }

  abbrev made : ℕ → List ℕ → List ℕ → Places
  made count starts lens = record { count = count; starts = starts; lens = lens }

  placed : (p : Places) → p.count ≡ count_few (fields_by m b) → p.starts ≡ seven 0 (starts_from (next_mark m b 0 + 1) (fields_by m b)) → p.lens ≡ lens_of (fields_by m b) → p ≡ places_of m b
  unfolding places_of
  placed p c e f = ap (λ (x : ℕ). made x p.starts p.lens) c ∙ ap₂ (made (count_few (fields_by m b))) e f

  module _ (p : Places) (j i : ℕ) (g : Going m b p j i) where
    -- no field is left
    pub walk_ends : j ≤ 7 → length b ≤ i → p ≡ places_of m b
    walk_ends few h =
        let none : drop j (fields_by m b) ≡ [] = g.there ∙ cut_none m b i h in
        placed p (omega (arith, g.counted, g.passed, ap length none, length-drop j (fields_by m b), length-take 8 (fields_by m b))) (rw none at g.all_starts) (rw none at g.all_lens)

    -- no place is left, and a field is
    pub walk_full : j ≤ 7 → 7 ≤ j → i < length b → record { count = p.count + 1; starts = p.starts; lens = p.lens } ≡ places_of m b
    walk_full few h l =
        placed (record { count = p.count + 1; starts = p.starts; lens = p.lens }) (omega (arith, g.counted, ap length (g.there ∙ cut_at m b i l), length-drop j (fields_by m b), length-take 8 (fields_by m b)))
        (sym (sets_past (starts_from i (drop j (fields_by m b))) p.starts j (omega (arith, g.seven_starts))) ∙ g.all_starts)
        (sym (sets_past (lengths (drop j (fields_by m b))) p.lens j (omega (arith, g.seven_lens))) ∙ g.all_lens)

    -- field j ends at place e
    module _ (h : i < length b) (e : ℕ) (q : e ≡ next_mark m b i) where
      pub ends_from : i ≤ e
      ends_from = omega (arith, q, next_from m b i)

      pub ends_within : e ≤ length b
      ends_within = omega (arith, q, next_within m b i (omega arith))

      here : drop j (fields_by m b) ≡ take (e - i) (drop i b) ∷ cut m (drop (e + 1) b)
      here = rw q (g.there ∙ cut_at m b i h)

      after : drop (suc j) (fields_by m b) ≡ cut m (drop (e + 1) b)
      after = rw (← add-one j) (sym (drop-drop 1 j (fields_by m b)) ∙ ap (drop 1) here)

      its_length : length (take (e - i) (drop i b)) ≡ e - i
      its_length = length-take-le (e - i) (drop i b) (omega (arith, ends_within, length-drop i b))

      pub walk_goes_on : Going m b (record { count = p.count + 1; starts = set p.starts j i; lens = set p.lens j (e - i) }) (j + 1) (e + 1)
      walk_goes_on =
          record {
            there = rw (add-one j) after;
            passed = omega (arith, ap length here, length-drop j (fields_by m b));
            counted = omega (arith, g.counted);
            seven_starts = length-set p.starts j i ∙ g.seven_starts;
            seven_lens = length-set p.lens j (e - i) ∙ g.seven_lens;
            all_starts = let next : i + (e - i) + 1 ≡ e + 1 = omega (arith, ends_from) in rw (add-one j, after) (rw (here, its_length, next) at g.all_starts);
            all_lens = rw (add-one j, after) (rw (here, its_length) at g.all_lens);
          }
