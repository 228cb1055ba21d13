-- Lists one after another in one array, with the place where each starts: the part between two places is that list.
-- Assumes nothing.
use Prim.Native.Nat.{ℕ, zero, suc, ◌+◌, ◌-◌, ◌≤◌, ◌<◌}
use mathlib.Core.Path.{◌≡◌, refl, sym, ap, ◌∙◌}
use mathlib.Core.List.{List, [], ◌∷◌, ◌++◌, flatten, append_assoc}
use native.Mathlib.Omega.{arith}
use lib.ListN.{length, take, drop, get_or, length-append, length-take, length-drop}
use lib.Seq.{take-append_seam, drop-append_seam, get_or-take, get_or-drop}

module _ {ℓ} {A : Type ℓ} where
  -- where each list starts, the first of them at i, and where the last ends
  abbrev pub places : ℕ → List (List A) → List ℕ
  places i [] = i ∷ []
  places i (l ∷ ls) = i ∷ places (i + length l) ls

  -- l stands in all from place a to before place e
  pub record Piece (all l : List A) (a e : ℕ) : Type ℓ where
    pub from_to : a ≤ e
    pub to_end : e ≤ length all
    pub is : take (e - a) (drop a all) ≡ l

  first_place : (i : ℕ) (ls : List (List A)) → get_or (places i ls) 0 0 ≡ i
  first_place i [] = refl
  first_place i (l ∷ ls) = refl

  after : (pre : List A) (ls : List (List A)) (k : ℕ) → k < length ls → Piece (pre ++ flatten ls) (get_or ls k []) (get_or (places (length pre) ls) k 0) (get_or (places (length pre) ls) (suc k) 0)
  unfolding flatten
  after pre [] k h = absurd (omega arith)
  after pre (l ∷ ls) zero h =
      let z : length pre + length l - length pre ≡ length l = omega arith in
      rw (first_place (length pre + length l) ls)
      record {
        from_to = omega arith;
        to_end = omega (arith, length-append pre (l ++ flatten ls), length-append l (flatten ls));
        is = rw (z, drop-append_seam, take-append_seam);
      }
  after pre (l ∷ ls) (suc k) h = rw (← append_assoc, ← length-append) (after (pre ++ l) ls k (omega arith))

  pub piece : (ls : List (List A)) (k : ℕ) → k < length ls → Piece (flatten ls) (get_or ls k []) (get_or (places 0 ls) k 0) (get_or (places 0 ls) (suc k) 0)
  piece ls k h = after [] ls k h

  module _ {all l : List A} {a e : ℕ} (p : Piece all l a e) where
    pub piece_length : length l ≡ e - a
    piece_length = omega (arith, ap length (sym p.is), length-take (e - a) (drop a all), length-drop a all, p.from_to, p.to_end)

    pub piece_entry : (j : ℕ) (d : A) → j < length l → get_or all (a + j) d ≡ get_or l j d
    piece_entry j d h =
        sym (get_or-drop a all j d)
        ∙ sym (get_or-take (e - a) (drop a all) j d (omega (arith, piece_length)))
        ∙ ap (λ (x : List A). get_or x j d) p.is
