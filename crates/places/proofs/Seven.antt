-- Seven numbers: those of a list that has no more, and the same number behind them.
-- Assumes nothing.
use Prim.Native.Nat.{ℕ, suc, ◌+◌, ◌-◌, ◌≤◌}
use mathlib.Core.Path.{◌≡◌, refl, ap, sym, ◌∙◌}
use mathlib.Core.List.{List, [], ◌∷◌, ◌++◌}
use native.Mathlib.Omega.{arith}
use lib.ListN.{length, drop, get_or, set, replicate, get_or-replicate, length-set, get_or-append, get_or-eq_default}
use lib.Seq.{sets, sets-eq, set_out, get_or-append-add, get_or-drop}
use Rattle.text.proofs.Tests.{less_or}
use Rattle.places.specs.Places.{seven}

-- behind the end nothing is written
pub sets_past : (vs l : List ℕ) (i : ℕ) → length l ≤ i → sets l i vs ≡ l
sets_past [] l i h = refl
sets_past (v ∷ vs) l i h = sets_past vs (set l i v) (suc i) (omega (arith, length-set l i v)) ∙ set_out l i v h

same_all : (d j : ℕ) → get_or (replicate 7 d) j d ≡ d
same_all d j = less_or j 7 (λ h. get_or-replicate 7 j d d h) (λ h. get_or-eq_default (replicate 7 d) d h)

pub seven_at : (d : ℕ) (ns : List ℕ) → length ns ≤ 7 → (j : ℕ) → get_or (seven d ns) j d ≡ get_or ns j d
seven_at d ns few j = ap (λ (l : List ℕ). get_or l j d) (sets-eq ns (replicate 7 d) 0 (omega (arith, few))) ∙ less_or j (length ns) (λ h. get_or-append ns (drop (0 + length ns) (replicate 7 d)) d j h) past
  where
    past : length ns ≤ j → get_or (ns ++ drop (0 + length ns) (replicate 7 d)) j d ≡ get_or ns j d
    past h =
        let n = length ns in
        let e : j ≡ length ns + (j - length ns) = omega arith in
        ap (λ (x : ℕ). get_or (ns ++ drop (0 + length ns) (replicate 7 d)) x d) e
        ∙ get_or-append-add ns (drop (0 + n) (replicate 7 d)) (j - n) d
        ∙ get_or-drop (0 + n) (replicate 7 d) (j - n) d
        ∙ same_all d (0 + n + (j - n))
        ∙ sym (get_or-eq_default ns d {n = j} h)
