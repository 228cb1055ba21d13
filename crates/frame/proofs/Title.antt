-- The first mark of either sort, by places.
-- Assumes nothing.
use Prim.Native.Nat.{ℕ, ◌-◌, ◌≤◌, ◌<◌}
use mathlib.Core.Path.{◌≡◌, refl, ap}
use mathlib.Core.Bool.{Bool, true, false, cond}
use mathlib.Core.List.{[], ◌∷◌}
use native.Mathlib.Omega.{arith}
use native.Mathlib.Numerals.{add-one}
use lib.ListN.{length, take, drop, get_or, length-take}
use Rattle.std.proofs.Common.{Option as Maybe}
use Rattle.std.specs.Option.{MatchOption, unwrap_or}
use Rattle.std.specs.List.{AllWithin, HoldsAt}
use Rattle.std.proofs.lemmas.Iterator.{index_from_first}
use Rattle.text.specs.Text.{Bytes}
use Rattle.format.specs.Read.{is_mark, title, mark_after}

-- ---- its length is the place of the first mark

pub title_first : (s : Bytes) (r : Maybe ℕ)
    → MatchOption r (AllWithin (λ x. is_mark x ≡ false) s 0 (length s)) (λ i. (i < length s) × HoldsAt (λ x. is_mark x ≡ true) s i × AllWithin (λ x. is_mark x ≡ false) s 0 i)
    → length (title s) ≡ unwrap_or r (length s)
title_first =
    index_from_first (λ xs. length (title xs)) (λ x. is_mark x ≡ true) (λ x. is_mark x ≡ false) refl
    (λ x xs e. rw e) (λ x xs e. rw (e, add-one))

-- ---- the title and its mark, by the title's length

title_take : (s : Bytes) → take (length (title s)) s ≡ title s
title_take [] = refl
title_take (c ∷ s) = go (is_mark c) (title_take s)
  where
    go : (b : Bool) → take (length (title s)) s ≡ title s → take (length (cond b [] (c ∷ title s))) (c ∷ s) ≡ cond b [] (c ∷ title s)
    go true e = refl
    go false e = ap (λ (x : Bytes). c ∷ x) e

pub title_within : (s : Bytes) → length (title s) ≤ length s
title_within s = omega (arith, ap length (title_take s), length-take (length (title s)) s)

mark_get : (s : Bytes) → get_or s (length (title s)) 0 ≡ mark_after s
mark_get [] = refl
mark_get (c ∷ s) = go (is_mark c) (mark_get s)
  where
    go : (b : Bool) → get_or s (length (title s)) 0 ≡ mark_after s → get_or (c ∷ s) (length (cond b [] (c ∷ title s))) 0 ≡ cond b c (mark_after s)
    go true e = refl
    go false e = e

module _ (s : Bytes) (n : ℕ) (e : n ≡ length (title s)) where
  -- as code takes a part from the start
  pub title_part : take (n - 0) (drop 0 s) ≡ title s
  title_part = let z : n - 0 ≡ length (title s) = omega arith in rw z (title_take s)

  pub title_mark : get_or s n 0 ≡ mark_after s
  title_mark = rw e (mark_get s)
