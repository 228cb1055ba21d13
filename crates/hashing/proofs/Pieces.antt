-- What is given in one slice after another is hashed as if given at once.
-- Assumes nothing.
use Prim.Native.Nat.{ℕ, ◌+◌, ◌*◌, ◌/◌}
use mathlib.Core.Path.{◌≡◌, refl, sym, ap, ap₂, ◌∙◌}
use mathlib.Core.List.{List, [], ◌∷◌, ◌++◌, append_assoc, append-nil}
use native.Mathlib.Omega.{arith}
use native.Mathlib.Nat.{zero-add}
use lib.ListN.{length}
use lib.Seq.{drop-nil}
use Rattle.hashing.specs.Blocks.{hashed}
use Rattle.hashing.specs.State.{Keeping, taken, added, added_all, together}
use Rattle.hashing.proofs.Zeros.{length_zeroed}
use Rattle.hashing.proofs.Taken.{Enough, taken_short, hash_taken, count_taken, waiting_taken, added_then}

module _ {H S : Type 0} (size : ℕ) (compress : H → List ℕ → H) (keeping : Keeping H S) (enough : Enough size keeping) (start : H) where
  abbrev begun : S
  begun = taken size compress keeping start [] 0

  length_begun : length (keeping.block begun) ≡ size
  length_begun = ap (λ (s : S). length (keeping.block s)) (taken_short size compress keeping enough start [] 0 enough.some) ∙ ap length (enough.block_kept _ _ _) ∙ length_zeroed size [] (omega arith)

  -- x, and then m
  pub begun_then : (x m : List ℕ) → added size compress keeping (added size compress keeping begun x) m ≡ added size compress keeping begun (x ++ m)
  begun_then x m = added_then size compress keeping enough begun x m length_begun

  -- m, given at once
  pub added_begun : (m : List ℕ) → added size compress keeping begun m ≡ taken size compress keeping start m (length m)
  unfolding added
  added_begun m =
      ap₂ (λ (v : H) (x : List ℕ). taken size compress keeping v (x ++ m) (keeping.count begun + length m))
      (ap keeping.hash (taken_short size compress keeping enough start [] 0 enough.some) ∙ enough.hash_kept _ _ _)
      (waiting_taken size compress keeping enough start [] 0 refl ∙ drop-nil (size * (0 / size)))
      ∙ count_taken size compress keeping enough start start [] m 0 (length m)
      ∙ ap (taken size compress keeping start m) (zero-add (length m))

  -- and ended, by a padding for which what is kept of the count is enough
  pub ended_hash : (padding : ℕ → List ℕ) → ((v : H) (b : List ℕ) (n : ℕ) → padding (keeping.count (keeping.kept v b n)) ≡ padding n) → (m : List ℕ)
      → keeping.hash (added size compress keeping (added size compress keeping begun m) (padding (keeping.count (added size compress keeping begun m))))
      ≡ hashed size compress start (m ++ padding (length m)) (length (m ++ padding (length m)) / size)
  unfolding taken
  ended_hash padding padding-kept m =
      let all = m ++ padding (length m) in
      ap (λ (s : S). keeping.hash (added size compress keeping (added size compress keeping begun m) (padding (keeping.count s)))) (added_begun m)
      ∙ ap (λ (y : List ℕ). keeping.hash (added size compress keeping (added size compress keeping begun m) y)) (padding-kept _ _ (length m))
      ∙ ap keeping.hash (begun_then m (padding (length m)) ∙ added_begun all)
      ∙ hash_taken size compress keeping enough start all (length all)

  -- given in slices: `ended` of what is given at once is the hash
  module _ (ended : S → List ℕ) (hash : List ℕ → List ℕ) (once : (m : List ℕ) → ended (added size compress keeping begun m) ≡ hash m) where
    ended_after : (x : List ℕ) (ms : List (List ℕ)) → ended (added_all (added size compress keeping) (added size compress keeping begun x) ms) ≡ hash (x ++ together ms)
    unfolding added_all together
    ended_after x [] = rw append-nil (once x)
    ended_after x (m ∷ ms) = rw (begun_then x m, ← append_assoc) (ended_after (x ++ m) ms)

    pub ended_all : (ms : List (List ℕ)) → ended (added_all (added size compress keeping) begun ms) ≡ hash (together ms)
    ended_all ms = ap (λ (s : S). ended (added_all (added size compress keeping) s ms)) (sym (added_begun [])) ∙ ended_after [] ms
