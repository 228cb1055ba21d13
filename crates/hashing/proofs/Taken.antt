-- How bytes are taken in: whole blocks first, and one slice after another as both at once.
-- Assumes nothing.
use Prim.Native.Nat.{ℕ, ◌+◌, ◌-◌, ◌*◌, ◌/◌, ◌%◌, ◌<◌}
use mathlib.Core.Path.{◌≡◌, sym, ap, ap₂, ◌∙◌}
use mathlib.Core.List.{List, ◌++◌, append_assoc}
use native.Mathlib.Omega.{arith}
use native.Mathlib.Nat.{div-eq_of_lt, mul-add-div, mul-div-le, mul-zero, mod_def, mod-lt, mod-add-mod}
use lib.ListN.{length, take, drop, replicate, length-append, length-drop, take-append-drop}
use lib.Seq.{length-take-le, take_at, drop-append-add}
use Rattle.hashing.specs.Turns.{turns}
use Rattle.hashing.specs.Blocks.{hashed}
use Rattle.hashing.specs.State.{Keeping, zeroed, waiting, taken, added}
use Rattle.hashing.proofs.Blocks.{hashed_front, hashed_then}

-- what is kept is enough: hash value and block are read as they were, and the count may be cut where counting on comes to the same, and
-- where as many bytes wait
pub record Enough {H S : Type 0} (size : ℕ) (keeping : Keeping H S) : Type 0 where
  pub some : 0 < size
  pub hash_kept : (v : H) (b : List ℕ) (n : ℕ) → keeping.hash (keeping.kept v b n) ≡ v
  pub block_kept : (v : H) (b : List ℕ) (n : ℕ) → keeping.block (keeping.kept v b n) ≡ b
  pub count_on : (v u : H) (b c : List ℕ) (n m : ℕ) → keeping.kept u c (keeping.count (keeping.kept v b n) + m) ≡ keeping.kept u c (n + m)
  pub count_waiting : (v : H) (b : List ℕ) (n : ℕ) → keeping.count (keeping.kept v b n) % size ≡ n % size

module _ {H S : Type 0} (size : ℕ) (compress : H → List ℕ → H) (keeping : Keeping H S) (enough : Enough size keeping) where
  -- whole blocks at the front go into the hash value
  pub taken_front : (v : H) (x y : List ℕ) (q n : ℕ) → length x ≡ size * q
      → taken size compress keeping v (x ++ y) n ≡ taken size compress keeping (hashed size compress v x q) y n
  unfolding taken
  taken_front v x y q n h =
      let k = length y / size in
      let e : length (x ++ y) / size ≡ q + k = ap (λ (j : ℕ). j / size) (length-append x y ∙ ap (λ (j : ℕ). j + length y) h) ∙ mul-add-div enough.some q (length y) in
      let d : size * (q + k) ≡ length x + size * k = omega (arith, h) in
      ap (λ (j : ℕ). keeping.kept (hashed size compress v (x ++ y) j) (zeroed size (drop (size * j) (x ++ y))) n) e
      ∙ ap₂ (λ (u : H) (z : List ℕ). keeping.kept u (zeroed size z) n) (hashed_then size compress v x y q k h) (ap (λ (j : ℕ). drop j (x ++ y)) d ∙ drop-append-add x y (size * k))

  -- less than a block waits
  pub taken_short : (v : H) (x : List ℕ) (n : ℕ) → length x < size → taken size compress keeping v x n ≡ keeping.kept v (zeroed size x) n
  unfolding taken hashed turns
  taken_short v x n h = ap (λ (j : ℕ). keeping.kept (hashed size compress v x j) (zeroed size (drop (size * j) x)) n) (div-eq_of_lt h) ∙ ap (λ (j : ℕ). keeping.kept v (zeroed size (drop j x)) n) (mul-zero size)

  -- what waits then
  pub waiting_taken : (v : H) (x : List ℕ) (n : ℕ) → n % size ≡ length x % size
      → waiting size keeping (taken size compress keeping v x n) ≡ drop (size * (length x / size)) x
  unfolding taken
  waiting_taken v x n h =
      let r = drop (size * (length x / size)) x in
      let l : length r ≡ length x % size = length-drop (size * (length x / size)) x ∙ sym (mod_def (length x) size) in
      rw (enough.block_kept, enough.count_waiting, h) (take_at r (replicate (size - length r) 0) (length x % size) l)

  -- what is left of x after its whole blocks, and then y
  taken_on : (v : H) (x y : List ℕ) (n : ℕ)
      → taken size compress keeping (hashed size compress v x (length x / size)) (drop (size * (length x / size)) x ++ y) n ≡ taken size compress keeping v (x ++ y) n
  taken_on v x y n =
      let q = length x / size in
      let front = take (size * q) x in
      let rest = drop (size * q) x in
      let whole : front ++ rest ≡ x = take-append-drop (size * q) x in
      let l : length front ≡ size * q = length-take-le (size * q) x (mul-div-le (length x) size) in
      let h : hashed size compress v x q ≡ hashed size compress v front q =
      ap (λ (z : List ℕ). hashed size compress v z q) (sym whole) ∙ hashed_front size compress v front rest q (omega (arith, l)) in
      ap (λ (u : H). taken size compress keeping u (rest ++ y) n) h
      ∙ sym (taken_front v front (rest ++ y) q n l)
      ∙ ap (λ (z : List ℕ). taken size compress keeping v z n) (sym (append_assoc front rest y) ∙ ap (λ (z : List ℕ). z ++ y) whole)

  pub hash_taken : (v : H) (x : List ℕ) (n : ℕ) → keeping.hash (taken size compress keeping v x n) ≡ hashed size compress v x (length x / size)
  unfolding taken
  hash_taken v x n = enough.hash_kept _ _ _

  pub count_taken : (v u : H) (x y : List ℕ) (n m : ℕ)
      → taken size compress keeping u y (keeping.count (taken size compress keeping v x n) + m) ≡ taken size compress keeping u y (n + m)
  unfolding taken
  count_taken v u x y n m = enough.count_on _ _ _ _ n m

  -- one slice after another
  pub added_then : (s : S) (x y : List ℕ) → length (keeping.block s) ≡ size
      → added size compress keeping (added size compress keeping s x) y ≡ added size compress keeping s (x ++ y)
  unfolding added
  added_then s x y full =
      let v = keeping.hash s in
      let used = keeping.count s % size in
      let all = waiting size keeping s ++ x in
      let n = keeping.count s + length x in
      let less : used < size = mod-lt (keeping.count s) enough.some in
      let l : length all ≡ used + length x = length-append (waiting size keeping s) x ∙ ap (λ (j : ℕ). j + length x) (length-take-le used (keeping.block s) (omega (arith, full))) in
      let w = waiting_taken v all n (sym (ap (λ (j : ℕ). j % size) l ∙ mod-add-mod (keeping.count s) size (length x))) in
      let sum : n + length y ≡ keeping.count s + length (x ++ y) = sym (ap (λ (j : ℕ). keeping.count s + j) (length-append x y) ∙ omega arith) in
      rw (w, hash_taken v all n)
      (count_taken v _ all _ n (length y)
      ∙ taken_on v all y (n + length y)
      ∙ ap₂ (taken size compress keeping v) (append_assoc (waiting size keeping s) x y) sum)
