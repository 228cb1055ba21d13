-- The hash value, block by block: what follows the first blocks does not change it, and whole blocks are hashed before what follows them.
-- Assumes nothing.
use Prim.Native.Nat.{ℕ, zero, suc, ◌+◌, ◌-◌, ◌*◌, ◌≤◌, ◌<◌}
use mathlib.Core.Path.{◌≡◌, ap, ◌∙◌}
use mathlib.Core.List.{List, [], ◌++◌}
use native.Mathlib.Omega.{arith}
use native.Mathlib.Nat.{mul-le-mul_left}
use lib.ListN.{length, take, drop, get_or, length-drop}
use lib.Seq.{take-append-le, drop-append-le, drop-append-add, drop-drop}
use Rattle.std.specs.Simd.{first_chunks}
use Rattle.hashing.specs.Blocks.{block, hashed}
use Rattle.hashing.proofs.Turns.{turns_more, turns_then, turns_same}

block_front : (size : ℕ) (x y : List ℕ) (n : ℕ) → size * n + size ≤ length x → block size (x ++ y) n ≡ block size x n
unfolding block
block_front size x y n h =
    let p : size ≤ length (drop (size * n) x) = simp length-drop (omega arith) in
    rw (drop-append-le (size * n) x y (omega arith), take-append-le size (drop (size * n) x) y p)

block_behind : (size : ℕ) (x y : List ℕ) (q n : ℕ) → length x ≡ size * q → block size (x ++ y) (q + n) ≡ block size y n
unfolding block
block_behind size x y q n h =
    let e : size * (q + n) ≡ length x + size * n = omega (arith, h) in
    rw (e, drop-append-add)

block_next : (size : ℕ) (m : List ℕ) (i : ℕ) → block size (drop size m) i ≡ block size m (suc i)
unfolding block
block_next size m i =
    let e : size + size * i ≡ size * suc i = omega arith in
    ap (take size) (drop-drop (size * i) size m ∙ ap (λ (j : ℕ). drop j m) e)

chunk_at : (size n : ℕ) (m : List ℕ) (i : ℕ) → i < n → get_or (first_chunks size n m) i [] ≡ block size m i
unfolding block
chunk_at size zero m i h = absurd (omega arith)
chunk_at size (suc n) m zero h = let e : size * 0 ≡ 0 = omega arith in rw e
chunk_at size (suc n) m (suc i) h = chunk_at size n (drop size m) i (omega arith) ∙ block_next size m i

module _ {H : Type 0} (size : ℕ) (compress : H → List ℕ → H) where
  -- what follows the first blocks does not change their hash value
  pub hashed_front : (v : H) (x y : List ℕ) (n : ℕ) → size * n ≤ length x → hashed size compress v (x ++ y) n ≡ hashed size compress v x n
  unfolding hashed
  hashed_front v x y n h = turns_same _ _ v n (λ u i l. ap (compress u) (block_front size x y i (omega (arith, mul-le-mul_left size l))))

  -- whole blocks, and then others
  pub hashed_then : (v : H) (x y : List ℕ) (q n : ℕ) → length x ≡ size * q
      → hashed size compress v (x ++ y) (q + n) ≡ hashed size compress (hashed size compress v x q) y n
  unfolding hashed
  hashed_then v x y q n h =
      turns_then _ v q n
      ∙ turns_same _ _ _ n (λ u i l. ap (compress u) (block_behind size x y q i h))
      ∙ ap (λ (u : H). hashed size compress u y n) (hashed_front v x y q (omega (arith, h)))

  -- one block more, as a part of the message
  pub hashed_more : (v : H) (m : List ℕ) (i : ℕ) {h r : H} → h ≡ hashed size compress v m i
      → r ≡ compress h (take (size * i + size - size * i) (drop (size * i) m)) → r ≡ hashed size compress v m (i + 1)
  unfolding hashed block
  hashed_more v m i e f =
      let n : size * i + size - size * i ≡ size = omega arith in
      turns_more _ v i e (rw n at f)

  -- one block more, of those that the code cuts
  pub hashed_chunk : (v : H) (m : List ℕ) (n i : ℕ) {h r : H} → i < n → h ≡ hashed size compress v m i → r ≡ compress h (get_or (first_chunks size n m) i [])
      → r ≡ hashed size compress v m (i + 1)
  unfolding hashed
  hashed_chunk v m n i {h} l e f = turns_more _ v i e (f ∙ ap (compress h) (chunk_at size n m i l))
