-- Zeros: a block with zeros after what waits in it.
-- Assumes nothing.
use Prim.Native.Nat.{ℕ, ◌+◌, ◌-◌, ◌≤◌}
use mathlib.Core.Path.{◌≡◌, sym, ap, ◌∙◌}
use mathlib.Core.List.{List, ◌++◌, append-nil}
use native.Mathlib.Omega.{arith}
use native.Mathlib.Nat.{sub_self}
use lib.ListN.{length, take, drop, replicate, length-append, length-replicate, replicate-append-replicate}
use lib.Seq.{take_at, drop_at, take-append_seam, drop-append-add}
use Rattle.put.specs.Put.{over}
use Rattle.hashing.specs.State.{zeroed}

abbrev zeros : ℕ → List ℕ
zeros n = replicate n 0

zeros_split : (k n : ℕ) → k ≤ n → zeros n ≡ zeros k ++ zeros (n - k)
zeros_split k n h =
    let e : k + (n - k) ≡ n = omega arith in
    sym (replicate-append-replicate k (n - k) 0 ∙ ap zeros e)

pub take_zeros : (k n : ℕ) → k ≤ n → take k (zeros n) ≡ zeros k
take_zeros k n h = ap (take k) (zeros_split k n h) ∙ take_at (zeros k) (zeros (n - k)) k (length-replicate k 0)

drop_zeros : (k n : ℕ) → k ≤ n → drop k (zeros n) ≡ zeros (n - k)
drop_zeros k n h = ap (drop k) (zeros_split k n h) ∙ drop_at (zeros k) (zeros (n - k)) k (length-replicate k 0)

module _ (size : ℕ) where
  -- y is written behind x
  pub zeroed_more : (x y : List ℕ) {k : ℕ} → k ≡ length x → length x + length y ≤ size → over (zeroed size x) k y ≡ zeroed size (x ++ y)
  zeroed_more x y {k} e h =
      let z = zeros (size - length x) in
      let l : size - length x - length y ≡ size - length (x ++ y) = omega (arith, length-append x y) in
      rw (e, take-append_seam x z, drop-append-add x z (length y), drop_zeros (length y) (size - length x) (omega arith), l)

  pub length_zeroed : (x : List ℕ) → length x ≤ size → length (zeroed size x) ≡ size
  length_zeroed x h = simp (length-append, length-replicate) (omega arith)

  -- a full block
  pub no_zeros : (x : List ℕ) → length x ≡ size → zeroed size x ≡ x
  no_zeros x l = rw (l, sub_self) (append-nil x)
