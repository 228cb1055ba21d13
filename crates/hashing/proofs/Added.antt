-- What `add` leaves: less than a block waits; or the block that waits is completed, whole blocks follow it, and the rest waits.
-- Assumes nothing.
use Prim.Native.Nat.{ℕ, ◌+◌, ◌-◌, ◌*◌, ◌/◌, ◌%◌, ◌≤◌, ◌<◌}
use mathlib.Core.Path.{◌≡◌, sym, ap, ap₂, ◌∙◌}
use mathlib.Core.List.{List, ◌++◌, append_assoc}
use native.Mathlib.Omega.{arith}
use native.Mathlib.Nat.{div_self, div-add-mod', mul-one, mul-div_cancel_left, mod-lt}
use lib.ListN.{length, take, drop, length-append, length-drop, take-append-drop}
use lib.Seq.{length-take-le, take_all, drop-drop}
use Rattle.put.specs.Put.{Puts}
use Rattle.put.proofs.Pieces.{put_of}
use Rattle.hashing.specs.Blocks.{hashed}
use Rattle.hashing.specs.State.{Keeping, zeroed, taken, added}
use Rattle.hashing.proofs.Zeros.{zeroed_more, length_zeroed, no_zeros}
use Rattle.hashing.proofs.Taken.{Enough, taken_front, taken_short}

-- the state s, of whose block so many bytes are used, with the bytes m
module _ {H S : Type 0} (size : ℕ) (compress : H → List ℕ → H) (keeping : Keeping H S) (enough : Enough size keeping)
    (s : S) (m : List ℕ) {used : ℕ} (full : length (keeping.block s) ≡ size) (used-so : used ≡ keeping.count s % size) where
  abbrev n : ℕ
  n = keeping.count s + length m

  abbrev x : List ℕ
  x = take used (keeping.block s)

  used_less : used < size
  used_less = rw used-so (mod-lt (keeping.count s) enough.some)

  length_used : length x ≡ used
  length_used = length-take-le used (keeping.block s) (omega (arith, full, used_less))

  -- the block once the bytes y are written behind what waits
  block_is : (y b b' : List ℕ) {r : ℕ} → used + length y ≤ size → b ≡ zeroed size x → Puts b used y b' r → b' ≡ zeroed size (x ++ y)
  block_is y b b' h e p =
      let l : length b ≡ size = ap length e ∙ length_zeroed size x (omega (arith, length_used)) in
      (put_of (omega (arith, l)) p).written ∙ rw e (zeroed_more size x y (sym length_used) (omega (arith, length_used)))

  added_is : added size compress keeping s m ≡ taken size compress keeping (keeping.hash s) (x ++ m) n
  unfolding added
  added_is = ap (λ (j : ℕ). taken size compress keeping (keeping.hash s) (take j (keeping.block s) ++ m) n) (sym used-so)

  pub added_short : {b b' : List ℕ} {r : ℕ} → length m < size - used → b ≡ zeroed size x → Puts b used m b' r
      → keeping.kept (keeping.hash s) b' n ≡ added size compress keeping s m
  added_short {b} {b'} {r} h e p =
      let short : length (x ++ m) < size = rw length-append (omega (arith, length_used)) in
      ap (λ (z : List ℕ). keeping.kept (keeping.hash s) z n) (block_is m b b' (omega arith) e p)
      ∙ sym (added_is ∙ taken_short size compress keeping enough (keeping.hash s) (x ++ m) n short)

  -- room for so many is left in the block, and whole blocks end there
  abbrev room : ℕ
  room = size - used

  abbrev whole : ℕ
  whole = room + (length m - room) / size * size

  pub added_long : {v : H} {b b' b'' middle rest : List ℕ} {r : ℕ} → room ≤ length m → b ≡ zeroed size x → Puts b used (take room m) b' r
      → middle ≡ take (whole - room) (drop room m) → rest ≡ take (length m - whole) (drop whole m)
      → v ≡ hashed size compress (hashed size compress (keeping.hash s) b' (length b' / size)) middle (length middle / size) → b'' ≡ zeroed size rest
      → keeping.kept v b'' n ≡ added size compress keeping s m
  added_long {v} {b} {b'} {b''} {middle} {rest} {r} h e p em er ev eb =
      let q = (length m - room) / size in
      let hash = keeping.hash s in
      let first = x ++ take room m in
      let lt : length (take room m) ≡ room = length-take-le room m h in
      let lf : length first ≡ size = length-append x (take room m) ∙ omega (arith, length_used, lt, used_less) in
      let parts : q * size + (length m - room) % size ≡ length m - room = div-add-mod' (length m - room) size in
      let lm : length middle ≡ size * q = ap length em ∙ length-take-le (whole - room) (drop room m) (rw length-drop (omega (arith, parts))) ∙ omega (arith, parts) in
      let full_block : b' ≡ first = block_is (take room m) b b' (omega (arith, lt, used_less)) e p ∙ no_zeros size first lf in
      let er' : rest ≡ drop (whole - room) (drop room m) = er ∙ take_all (length m - whole) (drop whole m) (rw length-drop (omega arith)) ∙ sym (drop-drop (whole - room) room m ∙ ap (λ (j : ℕ). drop j m) ends) in
      let lr : length rest < size = rw (er', length-drop, length-drop) (omega (arith, parts, mod-lt (length m - room) enough.some)) in
      let split : x ++ m ≡ first ++ (middle ++ rest) =
      ap (λ (y : List ℕ). x ++ y) (sym (take-append-drop room m) ∙ ap (λ (y : List ℕ). take room m ++ y) (sym (ap₂ (λ (y z : List ℕ). y ++ z) em er' ∙ take-append-drop (whole - room) (drop room m))))
      ∙ sym (append_assoc x (take room m) (middle ++ rest)) in
      let one : length b' / size ≡ 1 = ap (λ (y : List ℕ). length y / size) full_block ∙ ap (λ (j : ℕ). j / size) lf ∙ div_self enough.some in
      let so-many : length middle / size ≡ q = ap (λ (j : ℕ). j / size) lm ∙ mul-div_cancel_left q enough.some in
      let value : v ≡ hashed size compress (hashed size compress hash first 1) middle q = rw (ev, so-many, one, full_block) in
      ap₂ (λ (u : H) (z : List ℕ). keeping.kept u z n) value eb
      ∙ sym (added_is
      ∙ ap (λ (y : List ℕ). taken size compress keeping hash y n) split
      ∙ taken_front size compress keeping enough hash first (middle ++ rest) 1 n (lf ∙ sym (mul-one size))
      ∙ taken_front size compress keeping enough (hashed size compress hash first 1) middle rest q n lm
      ∙ taken_short size compress keeping enough (hashed size compress (hashed size compress hash first 1) middle q) rest n lr)
    where
      ends : room + (whole - room) ≡ whole
      ends = omega arith
