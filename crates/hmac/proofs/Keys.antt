-- The key's block, and the loop that mixes it.
-- Assumes nothing.
use Prim.Native.Nat.{ℕ, suc, ◌+◌, ◌≤◌, ◌<◌}
use mathlib.Core.Path.{◌≡◌, refl, sym, ap, ap₂, ◌∙◌}
use mathlib.Core.List.{[], ◌∷◌, ◌++◌, map, append-nil}
use native.Mathlib.Omega.{arith}
use native.Mathlib.Nat.{zero-add}
use native.Mathlib.Numerals.{add-one}
use lib.ListN.{length, take, drop, get_or, set, replicate, length-map, drop_of_length-le, get_or-map}
use lib.Seq.{paste-suc, drop-cons, get_or_at, length-take-le, take_all}
use lib.Bits.{bit_xor}
use borrow.Author.Tests.{le-leb, lt-leb}
use Rattle.text.specs.Text.{Bytes}
use Rattle.put.specs.Put.{Puts}
use Rattle.put.proofs.Pieces.{put_of}
use Rattle.sha384.specs.Sha384.{sha384}
use Rattle.sha384.specs.State.{zeroed}
use Rattle.hashing.proofs.Zeros.{zeroed_more}
use Rattle.hmac.specs.Hmac.{K₀, mixed}

-- ---- zeros after the key, or after its hash

filled : (x : Bytes) {o : Bytes} {r : ℕ} → length x ≤ 128 → Puts (replicate 128 0) 0 x o r → o ≡ zeroed x
filled x h p = (put_of (omega arith) p).written ∙ zeroed_more 128 [] x refl (omega arith)

module _ (k : Bytes) where
  pub key_long : {h o : Bytes} {r : ℕ} → 128 < length k → length h ≡ 48 → h ≡ sha384 k → Puts (replicate 128 0) 0 h o r → o ≡ K₀ k
  unfolding K₀
  key_long {h} l n e p = rw (lt-leb (length k) 128 l, ← e) (filled h (omega (arith, n)) p)

  pub key_short : {o : Bytes} {r : ℕ} → length k ≤ 128 → Puts (replicate 128 0) 0 k o r → o ≡ K₀ k
  unfolding K₀
  key_short l p = rw (le-leb (length k) 128 l) (filled k l p)

-- ---- the first i bytes of a block are mixed

abbrev mix : ℕ → Bytes → Bytes
mix pad b = map (λ x. bit_xor x pad) b

pub record Mixing (pad : ℕ) (b₀ b : Bytes) (i : ℕ) : Type 0 where
  pub block : length b₀ ≡ 128
  pub done : b ≡ take i (mix pad b₀) ++ drop i b₀

pub mixing_none : {pad : ℕ} {b : Bytes} → length b ≡ 128 → Mixing pad b b 0
mixing_none {pad} {b} l = record { block = l; done = refl }

module _ {pad i : ℕ} {b₀ b : Bytes} (m : Mixing pad b₀ b i) where
  all : length (mix pad b₀) ≡ 128
  all = length-map b₀ (λ x. bit_xor x pad) ∙ m.block

  -- byte i is still the block's own
  own : i < 128 → get_or b i 0 ≡ get_or b₀ i 0
  own h =
      let front = take i (mix pad b₀) in
      let y = get_or b₀ i 0 in
      let rest = drop (suc i) b₀ in
      let e : b ≡ front ++ y ∷ rest = m.done ∙ ap (λ (x : Bytes). front ++ x) (drop-cons b₀ i 0 (omega (arith, m.block))) in
      ap (λ (x : Bytes). get_or x i 0) e ∙ get_or_at front y rest 0 i (length-take-le i (mix pad b₀) (omega (arith, all)))

  pub mixing_more : i < 128 → Mixing pad b₀ (set b i (bit_xor (get_or b i 0) pad)) (i + 1)
  mixing_more h =
      let e : bit_xor (get_or b i 0) pad ≡ get_or (mix pad b₀) i (bit_xor 0 pad) = rw (own h) (sym (get_or-map (λ x. bit_xor x pad) b₀ i 0)) in
      record {
        block = m.block;
        done =
            ap₂ (λ (x : Bytes) (y : ℕ). set x i y) m.done e
            ∙ rw add-one (simp zero-add at (paste-suc b₀ 0 (mix pad b₀) i (bit_xor 0 pad) (omega (arith, m.block)) (omega (arith, all))));
      }

  pub mixing_all : (k : Bytes) → b₀ ≡ K₀ k → 128 ≤ i → b ≡ mixed pad k
  unfolding mixed
  mixing_all k e h =
      let w : b ≡ mix pad b₀ = m.done ∙ rw (drop_of_length-le b₀ {i = i} (omega (arith, m.block)), append-nil) (take_all i (mix pad b₀) (omega (arith, all))) in
      w ∙ ap (mix pad) e
