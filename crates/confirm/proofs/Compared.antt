-- Two tags compared to their end, and a MacTag that says a tag.
-- Assumes nothing.
use Prim.Native.Nat.{ℕ, ◌+◌, ◌*◌, ◌≤◌}
use mathlib.Core.Path.{◌≡◌, refl, sym, ap, ap₂, ◌∙◌}
use mathlib.Core.List.{[], ◌∷◌}
use mathlib.Core.Bool.{Bool, true, false, ◌&&◌, and-true, and_assoc}
use native.Mathlib.Omega.{arith}
use lib.ListN.{length, take, replicate}
use lib.Seq.{take_all}
use lib.Bits.{bit_or, bit_xor, bit_and, or_add_and, xor_add_and, and_le_l, and_le_r, or_zero_l, xor_self}
use lib.Dec.{T, eqb, eqb→eq, eqb_refl}
use mir.Facts.{and_yes, yes_and}
use Rattle.text.specs.Text.{Bytes, same, is_hex}
use Rattle.text.specs.Base16.{base16, base16_decode}
use Rattle.text.proofs.Tests.{same→eq, same_refl}
use Rattle.text.proofs.Types.{hex_length, hex_characters}
use Rattle.text.proofs.Hexadecimal.{AreBytes, decode_encode, encode_decode}
use Rattle.put.specs.Put.{Puts}
use Rattle.put.specs.Decoded.{decoded}
use Rattle.put.proofs.Pieces.{put_of, put_fills}
use Rattle.put.proofs.Decoding.{hex_decoded, hex_bytes}

both_ways : (a b : Bool) → (T a → T b) → (T b → T a) → a ≡ b
both_ways true true f g = refl
both_ways true false f g = absurd (f tt)
both_ways false true f g = absurd (g tt)
both_ways false false f g = refl

-- ---- one byte more

none_left : (o n a b : ℕ) → o + n ≡ a + b → n ≤ a → n ≤ b → o ≡ 0 → (a ≡ 0) × (b ≡ 0)
none_left o n a b e p q z = (omega arith, omega arith)

none_apart : (o n a b : ℕ) → o + n * 2 ≡ a + b → n ≤ a → n ≤ b → o ≡ 0 → a ≡ b
none_apart o n a b e p q z = omega arith

byte_more : (d x y : ℕ) → eqb (bit_or d (bit_xor x y)) 0 ≡ (eqb d 0 && eqb x y)
byte_more d x y = both_ways (eqb (bit_or d (bit_xor x y)) 0) (eqb d 0 && eqb x y) apart alike
  where
    apart : T (eqb (bit_or d (bit_xor x y)) 0) → T (eqb d 0 && eqb x y)
    apart t =
        let z = eqb→eq (bit_or d (bit_xor x y)) 0 t in
        let w = bit_xor x y in
        let n = none_left (bit_or d w) (bit_and d w) d w (or_add_and d w) (and_le_l d w) (and_le_r d w) z in
        let e = none_apart w (bit_and x y) x y (xor_add_and x y) (and_le_l x y) (and_le_r x y) n.1 in
        yes_and (eqb d 0) (eqb x y) (rw n.0 tt) (rw e (eqb_refl y))

    alike : T (eqb d 0 && eqb x y) → T (eqb (bit_or d (bit_xor x y)) 0)
    alike t =
        let u = and_yes (eqb d 0) (eqb x y) t in
        rw (eqb→eq d 0 u.0, eqb→eq x y u.1, or_zero_l, xor_self) tt

-- ---- the loop: p of a and q of b are left, and what differs before them is in d

abbrev pub Compared : Bytes → Bytes → ℕ → Bytes → Bytes → Type 0
Compared a b d p q = (length p ≡ length q) × (same a b ≡ (eqb d 0 && same p q))

pub compared_more : (a b : Bytes) (d x y : ℕ) {p q p' q' : Bytes} → p ≡ x ∷ p' → q ≡ y ∷ q' → Compared a b d p q → Compared a b (bit_or d (bit_xor x y)) p' q'
compared_more a b d x y {p} {q} {p'} {q'} e f c = (
  omega (arith, ap length e, ap length f, c.0),
  c.1 ∙ ap (λ (r : Bool). eqb d 0 && r) (ap₂ same e f) ∙ sym (and_assoc (eqb d 0) (eqb x y) (same p' q')) ∙ rw (byte_more d x y),
)

pub compared_all : (a b : Bytes) (d : ℕ) (p q : Bytes) → length p ≡ 0 → Compared a b d p q → eqb d 0 ≡ same a b
compared_all a b d [] [] h c = sym (c.1 ∙ and-true (eqb d 0))
compared_all a b d [] (y ∷ q) h c = absurd (omega (arith, c.0))
compared_all a b d (x ∷ p) q h c = absurd (omega arith)

-- ---- the characters of a tag are those of its bytes

pub same_said : (f t : Bytes) → T (is_hex 48 f) → AreBytes t → same (base16_decode f) t ≡ same f (base16 t)
same_said f t h b = both_ways (same (base16_decode f) t) (same f (base16 t)) up down
  where
    again : base16 (base16_decode f) ≡ f
    again = encode_decode 24 f (hex_length 48 f h) (hex_characters 48 f h)

    up : T (same (base16_decode f) t) → T (same f (base16 t))
    up s = rw (sym again ∙ ap base16 (same→eq (base16_decode f) t s)) (same_refl (base16 t))

    down : T (same f (base16 t)) → T (same (base16_decode f) t)
    down s = rw (ap base16_decode (same→eq f (base16 t) s) ∙ decode_encode t b) (same_refl t)

-- a MacTag, decoded, fills an array of 24 bytes
module _ (f : Bytes) {o : Bytes} {r : ℕ} (h : T (is_hex 48 f)) (p : Puts (replicate 24 0) 0 (decoded f) o r) where
  abbrev size : length (decoded f) ≡ 24
  size = ap length (hex_decoded 48 f h) ∙ hex_bytes 48 f h

  pub tag_length : r ≡ 24
  tag_length = omega (arith, (put_of (omega (arith, size)) p).next, size)

  pub decoded_tag : take r o ≡ base16_decode f
  decoded_tag =
      let e : o ≡ base16_decode f = put_fills size p ∙ hex_decoded 48 f h in
      rw (e, tag_length) (take_all 24 (base16_decode f) (omega (arith, hex_bytes 48 f h)))
