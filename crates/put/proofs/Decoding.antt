-- The bytes of hexadecimal characters, one for every two.
-- Assumes nothing.
use Prim.Native.Nat.{ℕ, suc, ◌+◌, ◌*◌, ◌/◌, ◌≤◌, ◌<◌}
use mathlib.Core.Path.{◌≡◌, refl, sym, ap, ◌∙◌}
use mathlib.Core.Bool.{Bool, true, false, ◌&&◌}
use mathlib.Core.List.{[], ◌∷◌, ◌++◌}
use native.Mathlib.Omega.{arith}
use native.Mathlib.Numerals.{add-one}
use lib.ListN.{length, drop, get_or, length-drop}
use lib.Seq.{drop-cons}
use lib.Dec.{T, eqb, eqb_refl}
use mir.Facts.{and_yes}
use Rattle.text.specs.Text.{Bytes, every, hexadecimal, is_hex}
use Rattle.text.specs.Base16.{hex_value, base16_decode}
use Rattle.text.proofs.Tests.{less_or, T_true, true_T}
use Rattle.text.proofs.Types.{hex_length, hex_characters}
use Rattle.put.specs.Put.{Puts}
use Rattle.put.specs.Decoded.{decoded}
use Rattle.put.proofs.Pieces.{puts_of, put_none, not_put}

-- ---- how many there are

pub length_decode : (s : Bytes) → length (base16_decode s) ≡ length s / 2
length_decode [] = refl
length_decode (c ∷ []) = refl
length_decode (c ∷ d ∷ s) = omega (arith, length_decode s)

pub decode_few : (s : Bytes) → length s < 2 → base16_decode s ≡ []
decode_few [] h = refl
decode_few (c ∷ []) h = refl
decode_few (c ∷ d ∷ s) h = absurd (omega arith)

-- ---- pair by pair

-- the byte of pair i comes first, where those of the pairs before it are written
pub decode_next : (s : Bytes) (i : ℕ) {b : ℕ} → i < length s / 2 → b ≡ 16 * hex_value (get_or s (2 * i) 0) + hex_value (get_or s (2 * i + 1) 0)
    → base16_decode (drop (2 * i) s) ≡ (b ∷ []) ++ base16_decode (drop (2 * (i + 1)) s)
decode_next s i {b} h e =
    let two : suc (2 * i + 1) ≡ 2 * (i + 1) = omega arith in
    rw (drop-cons s (2 * i) 0 (omega arith), ← add-one (2 * i), drop-cons s (2 * i + 1) 0 (omega arith), two, e)

pub decode_end : (s : Bytes) (i : ℕ) → length s / 2 ≤ i → base16_decode (drop (2 * i) s) ≡ []
decode_end s i h = decode_few (drop (2 * i) s) (omega (arith, length-drop (2 * i) s))

-- s begins with a pair of hexadecimal characters, whose byte comes first, and after is behind it
pub record PairFirst (s pair after : Bytes) : Type 0 where
  pub high : T (hexadecimal (get_or pair 0 0))
  pub low : T (hexadecimal (get_or pair 1 0))
  pub left : T (every hexadecimal after)
  pub bytes : base16_decode s ≡ ((16 * hex_value (get_or pair 0 0) + hex_value (get_or pair 1 0)) ∷ []) ++ base16_decode after

pub pair_first : (s pair after : Bytes) → s ≡ pair ++ after → length pair ≡ 2 → T (every hexadecimal s) → PairFirst s pair after
pair_first s [] after e l t = absurd (omega arith)
pair_first s (c ∷ []) after e l t = absurd (omega arith)
pair_first s (c ∷ d ∷ []) after e l t =
    let t₁ = and_yes (hexadecimal c) (hexadecimal d && every hexadecimal after) (rw e at t) in
    let t₂ = and_yes (hexadecimal d) (every hexadecimal after) t₁.1 in
    record { high = t₁.0; low = t₂.0; left = t₂.1; bytes = ap base16_decode e }
pair_first s (c ∷ d ∷ x ∷ pair) after e l t = absurd (omega arith)

-- ---- of a text of n hexadecimal characters

module _ (n : ℕ) (s : Bytes) (t : T (is_hex n s)) where
  pub hex_decoded : decoded s ≡ base16_decode s
  hex_decoded = rw (T_true (every hexadecimal s) (hex_characters n s t))

  pub hex_bytes : length (base16_decode s) ≡ n / 2
  hex_bytes = rw (length_decode s, hex_length n s t)

-- ---- by what `is_hex` said

is_hex_every : (s : Bytes) → is_hex (length s) s ≡ every hexadecimal s
unfolding is_hex
is_hex_every s = rw (T_true (eqb (length s) (length s)) (eqb_refl (length s)))

module _ (s : Bytes) {b : Bool} (e : b ≡ is_hex (length s) s) where
  said : every hexadecimal s ≡ b
  said = sym (is_hex_every s) ∙ sym e

  pub decoded_none : {o : Bytes} {k : ℕ} → b ≡ false → Puts o k (decoded s) o k
  decoded_none {o} {k} f =
      rw (said ∙ f) (less_or (length o) k (λ h. not_put (omega arith)) (λ h. puts_of (put_none h)))

  module _ (f : b ≡ true) where
    pub decoded_all : decoded s ≡ base16_decode s
    decoded_all = rw (said ∙ f)

    pub decoded_length : length (decoded s) ≡ length s / 2
    decoded_length = ap length decoded_all ∙ length_decode s

    pub characters_all : T (every hexadecimal s)
    characters_all = true_T (every hexadecimal s) (said ∙ f)
