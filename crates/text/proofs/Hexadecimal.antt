-- Hexadecimal characters and values: encoding and decoding are inverse, so the four characters of a check determine it.
-- Assumes nothing.
use Prim.Native.Nat.{ℕ, zero, suc, ◌+◌, ◌-◌, ◌*◌, ◌/◌, ◌%◌, ◌≤◌, ◌<◌}
use mathlib.Core.Path.{◌≡◌, refl, sym, ap, ap₂, ◌∙◌}
use mathlib.Core.Logic.{◌⊎◌, inl, inr}
use mathlib.Core.Bool.{true, false, ◌&&◌, and-false}
use mathlib.Core.List.{[], ◌∷◌}
use native.Mathlib.Omega.{arith}
use lib.Dec.{T, leb, eqb, eqb→eq}
use lib.ListN.{length, get_or}
use mir.Facts.{and_yes, or_yes}
use borrow.Author.Tests.{lt-ltb, le-ltb, lt-leb}
use Rattle.text.specs.Text.{Bytes, between, every, decimal, hexadecimal, is_hex}
use Rattle.text.specs.Base16.{hex_digit, hex_value, base16, base16_decode, check_bytes, check_text}
use Rattle.text.proofs.Tests.{T_true, between_low, between_high, all_below, below}

-- ---- the three cases of a character's value

module _ (c : ℕ) where
  pub value_decimal : decimal c ≡ true → hex_value c ≡ c - 48
  unfolding hex_value
  value_decimal e = rw e

  pub value_letter : decimal c ≡ false → between 65 70 c ≡ true → hex_value c ≡ 10 + (c - 65)
  unfolding hex_value
  value_letter e f = rw (e, f)

-- ---- one character

pub value_digit : (n : ℕ) → n < 16 → hex_value (hex_digit n) ≡ n
unfolding hex_value hex_digit all_below
value_digit n h = eqb→eq (hex_value (hex_digit n)) n (below 16 (λ n. eqb (hex_value (hex_digit n)) n) tt n h)

pub digit_hexadecimal : (n : ℕ) → n < 16 → T (hexadecimal (hex_digit n))
unfolding hex_digit all_below
digit_hexadecimal n h = below 16 (λ n. hexadecimal (hex_digit n)) tt n h

digit_low : (n : ℕ) → n < 10 → hex_digit n ≡ 48 + n
unfolding hex_digit
digit_low n h = rw (lt-ltb n 10 h)

digit_high : (n : ℕ) → 10 ≤ n → n < 16 → hex_digit n ≡ 65 + (n - 10)
unfolding hex_digit
digit_high n l h = rw (le-ltb n 10 l, lt-ltb n 16 h)

-- a hexadecimal character: its value is below 16 and gives it back
pub record Valued (c : ℕ) : Type 0 where
  pub small : hex_value c < 16
  pub back : hex_digit (hex_value c) ≡ c

pub valued : (c : ℕ) → T (hexadecimal c) → Valued c
valued c t = go (or_yes (decimal c) (between 65 70 c) t)
  where
    go : T (decimal c) ⊎ T (between 65 70 c) → Valued c
    go (inl d) =
        let l = between_low 48 57 c d in
        let h = between_high 48 57 c d in
        let e : hex_value c ≡ c - 48 = value_decimal c (T_true (decimal c) d) in
        record { small = omega arith; back = digit_low (hex_value c) (omega arith) ∙ omega arith }
    go (inr d) =
        let l = between_low 65 70 c d in
        let h = between_high 65 70 c d in
        let n : decimal c ≡ false = rw (lt-leb c 57 (omega arith)) (and-false (leb 48 c)) in
        let e : hex_value c ≡ 10 + (c - 65) = value_letter c n (T_true (between 65 70 c) d) in
        record { small = omega arith; back = digit_high (hex_value c) (omega arith) (omega arith) ∙ omega arith }

-- ---- texts

abbrev pub AreBytes : Bytes → Type 0
AreBytes bs = (k : ℕ) → get_or bs k 0 < 256

pub decode_encode : (bs : Bytes) → AreBytes bs → base16_decode (base16 bs) ≡ bs
decode_encode [] h = refl
decode_encode (b ∷ bs) h =
    let u : b < 256 = h 0 in
    let e₁ = value_digit (b / 16) (omega arith) in
    let e₂ = value_digit (b % 16) (omega arith) in
    ap₂ {C = Bytes} (λ (x : ℕ) (r : Bytes). x ∷ r) (omega arith) (decode_encode bs (λ k. h (suc k)))

-- an even number of hexadecimal characters
pub encode_decode : (n : ℕ) (s : Bytes) → length s ≡ 2 * n → T (every hexadecimal s) → base16 (base16_decode s) ≡ s
encode_decode n [] l t = refl
encode_decode n (c ∷ []) l t = absurd (omega arith)
encode_decode zero (c ∷ d ∷ s) l t = absurd (omega arith)
encode_decode (suc n) (c ∷ d ∷ s) l t =
    let t₁ = and_yes (hexadecimal c) (hexadecimal d && every hexadecimal s) t in
    let t₂ = and_yes (hexadecimal d) (every hexadecimal s) t₁.1 in
    let vc = valued c t₁.0 in
    let vd = valued d t₂.0 in
    let hc = vc.small in
    let hd = vd.small in
    let b : ℕ = 16 * hex_value c + hex_value d in
    let up : b / 16 ≡ hex_value c = omega arith in
    let low : b % 16 ≡ hex_value d = omega arith in
    let e₁ : hex_digit (b / 16) ≡ c = ap hex_digit up ∙ vc.back in
    let e₂ : hex_digit (b % 16) ≡ d = ap hex_digit low ∙ vd.back in
    let e₃ = encode_decode n s (omega arith) t₂.1 in
    cc

-- ---- the check

two_bytes : (n : ℕ) → AreBytes (check_bytes n)
two_bytes n zero = omega arith
two_bytes n (suc zero) = omega arith
two_bytes n (suc (suc k)) = omega arith

pub check_inj : (a b : ℕ) → a < 65536 → b < 65536 → check_text a ≡ check_text b → a ≡ b
unfolding check_text
check_inj a b ha hb e =
    let bytes : check_bytes a ≡ check_bytes b =
    sym (decode_encode (check_bytes a) (two_bytes a)) ∙ ap base16_decode e ∙ decode_encode (check_bytes b) (two_bytes b) in
    let high : a / 256 % 256 ≡ b / 256 % 256 = ap (λ (s : Bytes). get_or s 0 0) bytes in
    let low : a % 256 ≡ b % 256 = ap (λ (s : Bytes). get_or s 1 0) bytes in
    omega arith

digit_true : (m : ℕ) → m < 16 → hexadecimal (hex_digit m) ≡ true
digit_true m h = T_true (hexadecimal (hex_digit m)) (digit_hexadecimal m h)

pub check_hex : (n : ℕ) → T (is_hex 4 (check_text n))
unfolding is_hex check_text
check_hex n =
    rw (
      digit_true (n / 256 % 256 / 16) (omega arith),
      digit_true (n / 256 % 256 % 16) (omega arith),
      digit_true (n % 256 / 16) (omega arith),
      digit_true (n % 256 % 16) (omega arith),
    ) tt
