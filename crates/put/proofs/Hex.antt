-- Hexadecimal characters, two for each byte.
-- Assumes nothing.
use Prim.Native.Nat.{ℕ, suc, ◌+◌, ◌*◌, ◌/◌, ◌%◌, ◌≤◌, ◌<◌}
use mathlib.Core.Path.{◌≡◌, refl}
use mathlib.Core.List.{List, [], ◌∷◌, ◌++◌}
use native.Mathlib.Omega.{arith}
use native.Mathlib.Numerals.{add-one}
use lib.ListN.{length, drop, get_or, drop_of_length-le}
use lib.Seq.{drop-cons}
use lib.Dec.{T, eqb, eqb_refl}
use Rattle.text.specs.Text.{every, hexadecimal, is_hex}
use Rattle.text.specs.Base16.{hex_digit, base16}
use Rattle.text.proofs.Tests.{T_true}
use Rattle.text.proofs.Hexadecimal.{AreBytes, digit_hexadecimal}

pub length_base16 : (bs : List ℕ) → length (base16 bs) ≡ 2 * length bs
length_base16 [] = refl
length_base16 (b ∷ bs) = rw (length_base16 bs) (omega arith)

-- each of them is one
pub every_digit : (bs : List ℕ) → AreBytes bs → T (every hexadecimal (base16 bs))
every_digit [] h = tt
every_digit (b ∷ bs) h =
    let u : b < 256 = h 0 in
    rw (
      T_true (hexadecimal (hex_digit (b / 16))) (digit_hexadecimal (b / 16) (omega arith)),
      T_true (hexadecimal (hex_digit (b % 16))) (digit_hexadecimal (b % 16) (omega arith)),
    ) (every_digit bs (λ k. h (suc k)))

pub base16_hex : (n : ℕ) (bs : List ℕ) → AreBytes bs → 2 * length bs ≡ n → T (is_hex n (base16 bs))
unfolding is_hex
base16_hex n bs h e = rw (length_base16 bs, e, T_true (eqb n n) (eqb_refl n)) (every_digit bs h)

-- the two of byte i come first, where the bytes before it are written
pub hex_next : (bs : List ℕ) (i : ℕ) {x y : ℕ} → i < length bs → x ≡ hex_digit (get_or bs i 0 / 16) → y ≡ hex_digit (get_or bs i 0 % 16)
    → base16 (drop i bs) ≡ (x ∷ y ∷ []) ++ base16 (drop (i + 1) bs)
hex_next bs i h p q = rw (p, q, drop-cons bs i 0 h, add-one)

pub hex_end : (bs : List ℕ) (i : ℕ) → length bs ≤ i → base16 (drop i bs) ≡ []
hex_end bs i h = rw (drop_of_length-le bs h)
