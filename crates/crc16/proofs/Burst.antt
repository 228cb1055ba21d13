-- All bytes are one number, mixed into the state and stepped through. So the checks of two lists of equal length differ by
-- the steps of what the lists differ by, and a difference of sixteen bits in a row, wherever it stands, is never stepped to 0.
-- Assumes nothing.
use Prim.Native.Nat.{ℕ, zero, suc, ◌+◌, ◌-◌, ◌*◌, ◌^◌, ◌≤◌, ◌<◌}
use mathlib.Core.Path.{◌≡◌, refl, sym, ap, ap₂, ◌∙◌, subst}
use mathlib.Core.List.{List, [], ◌∷◌}
use native.Mathlib.Nat.{add-zero, mul_assoc, zero-mul, suc-mul, lt_of_not-le}
use native.Mathlib.Omega.{arith}
use lib.Pow.{pow-add, pow_mono, pow_pos}
use lib.Bits.{bit_xor, xor_self, xor_comm, xor_lt, xor_shifted, xor_block}
use lib.ListN.{length, get_or, get_or-eq_default}
use lib.Seq.{ext_get_or}
use Rattle.crc16.specs.Crc.{begin, bit_steps, add, add_all, crc_of}
use Rattle.crc16.specs.Damage.{AreBytes, SameCheck, Near, bits_of, NeighboursCaught, BurstCaught}
use Rattle.crc16.proofs.Xor.{xor_assoc, xor_equal, xor_pairs}
use Rattle.crc16.proofs.Steps.{steps_xor, steps_down, steps_add, steps_kernel}

-- ---- the check in closed form

one_byte : (s x w : ℕ) → x < 2 ^ 8 → bit_xor (add s x) w ≡ bit_steps 8 (bit_xor s (w * 2 ^ 8 + x))
unfolding add
one_byte s x w h =
    ap (bit_xor (bit_steps 8 (bit_xor s x))) (sym (steps_down 8 w))
    ∙ sym (steps_xor 8 (bit_xor s x) (w * 2 ^ 8))
    ∙ ap (bit_steps 8) (xor_assoc s x (w * 2 ^ 8) ∙ ap (bit_xor s) (xor_comm x (w * 2 ^ 8) ∙ xor_shifted w 8 x h))

closed : (xs : List ℕ) (s : ℕ) → AreBytes xs → add_all s xs ≡ bit_steps (8 * length xs) (bit_xor s (bits_of xs))
unfolding add_all bit_steps bits_of
closed [] s h = sym (xor_comm s 0)
closed (x ∷ xs) s h =
    closed xs (add s x) (λ k. h (suc k))
    ∙ ap (bit_steps (8 * length xs)) (one_byte s x (bits_of xs) (h 0))
    ∙ sym (steps_add 8 (8 * length xs) (bit_xor s (bits_of xs * 2 ^ 8 + x)))
    ∙ ap (λ (n : ℕ). bit_steps n (bit_xor s (bits_of xs * 2 ^ 8 + x))) (let e : 8 + 8 * length xs ≡ 8 * suc (length xs) = omega arith in e)

-- the checks of two lists of equal length differ by the steps of what the lists differ by
pub checks_apart : (xs ys : List ℕ) → AreBytes xs → AreBytes ys → length xs ≡ length ys
    → bit_xor (crc_of xs) (crc_of ys) ≡ bit_steps (8 * length xs) (bit_xor (bits_of xs) (bits_of ys))
unfolding crc_of
checks_apart xs ys bx by l =
    let n : ℕ = 8 * length xs in
    ap₂ bit_xor (closed xs begin bx) (closed ys begin by ∙ ap (λ (k : ℕ). bit_steps (8 * k) (bit_xor begin (bits_of ys))) (sym l))
    ∙ sym (steps_xor n (bit_xor begin (bits_of xs)) (bit_xor begin (bits_of ys)))
    ∙ ap (bit_steps n) (xor_pairs begin (bits_of xs) begin (bits_of ys) ∙ ap (λ (x : ℕ). bit_xor x (bit_xor (bits_of xs) (bits_of ys))) (xor_self begin))

-- equal checks: it is stepped to 0
pub stepped_out : (xs ys : List ℕ) → SameCheck xs ys → bit_steps (8 * length xs) (bit_xor (bits_of xs) (bits_of ys)) ≡ 0
stepped_out xs ys c =
    sym (checks_apart xs ys c.bytes_x c.bytes_y c.long) ∙ ap (λ (x : ℕ). bit_xor x (crc_of ys)) c.check ∙ xor_self (crc_of ys)

-- ---- lists of bytes as numbers

bits_same : (xs ys : List ℕ) → AreBytes xs → AreBytes ys → length xs ≡ length ys → bits_of xs ≡ bits_of ys → xs ≡ ys
unfolding bits_of
bits_same [] [] bx by l e = refl
bits_same [] (y ∷ ys) bx by l e = absurd (omega arith)
bits_same (x ∷ xs) [] bx by l e = absurd (omega arith)
bits_same (x ∷ xs) (y ∷ ys) bx by l e =
    let hx : x < 256 = bx 0 in
    let hy : y < 256 = by 0 in
    let first : x ≡ y = omega arith in
    let rest : xs ≡ ys = bits_same xs ys (λ k. bx (suc k)) (λ k. by (suc k)) (omega arith) (omega arith) in
    cc

-- the lists agree from place k on: they differ in the 8 * k low bits alone
low : (k : ℕ) (xs ys : List ℕ) → AreBytes xs → AreBytes ys → length xs ≡ length ys
    → ((j : ℕ) → k ≤ j → get_or xs j 0 ≡ get_or ys j 0) → bit_xor (bits_of xs) (bits_of ys) < 2 ^ (8 * k)
unfolding bits_of
low zero xs ys bx by l h =
    let e : xs ≡ ys = ext_get_or 0 xs ys l (λ j t. h j (omega arith)) in
    let z : bit_xor (bits_of xs) (bits_of ys) ≡ 0 = ap (λ (s : List ℕ). bit_xor (bits_of s) (bits_of ys)) e ∙ xor_self (bits_of ys) in
    omega arith
low (suc k) [] [] bx by l h = pow_pos (8 * suc k)
low (suc k) [] (y ∷ ys) bx by l h = absurd (omega arith)
low (suc k) (x ∷ xs) [] bx by l h = absurd (omega arith)
low (suc k) (x ∷ xs) (y ∷ ys) bx by l h =
    let up : bit_xor (bits_of xs) (bits_of ys) < 2 ^ (8 * k) = low k xs ys (λ j. bx (suc j)) (λ j. by (suc j)) (omega arith) (λ j t. h (suc j) (omega arith)) in
    let down : bit_xor x y < 2 ^ 8 = xor_lt 8 x y (bx 0) (by 0) in
    let e = xor_block 8 (bits_of xs) (bits_of ys) x y (bx 0) (by 0) in
    let p : 2 ^ (8 * suc k) ≡ 2 ^ (8 * k) * 2 ^ 8 = ap (◌^◌ 2) (let q : 8 * suc k ≡ 8 * k + 8 = omega arith in q) ∙ pow-add 2 (8 * k) 8 in
    omega arith

-- and in no more bits than they have
pub apart_fits : (xs ys : List ℕ) → SameCheck xs ys → bit_xor (bits_of xs) (bits_of ys) < 2 ^ (8 * length xs)
apart_fits xs ys c =
    low (length xs) xs ys c.bytes_x c.bytes_y c.long
    (λ j t. get_or-eq_default xs 0 t ∙ sym (get_or-eq_default ys 0 (omega (arith, c.long))))

-- the lists agree but at i and i + 1: they differ within sixteen bits, from bit 8 * i on
window : (i : ℕ) (xs ys : List ℕ) → AreBytes xs → AreBytes ys → length xs ≡ length ys → Near i xs ys
    → (w : ℕ) × (w < 2 ^ 16) × (bit_xor (bits_of xs) (bits_of ys) ≡ w * 2 ^ (8 * i))
unfolding bits_of
window zero xs ys bx by l n = (
  bit_xor (bits_of xs) (bits_of ys),
  low 2 xs ys bx by l (λ j t. n j (λ (e : j ≡ 0). omega arith) (λ (e : j ≡ 1). omega arith)),
  omega arith,
)
window (suc i) [] [] bx by l n = (0, omega arith, sym (zero-mul (2 ^ (8 * suc i))))
window (suc i) [] (y ∷ ys) bx by l n = absurd (omega arith)
window (suc i) (x ∷ xs) [] bx by l n = absurd (omega arith)
window (suc i) (x ∷ xs) (y ∷ ys) bx by l n =
    let (w, small, e) = window i xs ys (λ j. bx (suc j)) (λ j. by (suc j)) (omega arith)
    (λ j f g. n (suc j) (λ (p : suc j ≡ suc i). f (omega arith)) (λ (p : suc j ≡ suc i + 1). g (omega arith))) in
    let first : x ≡ y = n 0 (λ (p : 0 ≡ suc i). omega arith) (λ (p : 0 ≡ suc i + 1). omega arith) in
    let none : bit_xor x y ≡ 0 = ap (bit_xor x) (sym first) ∙ xor_self x in
    let p : w * 2 ^ (8 * i) * 2 ^ 8 ≡ w * 2 ^ (8 * suc i) =
    mul_assoc w (2 ^ (8 * i)) (2 ^ 8) ∙ ap (◌*◌ w) (sym (pow-add 2 (8 * i) 8) ∙ ap (◌^◌ 2) (let q : 8 * i + 8 ≡ 8 * suc i = omega arith in q)) in
    (w, small, xor_block 8 (bits_of xs) (bits_of ys) x y (bx 0) (by 0) ∙ ap₂ (λ (a b : ℕ). a * 2 ^ 8 + b) e none ∙ add-zero (w * 2 ^ (8 * i) * 2 ^ 8) ∙ p)

-- ---- sixteen bits in a row

-- what stands p places up has n - p steps left, of n, when it is down
brought_down : (n p w : ℕ) → p ≤ n → bit_steps n (w * 2 ^ p) ≡ bit_steps (n - p) w
brought_down n p w h =
    ap (λ (k : ℕ). bit_steps k (w * 2 ^ p)) (let q : n ≡ p + (n - p) = omega arith in q)
    ∙ steps_add p (n - p) (w * 2 ^ p) ∙ ap (bit_steps (n - p)) (steps_down p w)

-- a word above 0 stands inside the bits that there are
inside : (n p w : ℕ) → suc w * 2 ^ p < 2 ^ n → p < n
inside n p w h = lt_of_not-le (λ (q : n ≤ p). let m = pow_mono q in omega (arith, suc-mul w (2 ^ p)))

pub burst_caught : BurstCaught
burst_caught xs ys c p zero hw d =
    bits_same xs ys c.bytes_x c.bytes_y c.long (xor_equal (bits_of xs) (bits_of ys) (d ∙ zero-mul (2 ^ p)))
burst_caught xs ys c p (suc w) hw d =
    let n : ℕ = 8 * length xs in
    let fits : suc w * 2 ^ p < 2 ^ n = subst (λ (x : ℕ). x < 2 ^ n) d (apart_fits xs ys c) in
    let in-them : p ≤ n = let q = inside n p w fits in omega arith in
    let z : suc w ≡ 0 = steps_kernel (n - p) (suc w) hw (sym (brought_down n p (suc w) in-them) ∙ ap (bit_steps n) (sym d) ∙ stepped_out xs ys c) in
    absurd (omega arith)

pub neighbours_caught : NeighboursCaught
neighbours_caught xs ys c i n =
    let (w, small, e) = window i xs ys c.bytes_x c.bytes_y c.long n in
    burst_caught xs ys c (8 * i) w small e
