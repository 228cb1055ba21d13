-- Flipped bits. What two lists differ by, as one number, has as many bits set as were flipped. A step keeps the parity of the bits that are set, so
-- an odd number of them is never stepped to 0. And of two bits the lower, once it is down, would have to come back where the higher comes down.
-- Assumes nothing.
use Prim.Native.Nat.{ℕ, zero, suc, ◌+◌, ◌-◌, ◌*◌, ◌/◌, ◌%◌, ◌^◌, ◌≤◌, ◌<◌}
use mathlib.Core.Path.{◌≡◌, refl, sym, ap, ap₂, ◌∙◌}
use mathlib.Core.List.{List, [], ◌∷◌, ◌++◌}
use native.Mathlib.Nat.{pow-suc, zero-add, suc-add, zero-mul, lt_of_lt_of_le}
use native.Mathlib.Omega.{arith}
use lib.Pow.{pow_mono}
use lib.Bits.{bit_xor, differ, block_half, block_odd, xor_lt, xor_self, xor_shifted, xor_block}
use lib.ListN.{length, take, drop, replicate}
use Rattle.crc16.specs.Crc.{bit_step, bit_steps, crc_of}
use Rattle.crc16.specs.Damage.{AreBytes, bits_of, ones, flips, OddCaught, TwoCaught, zeros, both_ends, EndsPass}
use Rattle.crc16.proofs.Xor.{xor_half, xor_odd, xor_equal}
use Rattle.crc16.proofs.Steps.{steps_xor, step_down, steps_down, steps_add, steps_lt, steps_kernel}
use Rattle.crc16.proofs.Burst.{checks_apart, stepped_out, apart_fits}
use Rattle.crc16.proofs.Orbit.{no_return, returns}

-- ---- how many bits are set

ones_none : (k : ℕ) → ones k 0 ≡ 0
unfolding ones
ones_none zero = refl
ones_none (suc k) = omega (arith, ones_none k)

-- k low bits, and n above them
ones_block : (k n d b : ℕ) → b < 2 ^ k → ones (k + n) (d * 2 ^ k + b) ≡ ones k b + ones n d
unfolding ones
ones_block zero n d b h = ap₂ ones (zero-add n) (let e : d * 1 + b ≡ d = omega arith in e) ∙ sym (zero-add (ones n d))
ones_block (suc k) n d b h =
    rw (suc-add k n, block_odd d k b, block_half d k b) (omega (arith, ones_block k n d (b / 2) (omega (arith, pow-suc 2 k))))

-- where nothing stands above k bits, more are counted for nothing
ones_wide : (k m n : ℕ) → n < 2 ^ k → k ≤ m → ones m n ≡ ones k n
ones_wide k m n h l =
    ap₂ ones (let e : m ≡ k + (m - k) = omega arith in e) (omega (arith, zero-mul (2 ^ k))) ∙ ones_block k (m - k) 0 n h ∙ omega (arith, ones_none (m - k))

-- as many are flipped as what the lists differ by has set
flips_ones : (xs ys : List ℕ) → AreBytes xs → AreBytes ys → length xs ≡ length ys → flips xs ys ≡ ones (8 * length xs) (bit_xor (bits_of xs) (bits_of ys))
unfolding flips bits_of ones
flips_ones [] [] bx by l = refl
flips_ones [] (y ∷ ys) bx by l = absurd (omega arith)
flips_ones (x ∷ xs) [] bx by l = absurd (omega arith)
flips_ones (x ∷ xs) (y ∷ ys) bx by l =
    let d : ℕ = bit_xor (bits_of xs) (bits_of ys) in
    ap (◌+◌ (ones 8 (bit_xor x y))) (flips_ones xs ys (λ k. bx (suc k)) (λ k. by (suc k)) (omega arith))
    ∙ sym (ones_block 8 (8 * length xs) d (bit_xor x y) (xor_lt 8 x y (bx 0) (by 0)))
    ∙ ap₂ ones (let e : 8 + 8 * length xs ≡ 8 * suc (length xs) = omega arith in e) (sym (xor_block 8 (bits_of xs) (bits_of ys) x y (bx 0) (by 0)))

-- ---- an odd number of bits

differ_sum : (x y : ℕ) → x < 2 → y < 2 → differ x y ≡ (x + y) % 2
differ_sum zero y hx hy = omega arith
differ_sum (suc zero) zero hx hy = refl
differ_sum (suc zero) (suc zero) hx hy = refl
differ_sum (suc zero) (suc (suc y)) hx hy = absurd (omega arith)
differ_sum (suc (suc x)) y hx hy = absurd (omega arith)

xor_parity : (k a b : ℕ) → ones k (bit_xor a b) % 2 ≡ (ones k a + ones k b) % 2
unfolding ones
xor_parity zero a b = refl
xor_parity (suc k) a b =
    let low : bit_xor a b % 2 ≡ (a % 2 + b % 2) % 2 = xor_odd a b ∙ differ_sum (a % 2) (b % 2) (omega arith) (omega arith) in
    let rest : ones k (bit_xor a b / 2) % 2 ≡ (ones k (a / 2) + ones k (b / 2)) % 2 = rw (xor_half a b) (xor_parity k (a / 2) (b / 2)) in
    omega arith

-- the feedback has three bits
fed_parity : (r : ℕ) → r < 2 → ones 16 (r * 0xA001) % 2 ≡ r
unfolding ones
fed_parity zero h = refl
fed_parity (suc zero) h = refl
fed_parity (suc (suc r)) h = absurd (omega arith)

-- in sixteen bits or more
module _ (k : ℕ) (wide : 16 ≤ suc k) where
  fed_fits : (s : ℕ) → s % 2 * 0xA001 < 2 ^ suc k
  fed_fits s = let m = pow_mono wide in omega arith

  step_parity : (s : ℕ) → s < 2 ^ suc k → ones (suc k) (bit_step s) % 2 ≡ ones (suc k) s % 2
  unfolding bit_step ones
  step_parity s h =
      let r : ℕ = s % 2 * 0xA001 in
      let mixed = xor_parity (suc k) (s / 2) r in
      let fed : ones (suc k) r % 2 ≡ s % 2 = rw (ones_wide 16 (suc k) r (omega arith) wide) (fed_parity (s % 2) (omega arith)) in
      let moved = ones_wide k (suc k) (s / 2) (omega (arith, pow-suc 2 k)) (omega arith) in
      omega (arith, mixed, fed, moved)

  steps_parity : (n s : ℕ) → s < 2 ^ suc k → ones (suc k) (bit_steps n s) % 2 ≡ ones (suc k) s % 2
  unfolding bit_steps bit_step
  steps_parity zero s h = refl
  steps_parity (suc n) s h =
      steps_parity n (bit_step s) (xor_lt (suc k) (s / 2) (s % 2 * 0xA001) (omega arith) (fed_fits s)) ∙ step_parity s h

pub odd_caught : OddCaught
odd_caught xs ys c odd =
    let n : ℕ = 8 * length xs in
    let d : ℕ = bit_xor (bits_of xs) (bits_of ys) in
    let fits : d < 2 ^ n = apart_fits xs ys c in
    let wide : d < 2 ^ suc (n + 15) = lt_of_lt_of_le fits (pow_mono (let e : n ≤ suc (n + 15) = omega arith in e)) in
    let even : ones (suc (n + 15)) d % 2 ≡ 0 = sym (steps_parity (n + 15) (omega arith) n d wide) ∙ rw (stepped_out xs ys c, ones_none (suc (n + 15))) in
    omega (arith, flips_ones xs ys c.bytes_x c.bytes_y c.long, ones_wide n (suc (n + 15)) d fits (omega arith), even)

-- ---- two bits

by_parity : {X : Type 0} (n : ℕ) → (n % 2 ≡ 0 → X) → (n % 2 ≡ 1 → X) → X
by_parity {X} n f g = go (n % 2) (omega arith) f g
  where
    go : (r : ℕ) → r < 2 → (r ≡ 0 → X) → (r ≡ 1 → X) → X
    go zero h f g = f refl
    go (suc zero) h f g = g refl
    go (suc (suc r)) h f g = absurd (omega arith)

steps_none : bit_steps 1 0 ≡ 0
unfolding bit_steps bit_step
steps_none = refl

halved : (s : ℕ) → s % 2 ≡ 0 → bit_step s ≡ s / 2
halved s e = ap bit_step (let f : s ≡ s / 2 * 2 = omega arith in f) ∙ step_down (s / 2)

no_bit : (k n : ℕ) → n < 2 ^ k → ones k n ≡ 0 → n ≡ 0
unfolding ones
no_bit zero n h e = omega arith
no_bit (suc k) n h e =
    let up : n / 2 ≡ 0 = no_bit k (n / 2) (omega (arith, pow-suc 2 k)) (omega arith) in
    omega arith

-- one bit comes down to 1
one_down : (k s : ℕ) → s < 2 ^ k → ones k s ≡ 1 → (m : ℕ) × (m < k) × (bit_steps m s ≡ 1)
unfolding ones bit_steps
one_down zero s h e = absurd (omega arith)
one_down (suc k) s h e =
    let small : s / 2 < 2 ^ k = omega (arith, pow-suc 2 k) in
    by_parity s
    (λ z. let (m, l, q) = one_down k (s / 2) small (omega arith) in (suc m, omega arith, rw (halved s z) q))
    (λ z. let q : s / 2 ≡ 0 = no_bit k (s / 2) small (omega arith) in (0, omega arith, omega arith))

-- an odd number, of which the higher bit comes down in suc m steps
odd_down : (m s : ℕ) → s % 2 ≡ 1 → bit_steps m (s / 2) ≡ 1 → bit_steps (suc m) s ≡ bit_xor 1 (bit_steps (suc m) 1)
unfolding bit_steps
odd_down m s z q =
    let e : s ≡ bit_xor (s / 2 * 2) 1 = let f : s ≡ s / 2 * 2 + 1 = omega arith in f ∙ sym (xor_shifted (s / 2) 1 1 (omega arith)) in
    let up : bit_steps (suc m) (s / 2 * 2) ≡ 1 = ap (bit_steps m) (step_down (s / 2)) ∙ q in
    ap (bit_steps (suc m)) e ∙ steps_xor (suc m) (s / 2 * 2) 1 ∙ ap (λ (x : ℕ). bit_xor x (bit_steps (suc m) 1)) up

-- stepped to 0: there the lower bit, which was 1, is 1 again
comes_back : (m n s : ℕ) → m ≤ n → s % 2 ≡ 1 → bit_steps m (s / 2) ≡ 1 → bit_steps (suc n) s ≡ 0 → bit_steps (suc m) 1 ≡ 1
comes_back m n s l z q e =
    let there : ℕ = bit_steps (suc m) 1 in
    let left : bit_steps (n - m) (bit_xor 1 there) ≡ 0 =
    ap (bit_steps (n - m)) (sym (odd_down m s z q)) ∙ sym (steps_add (suc m) (n - m) s) ∙ ap (λ (x : ℕ). bit_steps x s) (let f : suc m + (n - m) ≡ suc n = omega arith in f) ∙ e in
    sym (xor_equal 1 there (steps_kernel (n - m) (bit_xor 1 there) (xor_lt 16 1 there (omega arith) (steps_lt (suc m) 1 (omega arith))) left))

-- two bits of at most 32,767 are not stepped to 0
two_stay : (k n s : ℕ) → k ≤ n → k ≤ 32767 → s < 2 ^ k → ones k s ≡ 2 → bit_steps n s ≡ 0 → ⊥
unfolding ones bit_steps
two_stay zero n s l small h e z = absurd (omega arith)
two_stay (suc k) zero s l small h e z = absurd (omega arith)
two_stay (suc k) (suc n) s l small h e z =
    let half : s / 2 < 2 ^ k = omega (arith, pow-suc 2 k) in
    by_parity s
    (λ p. two_stay k n (s / 2) (omega arith) (omega arith) half (omega arith) (rw (halved s p) at z))
    (λ p. let (m, t, q) = one_down k (s / 2) half (omega arith) in no_return m (omega arith) (comes_back m n s (omega arith) p q z))

pub two_caught : TwoCaught
two_caught xs ys c short two =
    let n : ℕ = 8 * length xs in
    two_stay n n (bit_xor (bits_of xs) (bits_of ys)) (omega arith) short (apart_fits xs ys c)
    (sym (flips_ones xs ys c.bytes_x c.bytes_y c.long) ∙ two) (stepped_out xs ys c)

-- ---- the first and the last of 32,768 bits

only_ends : (bits_of zeros ≡ 0) × (bits_of both_ends ≡ 1 * 2 ^ 32767 + 1)
unfolding bits_of
only_ends = (refl, refl)

ends_out : bit_steps 32768 (1 * 2 ^ 32767 + 1) ≡ 0
ends_out = steps_add 32767 1 (1 * 2 ^ 32767 + 1) ∙ ap (bit_steps 1) (odd_down 32766 (1 * 2 ^ 32767 + 1) refl (steps_down 32766 1) ∙ ap (bit_xor 1) returns) ∙ steps_none

zeros_bytes : (n y : ℕ) → y < 256 → AreBytes (replicate n 0 ++ y ∷ [])
zeros_bytes zero y h zero = h
zeros_bytes zero y h (suc k) = omega arith
zeros_bytes (suc n) y h zero = omega arith
zeros_bytes (suc n) y h (suc k) = zeros_bytes n y h k

ends_bytes : AreBytes both_ends
ends_bytes zero = omega arith
ends_bytes (suc k) = zeros_bytes 4094 128 (omega arith) k

pub ends_pass : EndsPass
unfolding flips ones
ends_pass =
    let bx : AreBytes zeros = zeros_bytes 4095 0 (omega arith) in
    let apart : bit_xor (crc_of zeros) (crc_of both_ends) ≡ 0 =
    checks_apart zeros both_ends bx ends_bytes refl ∙ ap₂ (λ (x y : ℕ). bit_steps 32768 (bit_xor x y)) only_ends.0 only_ends.1 ∙ ends_out in
    (record { bytes_x = bx; bytes_y = ends_bytes; long = refl; check = xor_equal (crc_of zeros) (crc_of both_ends) apart }, refl, refl)

-- ---- flips in the parts of two lists

pub flips_none : (xs : List ℕ) → flips xs xs ≡ 0
unfolding flips
flips_none [] = refl
flips_none (x ∷ xs) = omega (arith, ap (ones 8) (xor_self x), ones_none 8, flips_none xs)

pub flips_parts : (n : ℕ) (xs ys : List ℕ) → length xs ≡ length ys → flips xs ys ≡ flips (take n xs) (take n ys) + flips (drop n xs) (drop n ys)
unfolding flips
flips_parts zero xs ys l = omega arith
flips_parts (suc n) [] ys l = omega arith
flips_parts (suc n) (x ∷ xs) [] l = absurd (omega arith)
flips_parts (suc n) (x ∷ xs) (y ∷ ys) l = omega (arith, flips_parts n xs ys (omega arith))
