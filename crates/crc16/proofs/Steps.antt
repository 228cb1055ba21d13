-- The bit steps: they are linear, a number that stands n places up comes down in n steps, sixteen bits stay sixteen bits,
-- and of these only 0 is stepped to 0. Everything about damage follows from these four.
-- Assumes nothing.
use Prim.Native.Nat.{ℕ, zero, suc, ◌+◌, ◌*◌, ◌/◌, ◌%◌, ◌^◌, ◌<◌}
use mathlib.Core.Path.{◌≡◌, refl, sym, ap, ap₂, ◌∙◌}
use mathlib.Core.List.{List, [], ◌∷◌}
use native.Mathlib.Nat.{pow-suc, mul_assoc, mul-one, zero-add, suc-add}
use native.Mathlib.Omega.{arith}
use native.Mathlib.Numerals.{add-one}
use lib.Bits.{bit_xor, differ, bit_and, and_mask, xor_lt, xor_shr, xor_zero_r}
use lib.ListN.{length, get_or, drop}
use lib.Seq.{drop-cons}
use Rattle.crc16.specs.Crc.{bit_step, bit_steps, add, add_all, crc_of}
use Rattle.crc16.specs.Damage.{AreBytes}
use Rattle.crc16.proofs.Xor.{xor_half, xor_odd, xor_pairs}

-- ---- linear

feed : (x y : ℕ) → x < 2 → y < 2 → differ x y * 0xA001 ≡ bit_xor (x * 0xA001) (y * 0xA001)
feed zero zero hx hy = refl
feed zero (suc zero) hx hy = refl
feed zero (suc (suc y)) hx hy = absurd (omega arith)
feed (suc zero) zero hx hy = refl
feed (suc zero) (suc zero) hx hy = refl
feed (suc zero) (suc (suc y)) hx hy = absurd (omega arith)
feed (suc (suc x)) y hx hy = absurd (omega arith)

step_xor : (a b : ℕ) → bit_step (bit_xor a b) ≡ bit_xor (bit_step a) (bit_step b)
unfolding bit_step
step_xor a b =
    ap₂ bit_xor (xor_half a b)
    (ap (λ (x : ℕ). x * 0xA001) (xor_odd a b) ∙ feed (a % 2) (b % 2) (omega arith) (omega arith))
    ∙ xor_pairs (a / 2) (b / 2) (a % 2 * 0xA001) (b % 2 * 0xA001)

pub steps_xor : (n a b : ℕ) → bit_steps n (bit_xor a b) ≡ bit_xor (bit_steps n a) (bit_steps n b)
unfolding bit_steps
steps_xor zero a b = refl
steps_xor (suc n) a b = ap (bit_steps n) (step_xor a b) ∙ steps_xor n (bit_step a) (bit_step b)

-- ---- down from n places up

pub step_down : (z : ℕ) → bit_step (z * 2) ≡ z
unfolding bit_step
step_down z =
    ap₂ (λ (p q : ℕ). bit_xor p (q * 0xA001)) (let e : z * 2 / 2 ≡ z = omega arith in e) (let e : z * 2 % 2 ≡ 0 = omega arith in e)
    ∙ xor_zero_r z

pub steps_down : (n z : ℕ) → bit_steps n (z * 2 ^ n) ≡ z
unfolding bit_steps
steps_down zero z = mul-one z
steps_down (suc n) z =
    ap (λ (x : ℕ). bit_steps n (bit_step x)) (ap (◌*◌ z) (pow-suc 2 n) ∙ sym (mul_assoc z (2 ^ n) 2))
    ∙ ap (bit_steps n) (step_down (z * 2 ^ n)) ∙ steps_down n z

pub steps_add : (a b s : ℕ) → bit_steps (a + b) s ≡ bit_steps b (bit_steps a s)
unfolding bit_steps
steps_add zero b s = ap (λ (n : ℕ). bit_steps n s) (zero-add b)
steps_add (suc a) b s = ap (λ (n : ℕ). bit_steps n s) (suc-add a b) ∙ steps_add a b (bit_step s)

-- ---- sixteen bits

pub step_lt : (s : ℕ) → s < 2 ^ 16 → bit_step s < 2 ^ 16
unfolding bit_step
step_lt s h = xor_lt 16 (s / 2) (s % 2 * 0xA001) (omega arith) (omega arith)

pub steps_lt : (n s : ℕ) → s < 2 ^ 16 → bit_steps n s < 2 ^ 16
unfolding bit_steps
steps_lt zero s h = h
steps_lt (suc n) s h = steps_lt n (bit_step s) (step_lt s h)

-- the bit that fell out stands at the top
top : (s : ℕ) → s < 2 ^ 16 → bit_step s / 2 ^ 15 ≡ s % 2
unfolding bit_step
top s h =
    xor_shr (s / 2) (s % 2 * 0xA001) 15
    ∙ ap₂ bit_xor (let e : s / 2 / 2 ^ 15 ≡ 0 = omega arith in e) (let e : s % 2 * 0xA001 / 2 ^ 15 ≡ s % 2 = omega arith in e)

step_kernel : (s : ℕ) → s < 2 ^ 16 → bit_step s ≡ 0 → s ≡ 0
unfolding bit_step
step_kernel s h e =
    let even : s % 2 ≡ 0 = sym (top s h) ∙ ap (λ (x : ℕ). x / 2 ^ 15) e in
    let half : s / 2 ≡ 0 = sym (xor_zero_r (s / 2)) ∙ ap (λ (x : ℕ). bit_xor (s / 2) (x * 0xA001)) (sym even) ∙ e in
    omega arith

pub steps_kernel : (n s : ℕ) → s < 2 ^ 16 → bit_steps n s ≡ 0 → s ≡ 0
unfolding bit_steps
steps_kernel zero s h e = e
steps_kernel (suc n) s h e = step_kernel s h (steps_kernel n (bit_step s) (step_lt s h) e)

-- ---- bytes

all_lt : (xs : List ℕ) (s : ℕ) → AreBytes xs → s < 2 ^ 16 → add_all s xs < 2 ^ 16
unfolding add_all add
all_lt [] s h hs = hs
all_lt (x ∷ xs) s h hs =
    all_lt xs (bit_steps 8 (bit_xor s x)) (λ k. h (suc k)) (steps_lt 8 (bit_xor s x) (xor_lt 16 s x hs (omega (arith, h 0))))

-- a check has sixteen bits
pub crc_lt : (xs : List ℕ) → AreBytes xs → crc_of xs < 65536
unfolding crc_of
crc_lt xs h = all_lt xs 0xFFFF h (omega arith)

-- ---- a bit step, as the code has it: the feedback under a mask of ones or of zeros

masked : (x : ℕ) → x < 2 → bit_and (x * 0xFFFF) 0xA001 ≡ x * 0xA001
masked zero h = refl
masked (suc zero) h = refl
masked (suc (suc x)) h = absurd (omega arith)

pub mask_fits : (s : ℕ) → bit_and s 1 * 0xFFFF < 65536
mask_fits s = omega (arith, and_mask s 1)

pub step_masked : (s : ℕ) → bit_xor (s / 2) (bit_and (bit_and s 1 * 0xFFFF) 0xA001) ≡ bit_step s
unfolding bit_step
step_masked s = ap (bit_xor (s / 2)) (masked (bit_and s 1) (omega (arith, and_mask s 1)) ∙ ap (λ (x : ℕ). x * 0xA001) (and_mask s 1))

-- ---- a turn of the loop

pub all_more : (s : List ℕ) (i c : ℕ) → i < length s → add_all c (drop i s) ≡ add_all (add c (get_or s i 0)) (drop (i + 1) s)
unfolding add_all
all_more s i c h = ap (add_all c) (drop-cons s i 0 h) ∙ ap (λ (n : ℕ). add_all (add c (get_or s i 0)) (drop n s)) (sym (add-one i))
