-- Stepped again and again, the state 1 comes back to 1 after 32,767 bit steps and not before: antt takes them one by one.
-- It takes them in plain arithmetic, `fast`, because on `bit_xor` that takes several times as long.
-- Assumes nothing.
use Prim.Native.Nat.{ℕ, zero, suc, ◌+◌, ◌-◌, ◌*◌, ◌/◌, ◌%◌, ◌^◌, ◌<◌}
use mathlib.Core.Path.{◌≡◌, refl, sym, ap, ap₂, ◌∙◌}
use mathlib.Core.Bool.{Bool, true, false}
use native.Mathlib.Nat.{le_of_suc-le-suc, not-suc-le-zero}
use native.Mathlib.Omega.{arith}
use lib.Bits.{bit_xor, bit_and, xor_add_and, xor_zero_r, and_block, and_mask}
use lib.Dec.{T, eqb, eqb→eq}
use borrow.Author.Tests.{eqb-false}
use Rattle.crc16.specs.Crc.{bit_step, bit_steps}
use Rattle.crc16.proofs.Steps.{step_lt}

-- ---- the step in plain arithmetic

and5 : (u : ℕ) → u < 4 → bit_and u 5 ≡ u % 2
and5 zero h = refl
and5 (suc zero) h = refl
and5 (suc (suc zero)) h = refl
and5 (suc (suc (suc zero))) h = refl
and5 (suc (suc (suc (suc u)))) h = absurd (omega arith)

-- the feedback, 0xA001 = 5 * 2 ^ 13 + 1, against 15 bits
and_feed : (t : ℕ) → t < 2 ^ 15 → bit_and t 0xA001 ≡ t / 8192 % 2 * 8192 + t % 2
and_feed t h =
    let e : t / 8192 * 2 ^ 13 + t % 8192 ≡ t = omega arith in
    let m = and_mask (t % 8192) 1 in
    ap (λ (x : ℕ). bit_and x 0xA001) (sym e)
    ∙ and_block 13 (t / 8192) 5 (t % 8192) 1 (omega arith) (omega arith)
    ∙ ap₂ (λ (x y : ℕ). x * 8192 + y) (and5 (t / 8192) (omega arith)) (omega arith)

fast : ℕ → ℕ
fast s = s / 2 + s % 2 * (40961 - 2 * (s / 2 % 2) - 16384 * (s / 16384 % 2))

fed : (t r : ℕ) → t < 2 ^ 15 → r < 2 → bit_xor t (r * 0xA001) ≡ t + r * (40961 - 2 * (t % 2) - 16384 * (t / 8192 % 2))
fed t zero ht hr = xor_zero_r t ∙ omega arith
fed t (suc zero) ht hr = omega (arith, xor_add_and t 0xA001, and_feed t ht)
fed t (suc (suc r)) ht hr = absurd (omega arith)

step_fast : (s : ℕ) → s < 2 ^ 16 → bit_step s ≡ fast s
unfolding bit_step fast
step_fast s h =
    fed (s / 2) (s % 2) (omega arith) (omega arith)
    ∙ ap (λ (x : ℕ). s / 2 + s % 2 * (40961 - 2 * (s / 2 % 2) - 16384 * (x % 2))) (let e : s / 2 / 8192 ≡ s / 16384 = omega arith in e)

-- ---- the orbit of 1

-- of the states from s on, n are not 1, and the next is
first_one : ℕ → ℕ → Bool
first_one zero s = eqb s 1
first_one (suc n) s = elim (eqb s 1) [ true ↦ false | false ↦ first_one n (fast s) ]

peel : (b r : Bool) → T (elim b [ true ↦ false | false ↦ r ]) → (b ≡ false) × T r
peel true r t = absurd t
peel false r t = (refl, t)

onward : (n s : ℕ) → s < 2 ^ 16 → T (first_one (suc n) s) → T (first_one n (bit_step s))
unfolding first_one
onward n s h t = rw (step_fast s h) (peel (eqb s 1) (first_one n (fast s)) t).1

not_before : (n s : ℕ) → s < 2 ^ 16 → T (first_one n s) → (m : ℕ) → m < n → bit_steps m s ≡ 1 → ⊥
unfolding first_one bit_steps
not_before zero s hs t m h e = not-suc-le-zero h
not_before (suc n) s hs t zero h e = eqb-false s 1 (peel (eqb s 1) (first_one n (fast s)) t).0 e
not_before (suc n) s hs t (suc m) h e = not_before n (bit_step s) (step_lt s hs) (onward n s hs t) m (le_of_suc-le-suc h) e

then : (n s : ℕ) → s < 2 ^ 16 → T (first_one n s) → bit_steps n s ≡ 1
unfolding first_one bit_steps
then zero s hs t = eqb→eq s 1 t
then (suc n) s hs t = then n (bit_step s) (step_lt s hs) (onward n s hs t)

computed : T (first_one 32766 (bit_step 1))
unfolding first_one fast bit_step
computed = tt

after_one : (n : ℕ) → bit_steps (suc n) 1 ≡ bit_steps n (bit_step 1)
unfolding bit_steps
after_one n = refl

pub no_return : (m : ℕ) → m < 32766 → bit_steps (suc m) 1 ≡ 1 → ⊥
no_return m h e = not_before 32766 (bit_step 1) (step_lt 1 (omega arith)) computed m h (sym (after_one m) ∙ e)

pub returns : bit_steps 32767 1 ≡ 1
returns = after_one 32766 ∙ then 32766 (bit_step 1) (step_lt 1 (omega arith)) computed
