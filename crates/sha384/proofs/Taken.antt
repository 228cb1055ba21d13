-- What a state keeps is enough: a count in two words.
-- Assumes nothing.
use Rattle.std.proofs.Common.{◌≡◌, ℕ, ◌+◌, ◌*◌, ◌/◌, ◌%◌, ◌^◌, ◌<◌, ◌≤◌, List, ◌++◌, length, sym, refl, ap, ◌∙◌, ap₂, add-zero, mod-eq_of_lt, arith}
use Rattle.hashing.proofs.Taken as Taken
use Rattle.hashing.proofs.Taken.{Enough}
use Rattle.sha384.specs.declared.Sha384.{Sha384}
use Rattle.sha384.specs.Sha384.{compress}
use Rattle.sha384.specs.State.{lower, higher, keeping, added}

-- ---- the higher word of the count

higher_sum : (h l m : ℕ) → higher (h * 2 ^ 64 + l + m) ≡ (h + (l + m) / 2 ^ 64) % 2 ^ 64
higher_sum h l m = ap (λ (j : ℕ). j % 2 ^ 64) (top h l m)
  where
    top : (h l m : ℕ) → (h * 2 ^ 64 + l + m) / 2 ^ 64 ≡ h + (l + m) / 2 ^ 64
    top h l m = omega arith

-- by the sum itself
pub beyond : (h l m : ℕ) → l < 2 ^ 64 → m < 2 ^ 64 → (l + m < 2 ^ 64 → ⊥) → (h + 1) % 2 ^ 64 ≡ higher (h * 2 ^ 64 + l + m)
beyond h l m a b c =
    let q : (l + m) / 2 ^ 64 ≡ 1 = omega arith in
    rw q at (sym (higher_sum h l m))

pub within : (h l m : ℕ) → h < 2 ^ 64 → l + m < 2 ^ 64 → h ≡ higher (h * 2 ^ 64 + l + m)
within h l m a b =
    let q : (l + m) / 2 ^ 64 ≡ 0 = omega arith in
    sym (higher_sum h l m ∙ rw q (rw add-zero (mod-eq_of_lt a)))

-- by the lower word of the sum, which is less than either where it carries
pub carried : (h l m : ℕ) {s : ℕ} → l < 2 ^ 64 → m < 2 ^ 64 → s ≡ (l + m) % 2 ^ 64 → s < m → (h + 1) % 2 ^ 64 ≡ higher (h * 2 ^ 64 + l + m)
carried h l m a b e c = beyond h l m a b (λ n. omega (arith, a, b, c, e, n))

pub uncarried : (h l m : ℕ) {s : ℕ} → h < 2 ^ 64 → l < 2 ^ 64 → m < 2 ^ 64 → s ≡ (l + m) % 2 ^ 64 → m ≤ s → h ≡ higher (h * 2 ^ 64 + l + m)
uncarried h l m a b c e d = within h l m a (omega (arith, b, c, d, e))

-- ---- one slice after another

low_more : (n k : ℕ) → lower (higher n * 2 ^ 64 + lower n + k) ≡ lower (n + k)
low_more n k = omega arith

high_more : (n k : ℕ) → higher (higher n * 2 ^ 64 + lower n + k) ≡ higher (n + k)
high_more n k = omega arith

-- a block has 128 bytes, and the lower word tells how many wait
pub low_waiting : (h l : ℕ) → (h * 2 ^ 64 + l) % 128 ≡ l % 128
low_waiting h l = omega arith

waiting_more : (n : ℕ) → lower n % 128 ≡ n % 128
waiting_more n = omega arith

pub enough : Enough 128 keeping
enough = record {
  some = omega arith;
  hash_kept = λ v b n. refl;
  block_kept = λ v b n. refl;
  count_on = λ v u b c n m. ap₂ (λ (l h : ℕ). record { hash = u; block = c; low = l; high = h }) (low_more n m) (high_more n m);
  count_waiting = λ v b n. low_waiting (higher n) (lower n) ∙ waiting_more n;
}

pub added_then : (s : Sha384) (x y : List ℕ) → length s.block ≡ 128 → added (added s x) y ≡ added s (x ++ y)
unfolding added
added_then = Taken.added_then 128 compress keeping enough
