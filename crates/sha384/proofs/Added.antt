-- The count that `add` leaves, and how many bytes wait by it.
-- Assumes nothing.
use Rattle.std.proofs.Common.{◌≡◌, ℕ, ◌+◌, ◌-◌, ◌*◌, ◌/◌, ◌%◌, ◌^◌, ◌<◌, List, length, sym, ◌∙◌, ap₂, arith}
use Rattle.sha384.specs.declared.Words.{Words}
use Rattle.sha384.specs.declared.Sha384.{Sha384}
use Rattle.sha384.specs.Sha384.{plus}
use Rattle.sha384.specs.State.{higher, count, keeping}
use Rattle.sha384.proofs.Taken.{low_waiting}

pub whole_fits : (n r : ℕ) → n < 2 ^ 64 → (n - r) / 128 * 128 < 2 ^ 64
whole_fits n r h = omega arith

low_sum : (h l k : ℕ) → (l + k) % 2 ^ 64 ≡ (h * 2 ^ 64 + l + k) % 2 ^ 64
low_sum h l k = omega arith

module _ (s : Sha384) where
  pub used_is : s.low % 128 ≡ count s % 128
  used_is = sym (low_waiting s.high s.low)

  -- with the bytes m
  pub counted : (m : List ℕ) {v : Words} {b : List ℕ} {low high : ℕ} → low ≡ plus s.low (length m) → high ≡ higher (count s + length m)
      → record { hash = v; block = b; low = low; high = high } ≡ keeping.kept v b (count s + length m)
  counted m {v} {b} e f = ap₂ (λ (l h : ℕ). record { hash = v; block = b; low = l; high = h }) (e ∙ low_sum s.high s.low (length m)) f
