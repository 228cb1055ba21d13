-- The count that `add` leaves.
-- Assumes nothing.
use Rattle.std.proofs.Common.{◌≡◌, ℕ, ◌+◌, ◌%◌, ◌^◌, List, length, ap}
use Rattle.sha_1.specs.declared.Words.{Words}
use Rattle.sha_1.specs.declared.Sha1.{Sha1}
use Rattle.sha_1.specs.State.{keeping}

-- with the bytes m
pub counted : (s : Sha1) (m : List ℕ) {v : Words} {b : List ℕ} {n : ℕ} → n ≡ (s.count + length m) % 2 ^ 64
    → record { hash = v; block = b; count = n } ≡ keeping.kept v b (s.count + length m)
counted s m {v} {b} e = ap (λ (j : ℕ). record { hash = v; block = b; count = j }) e
