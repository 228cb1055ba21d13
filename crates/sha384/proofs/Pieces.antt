-- What is given in one slice after another is hashed as if given at once.
-- Assumes nothing.
use Rattle.std.proofs.Common.{◌≡◌, ℕ, ◌+◌, ◌*◌, ◌/◌, ◌%◌, ◌^◌, ◌<◌, List, [], ◌∷◌, ◌++◌, replicate, sym, ap, ◌∙◌, arith}
use Rattle.hashing.proofs.Pieces
use Rattle.sha384.specs.Sha384.{bytes8, zeros, padding, padded, H₀, compress, left384, sha384}
use Rattle.sha384.specs.State.{lower, higher, keeping, begun, added, added_all, together, ended}
use Rattle.sha384.proofs.Taken.{enough}
use Rattle.sha384.proofs.Written.{padding_by}

-- the count in two words is enough for the padding
padding_count : (n : ℕ) → padding (higher n * 2 ^ 64 + lower n) ≡ padding n
padding_count n =
    let l = lower n in
    let e : (higher n * 2 ^ 3) % 2 ^ 64 ≡ (n / 2 ^ 64 * 2 ^ 3) % 2 ^ 64 = omega arith in
    let b : l < 2 ^ 64 = omega arith in
    padding_by (higher n) l b
    ∙ ap (λ (j : ℕ). 0x80 ∷ [] ++ replicate (zeros l) 0 ++ bytes8 (j + l / 2 ^ 61) ++ bytes8 ((l * 2 ^ 3) % 2 ^ 64)) e
    ∙ sym (padding_by (n / 2 ^ 64) l b)
    ∙ ap padding (let d : n / 2 ^ 64 * 2 ^ 64 + l ≡ n = omega arith in d)

-- x, and then m
pub begun_then : (x m : List ℕ) → added (added begun x) m ≡ added begun (x ++ m)
unfolding added begun
begun_then = Pieces.begun_then 128 compress keeping enough H₀

-- m, given at once
pub ended_once : (m : List ℕ) → ended (added begun m) ≡ sha384 m
unfolding added begun ended sha384 padded
ended_once m = ap left384 (Pieces.ended_hash 128 compress keeping enough H₀ padding (λ v b n. padding_count n) m)

pub ended_all : (ms : List (List ℕ)) → ended (added_all begun ms) ≡ sha384 (together ms)
unfolding added begun
ended_all = Pieces.ended_all 128 compress keeping enough H₀ ended sha384 ended_once
