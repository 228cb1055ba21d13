-- What is given in one slice after another is hashed as if given at once.
-- Assumes nothing.
use Rattle.std.proofs.Common.{◌≡◌, ℕ, List, ◌++◌, ap}
use Rattle.hashing.proofs.Pieces
use Rattle.sha_1.specs.Sha1.{padding, padded, H₀, compress, joined, sha1}
use Rattle.sha_1.specs.State.{keeping, begun, added, added_all, together, ended}
use Rattle.sha_1.proofs.Taken.{enough}
use Rattle.sha_1.proofs.Written.{padding_count}

-- x, and then m
pub begun_then : (x m : List ℕ) → added (added begun x) m ≡ added begun (x ++ m)
unfolding added begun
begun_then = Pieces.begun_then 64 compress keeping enough H₀

-- m, given at once
pub ended_once : (m : List ℕ) → ended (added begun m) ≡ sha1 m
unfolding added begun ended sha1 padded
ended_once m = ap joined (Pieces.ended_hash 64 compress keeping enough H₀ padding (λ v b n. padding_count n) m)

pub ended_all : (ms : List (List ℕ)) → ended (added_all begun ms) ≡ sha1 (together ms)
unfolding added begun
ended_all = Pieces.ended_all 64 compress keeping enough H₀ ended sha1 ended_once
