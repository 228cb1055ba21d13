-- What a state keeps is enough: a count modulo 2 to the 64th.
-- Assumes nothing.
use Rattle.std.proofs.Common.{◌≡◌, ℕ, ◌%◌, ◌^◌, List, ◌++◌, length, refl, ap, arith}
use native.Mathlib.Nat.{mod-add-mod}
use Rattle.hashing.proofs.Taken as Taken
use Rattle.hashing.proofs.Taken.{Enough}
use Rattle.sha_1.specs.declared.Sha1.{Sha1}
use Rattle.sha_1.specs.Sha1.{compress}
use Rattle.sha_1.specs.State.{keeping, added}

pub enough : Enough 64 keeping
enough = record {
  some = omega arith;
  hash_kept = λ v b n. refl;
  block_kept = λ v b n. refl;
  count_on = λ v u b c n m. ap (λ (j : ℕ). record { hash = u; block = c; count = j }) (mod-add-mod n (2 ^ 64) m);
  count_waiting = λ v b n. waiting_more n;
}
  where
    waiting_more : (n : ℕ) → n % 2 ^ 64 % 64 ≡ n % 64
    waiting_more n = omega arith

pub added_then : (s : Sha1) (x y : List ℕ) → length s.block ≡ 64 → added (added s x) y ≡ added s (x ++ y)
unfolding added
added_then = Taken.added_then 64 compress keeping enough
