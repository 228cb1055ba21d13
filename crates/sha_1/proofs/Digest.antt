-- What is hashed becomes 20 bytes.
-- Assumes nothing.
use Rattle.std.proofs.Common.{◌≡◌, ℕ, ◌/◌, ◌^◌, List, [], ◌∷◌, ◌++◌, length, refl, arith}
use Rattle.text.proofs.Hexadecimal.{AreBytes}
use Rattle.hashing.proofs.Bytes.{bytes_more}
use Rattle.sha_1.specs.declared.Words.{Words}
use Rattle.sha_1.specs.Sha1.{bytes4, joined, sha1}

-- a word's bytes, and others behind them
word_bytes : (x : ℕ) (rest : List ℕ) → AreBytes rest → AreBytes (bytes4 x ++ rest)
word_bytes x = bytes_more (x / 2 ^ 24 ∷ x / 2 ^ 16 ∷ x / 2 ^ 8 ∷ x ∷ [])

joined_bytes : (v : Words) → AreBytes (joined v)
unfolding joined
joined_bytes v =
    let e = word_bytes v.e [] (λ k. omega arith) in
    let d = word_bytes v.d (bytes4 v.e) e in
    let c = word_bytes v.c (bytes4 v.d ++ bytes4 v.e) d in
    let b = word_bytes v.b (bytes4 v.c ++ bytes4 v.d ++ bytes4 v.e) c in
    word_bytes v.a (bytes4 v.b ++ bytes4 v.c ++ bytes4 v.d ++ bytes4 v.e) b

pub digest_bytes : (m : List ℕ) → AreBytes (sha1 m)
unfolding sha1
digest_bytes m = joined_bytes _

pub digest_size : (m : List ℕ) → length (sha1 m) ≡ 20
unfolding sha1 joined
digest_size m = refl
