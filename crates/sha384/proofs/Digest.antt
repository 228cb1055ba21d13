-- What is hashed becomes 48 bytes.
-- Assumes nothing.
use Rattle.std.proofs.Common.{◌≡◌, ℕ, ◌/◌, ◌^◌, List, [], ◌∷◌, ◌++◌, length, refl, arith}
use Rattle.text.proofs.Hexadecimal.{AreBytes}
use Rattle.hashing.proofs.Bytes.{bytes_more}
use Rattle.sha384.specs.declared.Words.{Words}
use Rattle.sha384.specs.Sha384.{bytes8, left384, sha384}

-- a word's bytes, and others behind them
word_bytes : (x : ℕ) (rest : List ℕ) → AreBytes rest → AreBytes (bytes8 x ++ rest)
word_bytes x = bytes_more (x / 2 ^ 56 ∷ x / 2 ^ 48 ∷ x / 2 ^ 40 ∷ x / 2 ^ 32 ∷ x / 2 ^ 24 ∷ x / 2 ^ 16 ∷ x / 2 ^ 8 ∷ x ∷ [])

left_bytes : (v : Words) → AreBytes (left384 v)
unfolding left384
left_bytes v =
    let f = word_bytes v.f [] (λ k. omega arith) in
    let e = word_bytes v.e (bytes8 v.f) f in
    let d = word_bytes v.d (bytes8 v.e ++ bytes8 v.f) e in
    let c = word_bytes v.c (bytes8 v.d ++ bytes8 v.e ++ bytes8 v.f) d in
    let b = word_bytes v.b (bytes8 v.c ++ bytes8 v.d ++ bytes8 v.e ++ bytes8 v.f) c in
    word_bytes v.a (bytes8 v.b ++ bytes8 v.c ++ bytes8 v.d ++ bytes8 v.e ++ bytes8 v.f) b

pub digest_bytes : (m : List ℕ) → AreBytes (sha384 m)
unfolding sha384
digest_bytes m = left_bytes _

pub digest_size : (m : List ℕ) → length (sha384 m) ≡ 48
unfolding sha384 left384
digest_size m = refl
