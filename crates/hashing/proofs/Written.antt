-- Words written one behind the other, and the padding among them.
-- Assumes nothing.
use Prim.Native.Nat.{ℕ, ◌+◌, ◌≤◌}
use mathlib.Core.Path.{◌≡◌, sym, ap, ◌∙◌}
use mathlib.Core.List.{List, [], ◌∷◌, ◌++◌, append_assoc}
use native.Mathlib.Omega.{arith}
use native.Mathlib.Numerals.{add-one}
use lib.ListN.{length, take, drop, replicate, length-append, length-replicate}
use lib.Seq.{take_at}
use Rattle.put.specs.Put.{Puts, Put}
use Rattle.put.proofs.Pieces.{put_of, put_then, put_length}
use Rattle.hashing.proofs.Zeros.{take_zeros}

pub word_more : {o v w o' out : List ℕ} {k r r' : ℕ} → Put o k v o' r → k + length v + length w ≤ length o → Puts o' r w out r' → Put o k (v ++ w) out r'
word_more p h q = put_then p (put_of (omega (arith, put_length p, p.next)) q)

-- the padding as it is written over zeros: two words behind z of them, which stand behind the byte 80 hex
pub padding_written : (z n : ℕ) (high low : List ℕ) {p q : List ℕ} {r s k : ℕ} → z + length high + length low ≤ n → k ≡ z + 1
    → Puts (0x80 ∷ replicate n 0) k high p r → Puts p r low q s → take (z + (1 + length high + length low)) q ≡ 0x80 ∷ [] ++ replicate z 0 ++ high ++ low
padding_written z n high low {p} {q} {r} {s} {k} h e a b =
    let o : List ℕ = 0x80 ∷ replicate n 0 in
    let front : List ℕ = 0x80 ∷ replicate z 0 in
    let lo : length o ≡ n + 1 = omega (arith, length-replicate {A = ℕ} n 0) in
    let w = (word_more (put_of (omega (arith, e, lo)) a) (omega (arith, e, lo)) b).written in
    let t : take k o ≡ front = ap (λ (j : ℕ). take j o) (e ∙ add-one z) ∙ ap {B = List ℕ} (λ (y : List ℕ). 0x80 ∷ y) (take_zeros z n (omega arith)) in
    let l : length (front ++ (high ++ low)) ≡ z + (1 + length high + length low) = length-append front (high ++ low) ∙ omega (arith, length-replicate {A = ℕ} z 0, length-append high low) in
    ap (take (z + (1 + length high + length low))) (w ∙ ap (λ (y : List ℕ). y ++ (high ++ low) ++ drop (k + length (high ++ low)) o) t)
    ∙ take_at (front ++ (high ++ low)) (drop (k + length (high ++ low)) o) (z + (1 + length high + length low)) l
    ∙ sym (append_assoc front high low)
