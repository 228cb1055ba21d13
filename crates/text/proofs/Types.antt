-- What holds of every text type: its characters are all ident characters, so that it has no mark and no line feed in it, and
-- its length is one that the type admits.
-- Assumes nothing.
use Prim.Native.Nat.{ℕ, ◌%◌}
use mathlib.Core.Path.{◌≡◌, sym, subst}
use mathlib.Core.Logic.{◌⊎◌, inl, inr}
use mathlib.Core.Bool.{Bool, true, false, not, ◌&&◌, ◌||◌}
use mathlib.Core.List.{[], ◌∷◌}
use native.Mathlib.Omega.{arith}
use lib.Dec.{T, not_T, T_not, leb, eqb, eqb→eq, le→leb}
use lib.ListN.{length, take, drop, get_or}
use mir.Facts.{and_yes, yes_and, or_yes}
use Rattle.text.specs.Text.{Bytes, ascii, between, one_of, every, without, same, decimal, hexadecimal, alphanumeric, ident_character, longest_ident, is_ident, fits, looks, is_timestamp, sized, is_digits, is_alphanumeric, printable, is_printable, is_protected, is_hex, is_point, TextType, Ident, Timestamp, Point, Sig, Mac, Print, Protected, Hex, is_of, shortest, longest}
use Rattle.text.proofs.Tests.{T_false, one-of, or_left, or_right, by_test, cond_yes, cond_no, between_low, between_high, every_mono}
use Rattle.text.proofs.Loops.{looks_pairwise, pairwise_length}

-- ---- each alphabet is a part of the ident characters

alphanumeric_ident : (c : ℕ) → T (alphanumeric c) → T (ident_character c)
alphanumeric_ident c t = or_left (alphanumeric c) (one_of (ascii "_-.,") c) t

decimal_ident : (c : ℕ) → T (decimal c) → T (ident_character c)
decimal_ident c t = alphanumeric_ident c (or_left (decimal c) (between 65 90 c || between 97 122 c) t)

hexadecimal_ident : (c : ℕ) → T (hexadecimal c) → T (ident_character c)
hexadecimal_ident c t = go (or_yes (decimal c) (between 65 70 c) t)
  where
    go : T (decimal c) ⊎ T (between 65 70 c) → T (ident_character c)
    go (inl d) = decimal_ident c d
    go (inr d) =
        let h = between_high 65 70 c d in
        let up : T (between 65 90 c) =
        yes_and (leb 65 c) (leb c 90) (le→leb 65 c (between_low 65 70 c d)) (le→leb c 90 (omega arith)) in
        alphanumeric_ident c (or_right (decimal c) (between 65 90 c || between 97 122 c) (or_left (between 65 90 c) (between 97 122 c) up))

-- ---- each type is a text of ident characters

sized_length : (n : ℕ) (p : ℕ → Bool) (s : Bytes) → T (sized n p s) → length s ≡ n
sized_length n p s t = eqb→eq (length s) n (and_yes (eqb (length s) n) (every p s) t).0

pub digits_length : (n : ℕ) (s : Bytes) → T (is_digits n s) → length s ≡ n
unfolding is_digits
digits_length n s t = sized_length n decimal s t

pub alphanumeric_length : (n : ℕ) (s : Bytes) → T (is_alphanumeric n s) → length s ≡ n
unfolding is_alphanumeric
alphanumeric_length n s t = sized_length n alphanumeric s t

pub hex_length : (n : ℕ) (s : Bytes) → T (is_hex n s) → length s ≡ n
unfolding is_hex
hex_length n s t = sized_length n hexadecimal s t

pub hex_characters : (n : ℕ) (s : Bytes) → T (is_hex n s) → T (every hexadecimal s)
unfolding is_hex
hex_characters n s t = (and_yes (eqb (length s) n) (every hexadecimal s) t).1

pub printable_characters : (s : Bytes) → T (is_printable s) → T (every printable s)
unfolding is_printable
printable_characters s t = (and_yes (leb 1 (length s)) (every printable s) t).1

hex_plain : (n : ℕ) (s : Bytes) → T (is_hex n s) → T (every ident_character s)
hex_plain n s t = every_mono hexadecimal ident_character hexadecimal_ident s (hex_characters n s t)

pub point_hex : (s : Bytes) → T (is_point s) → T (is_hex 194 s)
unfolding is_point
point_hex s t = (and_yes (is_hex 194 s) (same (take 2 s) (ascii "04")) t).0

protected_plain : (s : Bytes) → T (is_protected s) → T (every ident_character s)
unfolding is_protected
protected_plain s t =
    let t₁ = (and_yes (between 32 72 (length s)) (eqb (length s % 2) 0 && (every hexadecimal s && true)) t).1 in
    let t₂ = (and_yes (eqb (length s % 2) 0) (every hexadecimal s && true) t₁).1 in
    every_mono hexadecimal ident_character hexadecimal_ident s (and_yes (every hexadecimal s) true t₂).0

protected_length : (s : Bytes) → T (is_protected s) → T (between 32 72 (length s))
unfolding is_protected
protected_length s t = (and_yes (between 32 72 (length s)) (eqb (length s % 2) 0 && (every hexadecimal s && true)) t).0

ident_plain : (s : Bytes) → T (is_ident s) → T (every ident_character s)
unfolding is_ident
ident_plain [] t = tt
ident_plain (c ∷ s) t =
    let t₁ = and_yes (between 1 longest_ident (length (c ∷ s))) (alphanumeric c && (every ident_character s && true)) t in
    let t₂ = and_yes (alphanumeric c) (every ident_character s && true) t₁.1 in
    yes_and (ident_character c) (every ident_character s) (alphanumeric_ident c t₂.0) (and_yes (every ident_character s) true t₂.1).0

ident_length : (s : Bytes) → T (is_ident s) → T (between 1 longest_ident (length s))
unfolding is_ident
ident_length s t = (and_yes (between 1 longest_ident (length s)) (alphanumeric (get_or s 0 0) && (every ident_character (drop 1 s) && true)) t).0

fits_ident : (p c : ℕ) → T (fits p c) → T (ident_character c)
fits_ident p c t =
    by_test (one_of (ascii "TZ") p)
    (λ h. subst (λ (x : ℕ). T (ident_character x)) (sym (eqb→eq c p (rw (cond_yes (one_of (ascii "TZ") p) (eqb c p) (decimal c) h) at t)))
    (one-of ident_character (ascii "TZ") tt p h))
    (λ h. decimal_ident c (rw (cond_no (one_of (ascii "TZ") p) (eqb c p) (decimal c) h) at t))

looks_plain : (p s : Bytes) → T (looks p s) → T (every ident_character s)
unfolding looks
looks_plain [] [] t = tt
looks_plain [] (c ∷ s) t = absurd t
looks_plain (q ∷ p) [] t = absurd t
looks_plain (q ∷ p) (c ∷ s) t =
    let t' = and_yes (fits q c) (looks p s) t in
    yes_and (ident_character c) (every ident_character s) (fits_ident q c t'.0) (looks_plain p s t'.1)

-- the pattern of a TIMESTAMP
abbrev pub stamp : Bytes
stamp = ascii "YYYYMMDDThhmmssZ"

pub timestamp_looks : (s : Bytes) → T (is_timestamp s) → T (looks stamp s)
unfolding is_timestamp
timestamp_looks s t = (and_yes (looks stamp s) _ t).0

pub timestamp_length : (s : Bytes) → T (is_timestamp s) → length s ≡ 16
timestamp_length s t = sym (pairwise_length fits looks looks_pairwise stamp s (timestamp_looks s t))

pub other_length : (s : Bytes) → (length s ≡ 16 → ⊥) → is_timestamp s ≡ false
other_length s h = T_false (is_timestamp s) (not_T (is_timestamp s) (λ t. h (timestamp_length s t)))

pub plain : (t : TextType) (s : Bytes) → T (is_of t s) → T (every ident_character s)
plain Ident s h = ident_plain s h
plain Timestamp s h = looks_plain stamp s (timestamp_looks s h)
plain Point s h = hex_plain 194 s (point_hex s h)
plain Sig s h = hex_plain 192 s h
plain Mac s h = hex_plain 48 s h
plain Print s h = hex_plain 16 s h
plain Protected s h = protected_plain s h
plain (Hex n) s h = hex_plain n s h

-- ---- so no byte m that is no such character stands in it

pub every_without : (p : ℕ → Bool) (m : ℕ) → T (not (p m)) → (s : Bytes) → T (every p s) → T (without m s)
every_without p m h s k = every_mono p (λ c. not (eqb c m)) other s k
  where
    other : (c : ℕ) → T (p c) → T (not (eqb c m))
    other c t = by_test (eqb c m) (λ e. absurd (T_not (p m) h (subst (λ (x : ℕ). T (p x)) (eqb→eq c m e) t))) (λ e. e)

pub plain_without : (m : ℕ) → T (not (ident_character m)) → (s : Bytes) → T (every ident_character s) → T (without m s)
plain_without = every_without ident_character

-- ---- lengths

exactly : (n : ℕ) (s : Bytes) → length s ≡ n → T (between n n (length s))
exactly n s e = yes_and (leb n (length s)) (leb (length s) n) (le→leb n (length s) (omega arith)) (le→leb (length s) n (omega arith))

pub lengths : (t : TextType) (s : Bytes) → T (is_of t s) → T (between (shortest t) (longest t) (length s))
lengths Ident s h = ident_length s h
lengths Timestamp s h = exactly 16 s (timestamp_length s h)
lengths Point s h = exactly 194 s (hex_length 194 s (point_hex s h))
lengths Sig s h = exactly 192 s (hex_length 192 s h)
lengths Mac s h = exactly 48 s (hex_length 48 s h)
lengths Print s h = exactly 16 s (hex_length 16 s h)
lengths Protected s h = protected_length s h
lengths (Hex n) s h = exactly n s (hex_length n s h)
