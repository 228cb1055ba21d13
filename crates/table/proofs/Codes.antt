-- Field types by their codes: what a code says, by one computed test of all codes; any other number is as IDENT.
-- Assumes nothing.
use Prim.Native.Nat.{ℕ, ◌+◌, ◌≤◌, ◌<◌}
use mathlib.Core.Path.{◌≡◌, refl, sym, ap, ◌∙◌}
use mathlib.Core.Bool.{Bool, true, false, cond, ◌||◌, beq, and-false}
use mathlib.Core.List.{List, [], ◌∷◌, map}
use native.Mathlib.Omega.{arith}
use lib.ListN.{length, get_or-eq_default}
use lib.Dec.{T, leb, ltb, eqb, eqb→eq, ltb→lt, lit<}
use mir.Facts.{and_yes}
use borrow.Author.Tests.{ne_eqb, lt-leb}
use Rattle.text.specs.Text.{between, all_of, TextType, Ident, Timestamp, Point, Sig, Mac, Print, Protected, Hex}
use Rattle.text.proofs.Tests.{less_or, all_below, below}
use Rattle.format.specs.Kinds.{Kind, Field, Text, Printable, Identity, OrEmpty}
use Rattle.table.specs.Table.{row_of, field_types, field_type, is_identity, may_be_empty, permitted, row_among}
use Rattle.table.proofs.Rows.{same_bools}

-- the number of codes, which is no code
abbrev pub code_count : ℕ
code_count = length field_types

-- ---- what a field type says, by its code

pub past_codes : (code : ℕ) → code_count ≤ code → field_type code ≡ Text Ident
unfolding field_type
past_codes code h = get_or-eq_default field_types (Text Ident) h

-- q says of the code what p says of its type: a test of each code, and one case for all other numbers
by_code : (p : Field → Bool) (q : ℕ → Bool) → T (all_below code_count (λ c. beq (q c) (p (field_type c)))) → ((c : ℕ) → code_count ≤ c → q c ≡ p (Text Ident)) → (c : ℕ) → q c ≡ p (field_type c)
by_code p q t r c =
    less_or c code_count
    (λ h. same_bools (q c) (p (field_type c)) (below code_count (λ n. beq (q n) (p (field_type n))) t c h))
    (λ h. r c h ∙ ap p (sym (past_codes c h)))

pub identity_codes : (code : ℕ) → between 6 10 code ≡ is_identity (field_type code)
unfolding all_below field_type
identity_codes code = by_code is_identity (between 6 10) tt (λ c h. rw (lt-leb c 10 (omega arith)) (and-false (leb 6 c))) code

-- two codes of which p says yes, and of no other
either_codes : (p : Field → Bool) (a b : ℕ) → a < code_count → b < code_count → p (Text Ident) ≡ false
    → T (all_below code_count (λ c. beq (eqb c a || eqb c b) (p (field_type c)))) → (code : ℕ) → (eqb code a || eqb code b) ≡ p (field_type code)
either_codes p a b ha hb e t code =
    by_code p (λ c. eqb c a || eqb c b) t (λ c h. rw (ne_eqb c a (λ z. omega arith), ne_eqb c b (λ z. omega arith)) (sym e)) code

pub empty_codes : (code : ℕ) → (eqb code 5 || eqb code 10) ≡ may_be_empty (field_type code)
unfolding all_below field_type
empty_codes code = either_codes may_be_empty 5 10 (lit< tt) (lit< tt) refl tt code

-- ---- the identities that it permits, by their row

abbrev permits : ℕ → Field → Bool
permits row t = row_among row (permitted t)

pub SMMAN-codes : (code : ℕ) → (eqb code 6 || eqb code 10) ≡ permits 0 (field_type code)
unfolding all_below field_type
SMMAN-codes code = either_codes (permits 0) 6 10 (lit< tt) (lit< tt) refl tt code

pub SMID-codes : (code : ℕ) → (eqb code 7 || eqb code 9) ≡ permits 1 (field_type code)
unfolding all_below field_type
SMID-codes code = either_codes (permits 1) 7 9 (lit< tt) (lit< tt) refl tt code

pub KMCID-codes : (code : ℕ) → (eqb code 8 || eqb code 9) ≡ permits 2 (field_type code)
unfolding all_below field_type
KMCID-codes code = either_codes (permits 2) 8 9 (lit< tt) (lit< tt) refl tt code

-- every kind that is permitted anywhere stands in one of the first three rows
abbrev early : Kind → Bool
early k = ltb (row_of k) 3

late_row : (row : ℕ) (ks : List Kind) → 3 ≤ row → T (all_of (map early ks)) → row_among row ks ≡ false
late_row row [] h t = refl
late_row row (k ∷ ks) h t =
    let u = and_yes (early k) (all_of (map early ks)) t in
    rw (ne_eqb row (row_of k) (λ z. omega (arith, ltb→lt (row_of k) 3 u.0))) (late_row row ks h u.1)

pub no_permit : (code row : ℕ) → 3 ≤ row → permits row (field_type code) ≡ false
unfolding all_below field_type
no_permit code row h =
    late_row row (permitted (field_type code)) h
    (rw (← (by_code (λ t. all_of (map early (permitted t))) (λ c. true) tt (λ c l. refl) code)) tt)

-- ---- the code of a type

abbrev pub text_code : TextType → ℕ
text_code Ident = 0
text_code Timestamp = 1
text_code Print = 2
text_code Point = 3
text_code Mac = 4
text_code Sig = 5
text_code (Hex n) = 11
text_code Protected = 13

abbrev pub kinds_code : List Kind → ℕ
kinds_code [] = 6
kinds_code (k ∷ ks) = row_of k + kinds_code ks

-- the other way round, for the types that have a code
unfoldable pub code_of : Field → ℕ
code_of (Text t) = text_code t
code_of Printable = 12
code_of (Identity ks) = kinds_code ks
code_of (OrEmpty t) = cond (is_identity t) 10 (code_of t)

code_type : (code : ℕ) → code < code_count → code_of (field_type code) ≡ code
unfolding all_below field_type code_of
code_type code h = eqb→eq (code_of (field_type code)) code (below code_count (λ n. eqb (code_of (field_type n)) n) tt code h)

-- no two codes have one type, so `TypeOf` allows one answer
pub one_code : (a b : ℕ) → a < code_count → b < code_count → field_type a ≡ field_type b → a ≡ b
one_code a b ha hb e = sym (code_type a ha) ∙ ap code_of e ∙ code_type b hb
