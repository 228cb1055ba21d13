-- One field by the code of its type: what a text is answered, and an identity.
-- Assumes nothing.
use Prim.Native.Nat.{ℕ, zero, suc, ◌+◌, ◌≤◌, ◌<◌}
use mathlib.Core.Path.{◌≡◌, refl, ap, sym, ◌∙◌}
use mathlib.Core.Bool.{Bool, true, false, true≢false, false≢true, cond, not, ◌&&◌, ◌||◌, and-true, and-false}
use mathlib.Core.List.{List, [], ◌∷◌}
use native.Mathlib.Omega.{arith}
use native.Mathlib.Nat.{add-zero}
use lib.ListN.{length, get_or}
use lib.Dec.{T, eqb, ltb, eqb-suc-zero, eqb→eq, ltb→lt, nltb→le}
use mir.Facts.{and_yes, or_no}
use borrow.Author.Tests.{eqb-false, le-leb}
use Rattle.text.specs.Text.{Bytes, Ident, is_ident, between}
use Rattle.text.proofs.Tests.{and_stop, or_on, cond_yes, by_test, less_or, T_false, at_every, all_below, below}
use Rattle.format.specs.Kinds.{Kind, Field, Text, Printable, Identity, OrEmpty, fields_of, identity_fields, identity_kinds, among}
use Rattle.format.specs.Build.{empty}
use Rattle.format.specs.Read.{Outcome, accepted, refused, field_answer, identity_answer, read_over, read_identity}
use Rattle.format.proofs.Table.{identity_row, seven_fields}
use Rattle.format.proofs.Outcomes.{Honest}
use Rattle.table.specs.Table.{missing_row, fields_at, field_type, TypeOf, is_identity, may_be_empty, permitted, row_among}
use Rattle.table.proofs.Rows.{kind_at, in_row, among_row}
use Rattle.table.proofs.Codes.{past_codes, identity_codes}
use Rattle.places.proofs.Seven.{seven_at}
use Rattle.reading.specs.Reading.{kind_said, kind_within, kinds_within, kinds_of, answer_of}
use Rattle.reading.specs.Steps.{is_text}
use Rattle.reading.specs.declared.Answer.{Answer}
use Rattle.reading.proofs.Answers.{taken, untaken}

-- ---- empty or not, by the length

pub empty_is : (f : Bytes) → empty f ≡ eqb (length f) 0
empty_is [] = refl
empty_is (c ∷ f) = sym (eqb-suc-zero (length f))

-- ---- what a field type answers

module _ (ask : Bytes → Outcome) (f : Bytes) where
  pub answer_empty : (t : Field) → T (empty f) → T (may_be_empty t) → field_answer ask t f ≡ 0
  unfolding field_answer
  answer_empty (Text t) h m = absurd m
  answer_empty Printable h m = absurd m
  answer_empty (Identity ks) h m = absurd m
  answer_empty (OrEmpty t) h m = cond_yes (empty f) 0 (field_answer ask t f) h

  pub answer_identity : (t : Field) → (empty f && may_be_empty t) ≡ false → is_identity t ≡ true → field_answer ask t f ≡ identity_answer (permitted t) (ask f)
  unfolding field_answer
  answer_identity (Text t) h e = absurd (false≢true e)
  answer_identity Printable h e = absurd (false≢true e)
  answer_identity (Identity ks) h e = refl
  answer_identity (OrEmpty t) h e = let n = sym (and-true (empty f)) ∙ h in rw n (answer_identity t (and_stop (empty f) (may_be_empty t) n) e)

  pub answer_text : (t : Field) → (empty f && may_be_empty t) ≡ false → is_identity t ≡ false → field_answer ask t f ≡ cond (is_text t f) 0 6
  unfolding field_answer
  answer_text (Text t) h e = refl
  answer_text Printable h e = refl
  answer_text (Identity ks) h e = absurd (true≢false e)
  answer_text (OrEmpty t) h e = let n = sym (and-true (empty f)) ∙ h in rw n (answer_text t (and_stop (empty f) (may_be_empty t) n) e)

-- ---- the kind of the identity in a field

pub kind_empty : (t : Field) (f : Bytes) → T (empty f) → kind_within t f ≡ missing_row
unfolding kind_within read_identity read_over
kind_empty (Text t) f h = refl
kind_empty Printable f h = refl
kind_empty (Identity ks) [] h = refl
kind_empty (Identity ks) (c ∷ f) h = absurd h
kind_empty (OrEmpty t) f h = kind_empty t f h

module _ (f : Bytes) where
  pub kind_identity : (t : Field) → is_identity t ≡ true → kind_within t f ≡ kind_said (read_identity f)
  unfolding kind_within
  kind_identity (Text t) e = absurd (false≢true e)
  kind_identity Printable e = absurd (false≢true e)
  kind_identity (Identity ks) e = refl
  kind_identity (OrEmpty t) e = kind_identity t e

  pub kind_text : (t : Field) → is_identity t ≡ false → kind_within t f ≡ missing_row
  unfolding kind_within
  kind_text (Text t) e = refl
  kind_text Printable e = refl
  kind_text (Identity ks) e = absurd (true≢false e)
  kind_text (OrEmpty t) e = kind_text t e

kinds-from : (i : ℕ) (ts : List Field) (fs : List Bytes) (j : ℕ) → get_or (kinds_within i ts fs) j missing_row ≡ kind_within (get_or ts j (Text Ident)) (get_or fs (i + j) [])
unfolding kind_within
kinds-from i [] fs j = refl
kinds-from i (t ∷ ts) fs zero = rw add-zero
kinds-from i (t ∷ ts) fs (suc j) = let e : i + suc j ≡ suc i + j = omega arith in rw e (kinds-from (suc i) ts fs j)

kinds_count : (i : ℕ) (ts : List Field) (fs : List Bytes) → length (kinds_within i ts fs) ≡ length ts
kinds_count i [] fs = refl
kinds_count i (t ∷ ts) fs = ap suc (kinds_count (suc i) ts fs)

pub kinds_at : (k : Kind) (fs : List Bytes) (j : ℕ) → get_or (kinds_of k fs) j missing_row ≡ kind_within (get_or (fields_of k) j (Text Ident)) (get_or fs j [])
unfolding kinds_of
kinds_at k fs j =
    let e : 0 + j ≡ j = omega arith in
    seven_at missing_row (kinds_within 0 (fields_of k) fs) (omega (arith, kinds_count 0 (fields_of k) fs, seven_fields k)) j
    ∙ rw e at (kinds-from 0 (fields_of k) fs j)

-- ---- the fields of an identity are texts

fields_below : (row : ℕ) → row < 3 → fields_at row ≡ identity_fields
unfolding all_below
fields_below row h = in_row fields_of [] row (omega arith) ∙ (identity_row (kind_at row) (below 3 (λ n. among (kind_at n) identity_kinds) tt row h)).1

pub plain_answer : (ask : Bytes → Outcome) (row j code : ℕ) (f : Bytes) → row < 3 → TypeOf row j code → field_answer ask (field_type code) f ≡ cond (is_text (field_type code) f) 0 6
plain_answer ask row j code f h t =
    let e : field_type code ≡ get_or identity_fields j (Text Ident) = t.means ∙ ap (λ (l : List Field). get_or l j (Text Ident)) (fields_below row h) in
    let u = and_yes (not (is_identity (field_type code))) (not (may_be_empty (field_type code)))
    (rw e (at_every (λ s. not (is_identity s) && not (may_be_empty s)) (Text Ident) tt identity_fields tt j)) in
    answer_text ask f (field_type code) (rw (T_false (may_be_empty (field_type code)) u.1) (and-false (empty f))) (T_false (is_identity (field_type code)) u.0)

-- ---- a code that is IDENT's, or names no text type, is as IDENT where a text is asked for; of the others the code asks in three parts

module _ (f : Bytes) where
  identity_text : (t : Field) → is_identity t ≡ true → is_text t f ≡ is_ident f
  identity_text (Text t) e = absurd (false≢true e)
  identity_text Printable e = absurd (false≢true e)
  identity_text (Identity ks) e = refl
  identity_text (OrEmpty t) e = identity_text t e

abbrev ident_code : ℕ → Bool
ident_code code = eqb code 0 || (ltb 13 code || is_identity (field_type code))

pub ident_text : (f : Bytes) (code : ℕ) → ident_code code ≡ true → is_text (field_type code) f ≡ is_ident f
unfolding field_type
ident_text f code e =
    by_test (eqb code 0) (λ t. let z = eqb→eq code 0 t in rw z)
    (λ n. by_test (ltb 13 code) (λ t. ap (λ (t : Field). is_text t f) (past_codes code (ltb→lt 13 code t)))
    (λ m. identity_text f (field_type code) (sym (or_on _ _ (T_false (ltb 13 code) m)) ∙ sym (or_on _ _ (T_false (eqb code 0) n)) ∙ e)))

-- the codes that are left
pub record Other (code : ℕ) : Type 0 where
  pub some : code ≡ 0 → ⊥
  pub listed : code ≤ 13
  pub early : code < 11 → code < 6

pub other : (code : ℕ) → ident_code code ≡ false → Other code
other code e =
    let u = or_no (eqb code 0) (ltb 13 code || is_identity (field_type code)) (rw e tt) in
    let v = or_no (ltb 13 code) (is_identity (field_type code)) u.1 in
    let w : between 6 10 code ≡ false = identity_codes code ∙ T_false (is_identity (field_type code)) v.1 in
    record {
      some = eqb-false code 0 (T_false (eqb code 0) u.0);
      listed = nltb→le 13 code v.0;
      early = λ h. less_or code 6 (λ l. l) (λ l. absurd (true≢false (rw (le-leb 6 code l, le-leb code 10 (omega arith)) at w)));
    }

-- ---- an identity by the answer of the identity call

pub kind_told : (o : Outcome) (a : Answer) → a ≡ answer_of o → a.kind ≡ kind_said o
kind_told (accepted k fs) a e = ap (λ (x : Answer). x.kind) e
kind_told (refused n i) a e = ap (λ (x : Answer). x.kind) e

module _ (ks : List Kind) (o : Outcome) (a : Answer) (e : a ≡ answer_of o) where
  pub identity_refused : (a.no ≡ 0 → ⊥) → identity_answer ks o ≡ 7
  unfolding identity_answer
  identity_refused z = ap (identity_answer ks) (untaken o a e z)

  pub identity_taken : (P : Kind → List Bytes → Type 0) → Honest P o → a.no ≡ 0 → identity_answer ks o ≡ cond (row_among a.kind ks) 0 9
  unfolding identity_answer
  identity_taken P h z =
      let t = taken P o a h e z in
      ap (identity_answer ks) t.is ∙ ap (λ (b : Bool). cond b 0 9) (sym (ap (λ (n : ℕ). row_among n ks) t.at ∙ among_row t.kind ks))
