-- What the private functions of the crate answer. No clause of a document stands here.
-- Assumes nothing.
use Rattle.std.specs.Prelude.{ℕ, zero, suc, ◌≡◌, Bool, cond, ◌&&◌, List, eqb, Result, Ok, Err}
use Rattle.std.specs.Bool.{beq}
use Rattle.text.specs.Text.{Bytes, same, is_of, is_ident, is_printable}
use Rattle.numbers.specs.Numbers.{unknown_kind, wrong_count, unpaired, module_unsigned}
use Rattle.format.specs.Kinds.{SMID, ECDH, Field, Text, Printable, Identity, OrEmpty, name, title}
use Rattle.format.specs.Build.{empty}
use Rattle.format.specs.Read.{Outcome, accepted, refused, body, check_no, each, field_answer, whole_answer, read_identity}
use Rattle.format.specs.declared.Rules.{Rules}
use Rattle.format.specs.declared.Rules.TheVariants.{UpToE10, Today}
use Rattle.table.specs.Table.{row_of, missing_row, of_row, mark_of, count_of, fields_at}
use Rattle.places.specs.Places.{seven, parts_from, places_of}
use Rattle.places.specs.declared.Places.{Places}
use Rattle.reading.specs.Reading.{kind_within, kinds_within, kinds_of, answer_of}
use Rattle.reading.specs.declared.Answer.{Answer}
use Rattle.reading.specs.declared.Refused.{Refused}

-- ---- a number, an outcome, as a result

-- a where the number is 0, and otherwise the number
abbrev pub unless : {A : Type 0} → ℕ → A → Result A ℕ
unless zero a = Ok a
unless (suc n) a = Err (suc n)

-- a refusal that names no field
abbrev pub no_field : ℕ → Refused
no_field n = record { no = n; field = 0 }

-- the kinds of the identities among the fields, or the refusal
abbrev pub kinds_or : Outcome → Result (List ℕ) Refused
kinds_or (accepted k fs) = Ok (kinds_of k fs)
kinds_or (refused n i) = Err (record { no = n; field = i })

-- the answer of what is accepted, or the refusal
abbrev pub answer_or : Outcome → Result Answer Refused
answer_or (accepted k fs) = Ok (answer_of (accepted k fs))
answer_or (refused n i) = Err (record { no = n; field = i })

-- ---- what the functions answer

-- numbers 2 to 4, by the row that was found
unfoldable pub form_no : ℕ → Bytes → ℕ
form_no row s = cond (eqb row missing_row) unknown_kind (check_no (mark_of row) s)

-- the first of two numbers that is one
abbrev pub first_of : ℕ → ℕ → ℕ
first_of zero n = n
first_of (suc m) n = suc m

-- the places of the fields, where neither the form nor their count is refused
unfoldable pub places_in : ℕ → Bytes → Result Places ℕ
places_in row s =
    unless (first_of (form_no row s) (cond (eqb (places_of (mark_of row) (body s)).count (count_of row)) 0 wrong_count))
    (places_of (mark_of row) (body s))

-- the test of a text that a field type asks for; IDENT where it asks for an identity
abbrev pub is_text : Field → Bytes → Bool
is_text (Text t) f = is_of t f
is_text Printable f = is_printable f
is_text (Identity ks) f = is_ident f
is_text (OrEmpty t) f = is_text t f

-- a field f of type t: its number, or the kind of the identity in it
abbrev pub field_said : Field → Bytes → Result ℕ ℕ
field_said t f = unless (field_answer read_identity t f) (kind_within t f)

-- the parts of s at the places of a kind's fields
abbrev pub parts_by : ℕ → Bytes → List ℕ → List ℕ → List Bytes
parts_by row s starts lens = parts_from s starts lens 0 (count_of row)

-- each of the fields fs is accepted
pub record AllPass (ask : Bytes → Outcome) (row : ℕ) (fs : List Bytes) : Type 0 where
  pub all : (o : Outcome) → each ask 1 (fields_at row) fs o ≡ o

-- the first of them that is refused is so
pub record FirstRefused (ask : Bytes → Outcome) (row : ℕ) (fs : List Bytes) (r : Refused) : Type 0 where
  pub first : (o : Outcome) → each ask 1 (fields_at row) fs o ≡ refused r.no r.field

-- each is accepted, and these are the kinds of the identities among them
pub record Kinds (row : ℕ) (fs : List Bytes) (kinds : List ℕ) : Type 0 where
  pub pass : AllPass read_identity row fs
  pub all_kinds : kinds ≡ seven missing_row (kinds_within 0 (fields_at row) fs)

-- the number of the fields together, by the row of their kind
unfoldable pub whole_no : Rules → ℕ → List Bytes → ℕ
whole_no rules row fs = of_row (λ k. whole_answer rules k fs) 0 row

-- and what its parts answer: the rules to the unsigned key of a module, then a key by its Subject and its Signature, then a public key of a row
abbrev pub unsigned_no : Rules → ℕ
unsigned_no UpToE10 = 0
unsigned_no Today = module_unsigned

unfoldable pub module_no : Rules → Bytes → Bytes → ℕ
module_no rules subject signature = cond (same (title subject) (name SMID) && empty signature) (unsigned_no rules) 0

unfoldable pub pubkey_no : Rules → ℕ → Bytes → Bytes → Bytes → ℕ
pubkey_no rules row subject issuer signature = cond (beq (empty issuer) (empty signature)) (cond (eqb row (row_of ECDH)) (module_no rules subject signature) 0) unpaired
