-- How a record is read: document 01, "Numbers given back", order when reading: 1, 2, 3, 4, 5, then fields left to right (6, or 7
-- before 9), then 8; document 02, E1: then 14, and E11: then 28; STS 600-4-2, clause 5.8.2 (PARSE-RECORD).
-- Assumes nothing.
use Rattle.std.specs.Prelude.{ℕ, zero, suc, ◌-◌, Bool, true, false, cond, ◌&&◌, List, [], ◌∷◌, length, take, drop, leb, eqb}
use Rattle.std.proofs.Math.Option.{Option, none, some}
use Rattle.crc16.specs.Crc.{crc_of}
use Rattle.text.specs.Text.{Bytes, same, is_hex, is_of, is_printable}
use Rattle.text.specs.Base16.{check_text}
use Rattle.numbers.specs.Numbers.{too_long, unknown_kind, missing_check, wrong_check, wrong_count, wrong_text, wrong_identity, unpaired, wrong_kind, wrong_attributes, module_unsigned}
pub use Rattle.format.specs.Parts.{last_or, ends_in, on_first, cut}
pub use Rattle.format.specs.Kinds.{is_mark, title}
use Rattle.format.specs.Kinds.{Kind, Field, Text, Printable, Identity, OrEmpty, name, mark, fields_of, identity_kinds, record_kinds, among}
use Rattle.format.specs.Build.{empty, paired, attributed, signed, longest_record}
use Rattle.format.specs.declared.Rules.{Rules}
use Rattle.format.specs.declared.Rules.TheVariants.{Today}

-- ---- what a call says: the kind and the fields, or the number of the refusal and of the field

pub data Outcome : Type 0 where
  accepted : Kind → List Bytes → Outcome
  refused : ℕ → ℕ → Outcome

-- the number, and the field's number, 0 where none is named
abbrev pub answer : Outcome → ℕ
answer (accepted k fs) = 0
answer (refused n i) = n

abbrev pub place : Outcome → ℕ
place (accepted k fs) = 0
place (refused n i) = i

-- the outcome o if the test passes, and otherwise the refusal n
abbrev pub provided : Bool → ℕ → Outcome → Outcome
provided true n o = o
provided false n o = refused n 0

-- the outcome o if the number n of field i is 0, and otherwise that refusal
abbrev pub passing : ℕ → ℕ → Outcome → Outcome
passing zero i o = o
passing (suc n) i o = refused (suc n) i

-- ---- number 2: the kind

-- the mark behind the title (0 if there is none)
abbrev pub mark_after : Bytes → ℕ
mark_after [] = 0
mark_after (c ∷ s) = cond (is_mark c) c (mark_after s)

-- the kind among ks that has this name and this mark
abbrev pub kind_in : List Kind → Bytes → ℕ → Option Kind
kind_in [] t m = none
kind_in (k ∷ ks) t m = cond (same t (name k) && eqb m (mark k)) (some k) (kind_in ks t m)

abbrev pub of_kind : Option Kind → (Kind → Outcome) → Outcome
of_kind none r = refused unknown_kind 0
of_kind (some k) r = r k

-- ---- numbers 3, 4 and 5: the check and the fields

-- all but the last four bytes, and the last four
abbrev pub body : Bytes → Bytes
body s = take (length s - 4) s

abbrev pub check : Bytes → Bytes
check s = drop (length s - 4) s

-- the number that the check of s is answered, where the mark is m: 3 where the last four bytes are not HEX(4) or the byte before them is not
-- there or not the mark, 4 where the check differs
unfoldable pub check_no : ℕ → Bytes → ℕ
check_no m s =
    cond (is_hex 4 (check s) && ends_in m (body s))
    (cond (same (check s) (check_text (crc_of (body s)))) 0 wrong_check)
    missing_check

-- the fields: the parts of the body but for the first, which is the kind's name
abbrev pub fields_in : Kind → Bytes → List Bytes
fields_in k s = drop 1 (cut (mark k) (body s))

-- ---- numbers 6, 7 and 9: one field, and 8, 14 and 28: the fields together

-- an identity to which the identity call says o, where the kinds ks are permitted
unfoldable pub identity_answer : List Kind → Outcome → ℕ
identity_answer ks (refused n i) = wrong_identity
identity_answer ks (accepted k fs) = cond (among k ks) 0 wrong_kind

-- what a field is answered, 0 if nothing is wrong; `ask` is the identity call
unfoldable pub field_answer : (Bytes → Outcome) → Field → Bytes → ℕ
field_answer ask (Text t) f = cond (is_of t f) 0 wrong_text
field_answer ask Printable f = cond (is_printable f) 0 wrong_text
field_answer ask (Identity ks) f = identity_answer ks (ask f)
field_answer ask (OrEmpty t) f = cond (empty f) 0 (field_answer ask t f)

-- the fields from left to right, the first of them being number i
abbrev pub each : (Bytes → Outcome) → ℕ → List Field → List Bytes → Outcome → Outcome
each ask i [] fs o = o
each ask i (t ∷ ts) [] o = o
each ask i (t ∷ ts) (f ∷ fs) o = passing (field_answer ask t f) i (each ask (suc i) ts fs o)

-- what the fields together are answered
unfoldable pub whole_answer : Rules → Kind → List Bytes → ℕ
whole_answer rules k fs =
    cond (paired k fs)
    (cond (attributed k fs)
    (cond (signed rules k fs) 0 module_unsigned)
    wrong_attributes)
    unpaired

-- the fields fs of a record of kind k: each of them, and then all together
unfoldable pub judged : Rules → (Bytes → Outcome) → Kind → List Bytes → Outcome → Outcome
judged rules ask k fs o = each ask 1 (fields_of k) fs (passing (whole_answer rules k fs) 0 o)

-- ---- the calls

-- s, which begins with the name and the mark of the kind k
unfoldable pub read_as : Rules → (Bytes → Outcome) → Bytes → Kind → Outcome
read_as rules ask s k =
    passing (check_no (mark k) s) 0
    (provided (eqb (length (fields_in k s)) (length (fields_of k))) wrong_count
    (judged rules ask k (fields_in k s)
    (accepted k (fields_in k s))))

-- a call that reads the kinds ks
unfoldable pub read_over : Rules → (Bytes → Outcome) → List Kind → Bytes → Outcome
read_over rules ask ks s =
    provided (leb (length s) longest_record) too_long
    (of_kind (kind_in ks (title s) (mark_after s)) (read_as rules ask s))

-- whom the identity call asks: an identity has no identity in it
abbrev pub nobody : Bytes → Outcome
nobody f = refused unknown_kind 0

-- the identity call
unfoldable pub read_identity : Bytes → Outcome
read_identity s = read_over Today nobody identity_kinds s

-- a call that reads the kinds ks of records under some rules, one that reads them today, and the record call, which reads them all
unfoldable pub read_under : Rules → List Kind → Bytes → Outcome
read_under rules ks s = read_over rules read_identity ks s

abbrev pub read_of : List Kind → Bytes → Outcome
read_of = read_under Today

unfoldable pub read_record : Bytes → Outcome
read_record s = read_of record_kinds s
