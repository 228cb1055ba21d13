-- What the reading calls answer: document 01, "Numbers given back", and document 02, E1 and E11. `read_identity`, `read_under`, `read_of` and `read_record` of
-- format say the outcome; here it is put into the words of an answer.
-- Assumes nothing.
use Rattle.std.specs.Prelude.{ℕ, suc, List, [], ◌∷◌, get_or}
use Rattle.text.specs.Text.{Bytes}
use Rattle.format.specs.Kinds.{Kind, Field, Text, Printable, Identity, OrEmpty, fields_of}
use Rattle.format.specs.Read.{Outcome, accepted, refused, of_kind, judged, read_identity}
use Rattle.format.specs.declared.Rules.{Rules}
use Rattle.format.specs.declared.Rules.TheVariants.{Today}
use Rattle.table.specs.Table.{row_of, missing_row, kind_of, count_of}
use Rattle.places.specs.Places.{seven, starts_of, lens_of, parts_from}
use Rattle.reading.specs.declared.Answer.{Answer}
use Rattle.reading.specs.declared.Judged.{Judged}

-- ---- the kinds of the identities in a record

-- the row of the kind that the identity call says
abbrev pub kind_said : Outcome → ℕ
kind_said (accepted k fs) = row_of k
kind_said (refused n i) = missing_row

-- the kind of the identity in a field f of type t; none where f is a text, or empty
unfoldable pub kind_within : Field → Bytes → ℕ
kind_within (Text t) f = missing_row
kind_within Printable f = missing_row
kind_within (Identity ks) f = kind_said (read_identity f)
kind_within (OrEmpty t) f = kind_within t f

-- of the fields fs from field j on, which have the types ts
abbrev pub kinds_within : ℕ → List Field → List Bytes → List ℕ
kinds_within j [] fs = []
kinds_within j (t ∷ ts) fs = kind_within t (get_or fs j []) ∷ kinds_within (suc j) ts fs

unfoldable pub kinds_of : Kind → List Bytes → List ℕ
kinds_of k fs = seven missing_row (kinds_within 0 (fields_of k) fs)

abbrev pub no_kinds : List ℕ
no_kinds = seven missing_row []

-- ---- an answer

-- the number, the field's number, the kind's row in the table, and of each field its start, its length and the kind of the identity
-- in it; none of them with a refusal
abbrev pub answer_of : Outcome → Answer
answer_of (accepted k fs) = record { no = 0; field = 0; kind = row_of k; starts = starts_of k fs; lens = lens_of fs; kinds = kinds_of k fs }
answer_of (refused n i) = record { no = n; field = i; kind = missing_row; starts = seven 0 []; lens = seven 0 []; kinds = no_kinds }

-- ---- the fields of a record, without its form

-- the fields fs of the kind in a row: each of them, and then all together
unfoldable pub judged_by : Rules → ℕ → List Bytes → Outcome
judged_by rules row fs = of_kind (kind_of row) (λ k. judged rules read_identity k fs (accepted k fs))

abbrev pub judged_said : Outcome → Judged
judged_said (accepted k fs) = record { no = 0; field = 0; kinds = kinds_of k fs }
judged_said (refused n i) = record { no = n; field = i; kinds = no_kinds }

-- as many parts of s as the kind has fields
abbrev pub judge_under : Rules → ℕ → Bytes → List ℕ → List ℕ → Judged
judge_under rules row s starts lens = judged_said (judged_by rules row (parts_from s starts lens 0 (count_of row)))

-- today
abbrev pub judge : ℕ → Bytes → List ℕ → List ℕ → Judged
judge = judge_under Today
