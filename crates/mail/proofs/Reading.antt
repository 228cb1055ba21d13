-- The ways of the call that reads: no BEGINS line, no ENDS line, too long, refused, too little room, given.
-- Assumes nothing.
use Prim.Native.Nat.{ℕ, ◌+◌, ◌≤◌, ◌<◌}
use mathlib.Core.Path.{◌≡◌, refl, sym, ap, ◌∙◌, subst}
use mathlib.Core.Option.{Option, none, some}
use mathlib.Core.List.{List, [], ◌∷◌}
use native.Mathlib.Omega.{arith}
use native.Mathlib.Nat.{zero-add}
use lib.ListN.{length, take, drop}
use lib.Seq.{take-append_seam}
use borrow.Author.Tests.{lt-leb}
use Rattle.text.specs.Text.{Bytes}
use Rattle.numbers.specs.Numbers.{too_long, short_output, missing_begins, missing_ends}
use Rattle.format.specs.Kinds.{Kind, SMMAN, SMID, KMCID, ECDSA, ECDH, REQ, RESP, KEY, name, record_kinds, all_kinds}
use Rattle.format.specs.Build.{Built}
use Rattle.format.specs.Read.{read_over, read_under, read_of}
use Rattle.format.proofs.Exactly.{read_says}
use Rattle.table.specs.Table.{row_of, row_for, named, kinds_from}
use Rattle.table.proofs.Names.{named_some, named_none}
use Rattle.put.specs.Put.{Puts, Put}
use Rattle.put.specs.Made.{denied, says, Writes}
use Rattle.put.specs.declared.Written.{Written}
use Rattle.put.proofs.Pieces.{put_of, put_denied}
use Rattle.reading.specs.Reading.{answer_of}
use Rattle.reading.specs.declared.Answer.{Answer}
use Rattle.reading.proofs.Answers.{Taken, taken}
use Rattle.given.proofs.Given.{given_refused, given_short, given_put}
use Rattle.mail.specs.Mail.{lines_in, rectype_in, block, closed, opened, missing, alone, read_found, read_mail}
use Rattle.mail.specs.Steps.{line_from, Opens, rows_in, Closes}
use Rattle.mail.proofs.Finding.{lines_at}

-- ---- the kind of a name, by its row: an identity's row has no record kind, and no row has one where there is no kind

row_alone : (k : Kind) → kinds_from (row_of k) (row_of k + 1) ≡ alone (named record_kinds (name k))
row_alone SMMAN = refl
row_alone SMID = refl
row_alone KMCID = refl
row_alone ECDSA = refl
row_alone ECDH = refl
row_alone REQ = refl
row_alone RESP = refl
row_alone KEY = refl

row_named : (t : Bytes) {row : ℕ} → row ≡ row_for (named all_kinds t) → kinds_from row (row + 1) ≡ alone (named record_kinds t)
row_named t e = rw e (go (named all_kinds t) refl)
  where
    go : (o : Option Kind) → named all_kinds t ≡ o → kinds_from (row_for o) (row_for o + 1) ≡ alone (named record_kinds t)
    go none n = sym (ap alone (named_none KMCID record_kinds t (named_none SMID (KMCID ∷ record_kinds) t (named_none SMMAN (SMID ∷ KMCID ∷ record_kinds) t n))))
    go (some k) n = rw (named_some all_kinds t k n) (row_alone k)

-- ---- the record, when it is whole: a is the answer to it as the kind of this row

module _ (t s : Bytes) {row : ℕ} (at : row ≡ row_for (named all_kinds t)) {a : Answer} (said : a ≡ answer_of (read_of (kinds_from row (row + 1)) s)) where
  abbrev kinds : List Kind
  kinds = alone (named record_kinds t)

  own : a ≡ answer_of (read_of kinds s)
  own = said ∙ ap (λ (ks : List Kind). answer_of (read_of ks s)) (row_named t at)

  pub give_refused : (a.no ≡ 0 → ⊥) → (out : Bytes) (w : Written) → w ≡ says (denied a.no a.field) → Writes (read_found (length out) (block t s)) out out w
  give_refused = given_refused (λ k fs. s) (read_of kinds s) own

  module _ (z : a.no ≡ 0) where
    read : Taken (Built kinds s) (read_of kinds s) a.kind
    read = taken (Built kinds s) (read_of kinds s) a (read_says kinds s) own z

    pub give_short : (out : Bytes) (w : Written) → length out < length s → w ≡ says (denied short_output 0) → Writes (read_found (length out) (block t s)) out out w
    give_short = given_short (λ k fs. s) read.is

    pub give_said : {out out' : Bytes} {n : ℕ} → length s ≤ length out → Puts out 0 s out' n → Writes (read_found (length out) (block t s)) out out' (record { no = 0; field = 0; len = n })
    give_said h p = given_put (λ k fs. s) read.is (put_of (omega arith) p)

-- ---- the rows, joined

pub too_long_found : (t s out : Bytes) → 1024 < length s → (w : Written) → w ≡ says (denied too_long 0) → Writes (read_found (length out) (block t s)) out out w
unfolding read_under read_over
too_long_found t s out h w e = rw (lt-leb (length s) 1024 h) (put_denied w e)

-- the part of the array a that holds the record
joined_part : {o v a : Bytes} {n : ℕ} → Put o 0 v a n → take n a ≡ v
joined_part {o} {v} {a} {n} p =
    let e : n ≡ length v = omega (arith, p.next) in
    rw (e, p.written, zero-add) (take-append_seam v (drop (length v) o))

pub rows_given : (t v : Bytes) {out out' : Bytes} {z a : Bytes} {n : ℕ} (w : Written) → Put z 0 v a n → Writes (read_found (length out) (block t (take n a))) out out' w
    → Writes (read_found (length out) (block t v)) out out' w
rows_given t v {out} {out'} w p = subst (λ (s : Bytes). Writes (read_found (length out) (block t s)) out out' w) (joined_part p)

-- ---- the lines of the text: no BEGINS line, or the first one, l, at place p with the record type t

pub mail_unopened : (text : Bytes) → opened (lines_in text) ≡ missing missing_begins → (out : Bytes) (w : Written) → w ≡ says (denied missing_begins 0) → Writes (read_mail text (length out)) out out w
unfolding read_mail
mail_unopened text absent out w e = rw absent (put_denied w e)

module _ (text : Bytes) {p : ℕ} (opens : Opens text p) {l t : Bytes} (is : l ≡ line_from text p) (names : t ≡ rectype_in l) where
  opened_here : opened (lines_in text) ≡ closed t [] (lines_in (drop (p + length l + 1) text))
  opened_here =
      let next : p + length l + 1 ≡ p + (length (line_from text p) + 1) = omega (arith, ap length is) in
      opens.passed ∙ rw (lines_at text p opens.inside, opens.here, next, names ∙ ap rectype_in is)

  -- no ENDS line matches it, or the first one is at place i
  pub mail_unclosed : closed t [] (lines_in (drop (p + length l + 1) text)) ≡ missing missing_ends → (out : Bytes) (w : Written) → w ≡ says (denied missing_ends 0)
      → Writes (read_mail text (length out)) out out w
  unfolding read_mail
  mail_unclosed absent out w e = rw (opened_here, absent) (put_denied w e)

  pub mail_read : {i : ℕ} → Closes text (p + length l + 1) t i → {out out' : Bytes} (w : Written)
      → Writes (read_found (length out) (block t (rows_in text (p + length l + 1) i))) out out' w → Writes (read_mail text (length out)) out out' w
  unfolding read_mail
  mail_read closes w v = rw (opened_here, closes.there) v
