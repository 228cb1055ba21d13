-- Records by mail: document 02, E7; STS 600-4-2, Appendix C. Reading a block that was written gives the same record bytes, after any text that is empty or
-- ends with a line feed and in which no line is a BEGINS line, whatever follows. The first BEGINS line and the first matching ENDS line after it decide,
-- and rows of any length are joined. Demand 3 says nothing of mail.
-- Assumes nothing.
use Rattle.std.specs.Prelude.{ℕ, ◌+◌, ◌*◌, ◌/◌, ◌≤◌, ◌<◌, ◌≡◌, ◌↔◌, ◌≢◌, not, take, drop, T}
use mathlib.Core.List.{List, [], ◌∷◌, ◌++◌, flatten, Memᴰ}
use Rattle.std.proofs.Math.ListN.{length}
use Rattle.text.specs.Text.{Bytes, is_ident}
use Rattle.numbers.specs.Numbers.{too_long, unknown_kind, short_output, missing_begins, missing_ends}
use Rattle.format.specs.Kinds.{Kind, name, record_kinds}
use Rattle.format.specs.Build.{WithoutAll, longest_record, Built}
use Rattle.format.specs.Read.{refused, title, read_record}
use Rattle.format.specs.Files.{line_feed}
use Rattle.put.specs.declared.Written.{Written}
use Rattle.mail.specs.Mail.{lines_in, begins_line, ends_line, is_begins, folded, guarded, block_of, read_mail, PassedOver}
use Rattle.mail.proofs.write_mail.Reads as write-mail
use Rattle.mail.proofs.read_mail.Reads as read-mail
use Rattle.promises.specs.Calls.{Holds}

-- ---- writing

-- rows as they are folded: 64 characters each, the last of what is left, and that is not empty
abbrev pub FoldedRows : List Bytes → Type 0
FoldedRows [] = Unit {0}
FoldedRows (r ∷ []) = (0 < length r) × (length r ≤ 64)
FoldedRows (r ∷ q ∷ rs) = (length r ≡ 64) × FoldedRows (q ∷ rs)

-- the call that writes was lent the record s and the output out, left it as out' and answered r
pub record WriteSaid (s out out' : Bytes) (r : Written) : Type 0 where
  pub own : (n i : ℕ) → read_record s ≡ refused n i → (r.no ≡ n) × (r.field ≡ i)
  pub short : (k : Kind) (fs : List Bytes) → Built record_kinds s k fs → length out < length (block_of (name k) s) → (r.no ≡ short_output) × (r.field ≡ 0)
  -- the block stands at the front, and every byte past it stays
  pub written : (k : Kind) (fs : List Bytes) → Built record_kinds s k fs → length (block_of (name k) s) ≤ length out
      → (r.no ≡ 0) × (r.len ≡ length (block_of (name k) s)) × (out' ≡ block_of (name k) s ++ drop (length (block_of (name k) s)) out)
  -- demand 1
  pub untouched : r.no ≢ 0 → (r.len ≡ 0) × (out' ≡ out)

-- ---- reading

-- no line is a BEGINS line
abbrev pub Unopened : List Bytes → Type 0
Unopened ls = (l : Bytes) → Memᴰ l ls → T (not (is_begins l))

-- the first BEGINS line of the text names t, and these lines stand after it
pub record Opened (text t : Bytes) (after : List Bytes) : Type 0 where
  pub before : List Bytes
  pub unopened : Unopened before
  pub ident : T (is_ident t)
  pub lines : lines_in text ≡ before ++ begins_line t ∷ after

-- no line is the ENDS line of t
abbrev pub Unended : Bytes → List Bytes → Type 0
Unended t ls = (l : Bytes) → Memᴰ l ls → l ≢ ends_line t

-- and the first ENDS line of t stands behind these rows
pub record Closed (text t : Bytes) (rows : List Bytes) : Type 0 where
  pub rest : List Bytes
  pub unended : Unended t rows
  pub lines : Opened text t (rows ++ ends_line t ∷ rest)

-- the call that reads was lent the text and the output out, left it as out' and answered r
pub record ReadSaid (text out out' : Bytes) (r : Written) : Type 0 where
  -- 21 exactly where there is no BEGINS line
  pub unopened : (r.no ≡ missing_begins) ↔ Unopened (lines_in text)
  -- 22 exactly where no ENDS line behind the first BEGINS line matches it
  pub unclosed : (r.no ≡ missing_ends) ↔ ((t : Bytes) × (after : List Bytes) × Opened text t after × Unended t after)
  -- 0 exactly where the rows joined are a record of the kind that the BEGINS line names, and there is room for it
  pub exactly : (r.no ≡ 0)
      ↔ ((k : Kind) × (fs : List Bytes) × (rows : List Bytes) × Closed text (name k) rows × Built record_kinds (flatten rows) k fs × (length (flatten rows) ≤ length out))
  -- then they stand at the front, and every byte past them stays
  pub written : (t : Bytes) (rows : List Bytes) → Closed text t rows → r.no ≡ 0 → (r.len ≡ length (flatten rows)) × (out' ≡ flatten rows ++ drop (length (flatten rows)) out)
  -- 1 counts the bytes after unfolding
  pub too_long : (t : Bytes) (rows : List Bytes) → Closed text t rows → longest_record < length (flatten rows) → (r.no ≡ too_long) × (r.field ≡ 0)
  -- 2 where another kind is named than the record's own
  pub other : (t : Bytes) (rows : List Bytes) → Closed text t rows → length (flatten rows) ≤ longest_record → t ≢ title (flatten rows) → (r.no ≡ unknown_kind) × (r.field ≡ 0)
  -- and else the record's own refusals, with their field's number, then 10
  pub own : (rows : List Bytes) → Closed text (title (flatten rows)) rows → (n i : ℕ) → read_record (flatten rows) ≡ refused n i → (r.no ≡ n) × (r.field ≡ i)
  pub short : (k : Kind) (fs rows : List Bytes) → Closed text (name k) rows → Built record_kinds (flatten rows) k fs → length out < length (flatten rows)
      → (r.no ≡ short_output) × (r.field ≡ 0)
  -- demand 1
  pub untouched : r.no ≢ 0 → (r.len ≡ 0) × (out' ≡ out)

-- every call that is lent this text, and room for s, answers s
abbrev pub ReadAs : Bytes → Bytes → Type 0
ReadAs text s =
    Holds read-mail.Post
    (λ κs a r o. a.0.now ≡ text → length s ≤ length a.1.0.now
    → (r.no ≡ 0) × (r.len ≡ length s) × (o.1.0.now ≡ s ++ drop (length s) a.1.0.now))

pub record Mail : Type 0 where
  pub written : Holds write-mail.Post (λ κs a r s. WriteSaid a.0.now a.1.0.now s.1.0.now r)
  pub read : Holds read-mail.Post (λ κs a r s. ReadSaid a.0.now a.1.0.now s.1.0.now r)
  -- what a block has: the record folded between its guards, and so many bytes, 1,080 at the most
  pub folding : (s : Bytes) → FoldedRows (folded s) × (flatten (folded s) ≡ s)
  pub block-length : (t s : Bytes) → length (block_of t s) ≡ 30 + 2 * length t + length s + (length s + 63) / 64
  pub enough : (k : Kind) (fs : List Bytes) (s : Bytes) → Built record_kinds s k fs → length (block_of (name k) s) ≤ 1080
  -- the request's promise: what a call wrote is read back, after any text that is passed over, whatever follows
  pub back : Holds write-mail.Post
      (λ κs a r s. r.no ≡ 0 → (before after : Bytes) → PassedOver before → ReadAs (before ++ (take r.len s.1.0.now ++ after)) a.0.now)
  -- such a text before any other changes no answer
  pub passed : (before text : Bytes) (room : ℕ) → PassedOver before → read_mail (before ++ text) room ≡ read_mail text room
  -- any folding is read: rows of any length, of which none is the ENDS line, give what the folded record gives
  pub any_rows : (k : Kind) (fs : List Bytes) (s : Bytes) → Built record_kinds s k fs → (rows : List Bytes) → WithoutAll line_feed rows → Unended (name k) rows → flatten rows ≡ s
      → (after : Bytes) (room : ℕ) → read_mail (guarded (name k) rows ++ after) room ≡ read_mail (block_of (name k) s) room
