-- The block is written piece after piece: the rows in a loop, and the guards around them; its length; and the ways of the call that writes.
-- Assumes nothing.
use Prim.Native.Nat.{ℕ, zero, suc, ◌+◌, ◌*◌, ◌/◌, ◌≤◌, ◌<◌}
use mathlib.Core.Path.{◌≡◌, refl, sym, ap, ◌∙◌}
use mathlib.Core.List.{[], ◌∷◌, ◌++◌, append_assoc}
use native.Mathlib.Omega.{arith}
use lib.ListN.{length, take, drop, length-append, length-drop, drop_of_length-le, take-append-drop}
use lib.Seq.{take_all, take_at, drop_at}
use Rattle.std.specs.Prelude.{min}
use Rattle.text.specs.Text.{Bytes, ascii}
use Rattle.text.proofs.Tests.{less_or}
use Rattle.format.specs.Files.{line_feed}
use Rattle.format.proofs.Parts.{joined_append}
use Rattle.put.specs.Put.{Puts, Put}
use Rattle.put.proofs.Pieces.{put_of, put_length, put_as, put_then}
use Rattle.put.proofs.Underway.{Underway, has_room, go_on}
use Rattle.put.specs.Made.{denied, says, Writes}
use Rattle.put.specs.declared.Written.{Written}
use Rattle.numbers.specs.Numbers.{short_output}
use Rattle.format.specs.Kinds.{name, record_kinds}
use Rattle.format.specs.Build.{joined, Built}
use Rattle.format.specs.Read.{title, read_record}
use Rattle.format.proofs.Exactly.{record_says, its_title, built_length}
use Rattle.table.proofs.Names.{name_short}
use Rattle.reading.specs.Reading.{answer_of}
use Rattle.reading.specs.declared.Answer.{Answer}
use Rattle.reading.proofs.Answers.{Taken, taken}
use Rattle.given.proofs.Given.{given_refused, given_short, given_put}
use Rattle.mail.specs.Mail.{guard, begins_line, ends_line, rows, folded, block_of, write_mail}
use Rattle.mail.proofs.Folding.{enough}
use Rattle.mail.proofs.Guards.{guard_length}

-- ---- the rows

abbrev pub rows_of : Bytes → Bytes
rows_of s = joined line_feed (folded s)

-- the first row, and the rows of what is left
folded_more : (s : Bytes) → 0 < length s → folded s ≡ take 64 s ∷ folded (drop 64 s)
unfolding rows
folded_more s h =
    let e : (length s + 63) / 64 ≡ suc ((length (drop 64 s) + 63) / 64) = omega (arith, length-drop 64 s) in
    ap (λ (n : ℕ). rows n s) e

-- the row r that comes off the front of s, and what it leaves
module _ (s r rest : Bytes) (parts : s ≡ r ++ rest) (size : length r ≡ min 64 (length s)) (some : 0 < length s) where
  row_is : (r ≡ take 64 s) × (rest ≡ drop 64 s)
  row_is =
      less_or 64 (length s)
      (λ l. (
        sym (ap (take 64) parts ∙ take_at r rest 64 (omega (arith, size))),
        sym (ap (drop 64) parts ∙ drop_at r rest 64 (omega (arith, size))),
      ))
      (λ l. (
        sym (ap (take (length r)) parts ∙ take_at r rest (length r) refl) ∙ take_all (length r) s (omega (arith, size)) ∙ sym (take_all 64 s l),
        sym (ap (drop (length r)) parts ∙ drop_at r rest (length r) refl) ∙ drop_of_length-le s {i = length r} (omega (arith, size)) ∙ sym (drop_of_length-le s {i = 64} l),
      ))

  rows_more : rows_of s ≡ (r ++ line_feed ∷ []) ++ rows_of rest
  rows_more =
      rw (row_is.0, row_is.1) (ap (joined line_feed) (folded_more s some) ∙ sym (append_assoc (take 64 s) (line_feed ∷ []) (rows_of (drop 64 s))))

  pub row_put : {o v out out' out'' : Bytes} {k at at' at'' : ℕ} → Underway o k v (rows_of s) out at → Puts out at r out' at' → Puts out' at' (line_feed ∷ []) out'' at''
      → Underway o k v (rows_of rest) out'' at''
  row_put u p q =
      let room = has_room u (r ++ line_feed ∷ []) (rows_of rest) rows_more in
      let first = put_of (omega (arith, room, length-append r (line_feed ∷ []))) p in
      let second = put_of (omega (arith, room, length-append r (line_feed ∷ []), first.next, put_length first)) q in
      go_on u (r ++ line_feed ∷ []) (rows_of rest) rows_more (put_then first second)

pub rows_none : (s : Bytes) → length s ≡ 0 → rows_of s ≡ []
unfolding rows
rows_none [] h = refl
rows_none (c ∷ s) h = absurd (omega arith)

rows_length : (m n : ℕ) (s : Bytes) → length s ≤ 64 * n → length (joined m (rows n s)) ≡ length s + n
unfolding rows
rows_length m zero s h = omega arith
rows_length m (suc n) s h =
    let whole = ap length (take-append-drop 64 s) in
    omega (arith, rows_length m n (drop 64 s) (omega (arith, length-drop 64 s)), length-append (take 64 s) (m ∷ joined m (rows n (drop 64 s))), length-append (take 64 s) (drop 64 s), whole)

-- ---- the guards

module _ (word t : Bytes) where
  pub guard_put : {o a b c d : Bytes} {k l m n p : ℕ} → k + length (guard word t) + 1 ≤ length o
      → Puts o k (ascii "--STS:") a l → Puts a l t b m → Puts b m word c n → Puts c n (line_feed ∷ []) d p
      → Put o k (guard word t ++ line_feed ∷ []) d p
  guard_put h p₁ p₂ p₃ p₄ =
      let q₁ = put_of (omega (arith, guard_length word t)) p₁ in
      let q₂ = put_of (omega (arith, guard_length word t, q₁.next, put_length q₁)) p₂ in
      let q₃ = put_of (omega (arith, guard_length word t, q₁.next, put_length q₁, q₂.next, put_length q₂)) p₃ in
      let q₄ = put_of (omega (arith, guard_length word t, q₁.next, put_length q₁, q₂.next, put_length q₂, q₃.next, put_length q₃)) p₄ in
      put_then (put_as (append_assoc (ascii "--STS:") t word) (put_then (put_then q₁ q₂) q₃)) q₄

-- ---- the whole

module _ (t s : Bytes) where
  pub block_pieces : (begins_line t ++ line_feed ∷ []) ++ rows_of s ++ (ends_line t ++ line_feed ∷ []) ≡ block_of t s
  unfolding block_of
  block_pieces =
      append_assoc (begins_line t ++ line_feed ∷ []) (rows_of s) (ends_line t ++ line_feed ∷ [])
      ∙ append_assoc (begins_line t) (line_feed ∷ []) (rows_of s ++ (ends_line t ++ line_feed ∷ []))
      ∙ ap (λ (r : Bytes). begins_line t ++ line_feed ∷ r) (sym (joined_append line_feed (folded s) (ends_line t ∷ [])))

  -- the room that each piece takes
  pub block_room : length (block_of t s) ≡ length (begins_line t) + 1 + length (rows_of s) + (length (ends_line t) + 1)
  block_room =
      ap length (sym block_pieces)
      ∙ length-append ((begins_line t ++ line_feed ∷ []) ++ rows_of s) (ends_line t ++ line_feed ∷ [])
      ∙ omega (arith, length-append (begins_line t ++ line_feed ∷ []) (rows_of s), length-append (begins_line t) (line_feed ∷ []), length-append (ends_line t) (line_feed ∷ []))

  pub block-length : length (block_of t s) ≡ 30 + 2 * length t + length s + (length s + 63) / 64
  block-length =
      block_room
      ∙ omega (arith, guard_length (ascii " BEGINS--") t, guard_length (ascii " ENDS--") t, rows_length line_feed ((length s + 63) / 64) s (enough s).0)

-- ---- the call: a is the record call's answer to s, and t what stands before its first mark

module _ (s : Bytes) {a : Answer} (own : a ≡ answer_of (read_record s)) where
  pub write_refused : (a.no ≡ 0 → ⊥) → (out : Bytes) (w : Written) → w ≡ says (denied a.no a.field) → Writes (write_mail s (length out)) out out w
  unfolding write_mail
  write_refused = given_refused (λ k fs. block_of (name k) s) (read_record s) own

  module _ (z : a.no ≡ 0) {t : Bytes} (titled : t ≡ title s) where
    read : Taken (Built record_kinds s) (read_record s) a.kind
    read = taken (Built record_kinds s) (read_record s) a (record_says s) own z

    its_name : t ≡ name read.kind
    its_name = titled ∙ its_title read.holds

    pub short : (length t ≤ 32) × (length s ≤ 1024)
    short = (
      omega (arith, ap length its_name, name_short read.kind),
      omega (arith, ap length read.holds.built, built_length read.kind read.fields read.holds.permitted),
    )

    pub write_short : (out : Bytes) (w : Written) → length out < length (block_of t s) → w ≡ says (denied short_output 0) → Writes (write_mail s (length out)) out out w
    unfolding write_mail
    write_short out w h = given_short (λ k fs. block_of (name k) s) read.is out w (rw its_name at h)

    pub write_said : {out out' : Bytes} {n : ℕ} → Put out 0 (block_of t s) out' n → Writes (write_mail s (length out)) out out' (record { no = 0; field = 0; len = n })
    unfolding write_mail
    write_said p = given_put (λ k fs. block_of (name k) s) read.is (rw its_name at p)
