-- What is found in a text: rows of any length between guards are joined whatever stands behind them, a text without a BEGINS line before them is passed
-- over, and so a block is found as it was written.
-- Assumes nothing.
use Prim.Native.Nat.{ℕ}
use Prim.Native.Char.{code}
use mathlib.Core.Path.{◌≡◌, refl, sym, ap, ◌∙◌}
use mathlib.Core.Logic.{◌≢◌}
use mathlib.Core.Bool.{Bool, true, false, not, cond}
use mathlib.Core.List.{List, [], ◌∷◌, ◌++◌, flatten, append_assoc, append-nil, Memᴰ}
use lib.Dec.{T}
use Rattle.text.specs.Text.{Bytes, ascii, same, without, is_ident}
use Rattle.text.proofs.Tests.{T_true, T_false, same_true, same_false}
use Rattle.numbers.specs.Numbers.{missing_begins, missing_ends}
use Rattle.format.specs.Build.{WithoutAll}
use Rattle.format.specs.Read.{last_or}
use Rattle.format.specs.Files.{line_feed}
use Rattle.format.proofs.Table.{All}
use Rattle.format.proofs.Parts.{cut_parts, cut_append}
use Rattle.mail.specs.Mail.{lines_in, begins_line, ends_line, rectype_in, is_begins, folded, guarded, block_of, Found, block, missing, closed, opened, read_found, read_mail, PassedOver}
use Rattle.mail.proofs.Folding.{flat_folded, folded_without, folded_rows}
use Rattle.mail.proofs.Guards.{begins_rectype, begins_is, guard_without, rows_no_guard}

-- ---- among lines

pub opened_past : (ls rest : List Bytes) → ((l : Bytes) → Memᴰ l ls → T (not (is_begins l))) → opened (ls ++ rest) ≡ opened rest
opened_past [] rest h = refl
opened_past (l ∷ ls) rest h = rw (T_false (is_begins l) (h l (Memᴰ.head refl))) (opened_past ls rest (λ m i. h m (Memᴰ.tail i)))

pub closed_rows : (t front : Bytes) (rs rest : List Bytes) → All (λ r. r ≢ ends_line t) rs → closed t front (rs ++ ends_line t ∷ rest) ≡ block t (front ++ flatten rs)
unfolding flatten
closed_rows t front [] rest h = rw (same_true (ends_line t) (ends_line t) refl) (ap (block t) (sym (append-nil front)))
closed_rows t front (r ∷ rs) rest h =
    rw (same_false r (ends_line t) h.0) (closed_rows t (front ++ r) rs rest h.1 ∙ ap (block t) (append_assoc front r (flatten rs)))

-- what is found is one of three
module _ (P : Found → Type 0) (there : (t s : Bytes) → P (block t s)) (nowhere : P (missing missing_ends)) where
  closed_found : (t front : Bytes) (ls : List Bytes) → P (closed t front ls)
  closed_found t front [] = nowhere
  closed_found t front (l ∷ ls) = go (same l (ends_line t)) (closed_found t (front ++ l) ls)
    where
      go : (b : Bool) → P (closed t (front ++ l) ls) → P (cond b (block t front) (closed t (front ++ l) ls))
      go true more = there t front
      go false more = more

  pub opened_found : P (missing missing_begins) → (ls : List Bytes) → P (opened ls)
  opened_found none [] = none
  opened_found none (l ∷ ls) = go (is_begins l) (opened_found none ls)
    where
      go : (b : Bool) → P (opened ls) → P (cond b (closed (rectype_in l) [] ls) (opened ls))
      go true more = closed_found (rectype_in l) [] ls
      go false more = more

without_append : (m : ℕ) (rs ls : List Bytes) → WithoutAll m rs → WithoutAll m ls → WithoutAll m (rs ++ ls)
without_append m [] ls h k = k
without_append m (r ∷ rs) ls h k = (h.0, without_append m rs ls h.1 k)

-- ---- rows of any length between guards of any IDENT, where no row is the ENDS line

pub rows_found : (t : Bytes) (rs : List Bytes) → T (is_ident t) → WithoutAll line_feed rs → All (λ r. r ≢ ends_line t) rs
    → (after : Bytes) → opened (lines_in (guarded t rs ++ after)) ≡ block t (flatten rs)
rows_found t rs ident feedless endless after =
    let lines : lines_in (guarded t rs ++ after) ≡ begins_line t ∷ rs ++ ends_line t ∷ lines_in after =
    cut_parts line_feed (begins_line t ∷ rs ++ ends_line t ∷ []) after (
      guard_without (ascii " BEGINS--") t tt ident,
      without_append line_feed rs (ends_line t ∷ []) feedless (guard_without (ascii " ENDS--") t tt ident, tt),
    )
    ∙ ap (λ (ls : List Bytes). begins_line t ∷ ls) (append_assoc rs (ends_line t ∷ []) (lines_in after)) in
    rw (lines, T_true (is_begins (begins_line t)) (begins_is t ident), begins_rectype) (closed_rows t [] rs (lines_in after) endless)

-- ---- so a block, of any bytes that have no line feed and do not end with a hyphen, is found

pub block_found : (t s : Bytes) → T (is_ident t) → T (without line_feed s) → (last_or 0 s ≡ code "-" → ⊥) → (after : Bytes)
    → opened (lines_in (block_of t s ++ after)) ≡ block t s
unfolding block_of
block_found t s ident feedless hyphenless after =
    rows_found t (folded s) ident (folded_without line_feed s feedless) (rows_no_guard t (last_or 0 s) ident hyphenless (folded s) (folded_rows s)) after
    ∙ ap (block t) (flat_folded s)

-- ---- what stands before is passed over, whatever follows

pub before_passed : (before text : Bytes) (room : ℕ) → PassedOver before → read_mail (before ++ text) room ≡ read_mail text room
unfolding read_mail
before_passed before text room h =
    ap (λ (ls : List Bytes). read_found room (opened ls)) (cut_append line_feed line_feed before text h.ended)
    ∙ ap (read_found room) (opened_past (lines_in before) (lines_in text) h.unopened)
