-- The promises about records by mail, from the laws of mail.
-- Assumes nothing.
use Prim.Native.Nat.{ℕ, zero, suc, ◌≤◌, ◌<◌}
use mathlib.Core.Path.{◌≡◌, refl, sym, ap, ◌∙◌, subst}
use mathlib.Core.Logic.{◌↔◌, ◌≢◌, ◌⊎◌, inl, inr, ⊎_elim}
use mathlib.Core.Bool.{not}
use mathlib.Core.List.Memᴰ
use mathlib.Core.List.{List, [], ◌∷◌, ◌++◌, flatten, append-nil, Memᴰ}
use native.Mathlib.Omega.{arith}
use lib.ListN.{length, take, drop}
use lib.Seq.{length-take-le, take_all, take-append_seam}
use lib.Dec.{T, T_not}
use mir.Facts.{and_yes}
use borrow.Author.Tests.{le-leb, lt-leb}
use Rattle.text.specs.Text.{Bytes, same, one_of, is_ident}
use Rattle.text.proofs.Tests.{by_test, T_true, true_T, same→eq, same_true, same_false}
use Rattle.numbers.specs.Numbers.{too_long, unknown_kind, missing_begins, missing_ends}
use Rattle.format.specs.Kinds.{Kind, KEY, name, record_kinds, key_kinds, among}
use Rattle.format.specs.Build.{WithoutAll, longest_record, Built}
use Rattle.format.specs.Read.{Outcome, accepted, refused, title, read_over, read_under, read_of, read_record}
use Rattle.format.specs.Files.{line_feed}
use Rattle.format.proofs.Table.{All, among_one}
use Rattle.format.proofs.Outcomes.{never, Numbered, honest_map}
use Rattle.format.proofs.Exactly.{read_exact, record_exact, read_says, record_says, its_title, built_length, built_shorter}
use Rattle.table.specs.Table.{named}
use Rattle.table.proofs.Names.{name_short}
use Rattle.put.specs.Made.{made, Writes}
use Rattle.put.specs.declared.Written.{Written}
use Rattle.given.specs.Given.{given}
use Rattle.given.proofs.Given.{made_said, said_own, said_short, said_whole, said_zero, refusal_leaves}
use Rattle.mail.specs.Mail.{lines_in, begins_line, ends_line, rectype_in, is_begins, rows, guarded, block_of, Found, block, missing, closed, opened, alone, read_found, write_mail, read_mail}
use Rattle.mail.proofs.Folding.{Enough, enough, fewer, flat_folded}
use Rattle.mail.proofs.Guards.{begins_rectype, begins_is}
use Rattle.mail.proofs.Blocks.{opened_past, closed_rows, rows_found, before_passed}
use Rattle.mail.proofs.Records.{name_ident, named_read, built_read, other_read, block_read, mail_back}
use Rattle.mail.proofs.Writing.{block-length}
use Rattle.promises.proofs.Statements.Refusals.{of_records}
use Rattle.promises.proofs.Statements.Mail.{FoldedRows, WriteSaid, Unopened, Opened, Unended, Closed, ReadSaid, Mail}
use Rattle.promises.proofs.Answered.{given_answered}
use Rattle.promises.proofs.Refusals.{read_given, further}

-- ---- folding

rows_folded : (n : ℕ) (s : Bytes) → Enough n s → FoldedRows (rows n s)
unfolding rows
rows_folded zero s h = tt
rows_folded (suc zero) s h = let all = ap length (take_all 64 s (omega (arith, h.0))) in (omega (arith, all, h.1), omega (arith, all, h.0))
rows_folded (suc (suc n)) s h = let f = fewer n s h in (length-take-le 64 s (omega (arith, f.0)), rows_folded (suc n) (drop 64 s) f.1)

-- ---- writing

mail_written : (s out out' : Bytes) (r : Written) → Writes (write_mail s (length out)) out out' r → WriteSaid s out out' r
unfolding write_mail
mail_written s out out' r w = record {
  own = said_own (λ k fs. block_of (name k) s) w;
  short = λ k fs b. said_short (λ k fs. block_of (name k) s) w ((record_exact s k fs).1 b);
  written = λ k fs b. said_whole (λ k fs. block_of (name k) s) w ((record_exact s k fs).1 b);
  untouched = refusal_leaves (given (λ k fs. block_of (name k) s) (length out) (read_record s)) w;
}

at_most : (k : Kind) (fs : List Bytes) (s : Bytes) → Built record_kinds s k fs → length (block_of (name k) s) ≤ 1080
at_most k fs s b =
    by_test (among k key_kinds)
    (λ t.
    let five : length (name k) ≡ 5 = ap (λ (j : Kind). length (name j)) (among_one k KEY t) in
    omega (arith, five, block-length (name k) s, ap length b.built, built_length k fs b.permitted))
    (λ t. omega (arith, name_short k, block-length (name k) s, ap length b.built, built_shorter k fs t b.permitted))

-- ---- what is found in a text

unended_rows : (t : Bytes) (ls : List Bytes) → Unended t ls → All (λ l. l ≢ ends_line t) ls
unended_rows t [] h = tt
unended_rows t (l ∷ ls) h = (h l (Memᴰ.head refl), unended_rows t ls (λ m i. h m (Memᴰ.tail i)))

closed_never : (t front : Bytes) (ls : List Bytes) → All (λ l. l ≢ ends_line t) ls → closed t front ls ≡ missing missing_ends
closed_never t front [] h = refl
closed_never t front (l ∷ ls) h = rw (same_false l (ends_line t) h.0) (closed_never t (front ++ l) ls h.1)

module _ (text : Bytes) where
  found_unopened : Unopened (lines_in text) → opened (lines_in text) ≡ missing missing_begins
  found_unopened h = ap opened (sym (append-nil (lines_in text))) ∙ opened_past (lines_in text) [] h

  module _ (t : Bytes) where
    found_opened : (after : List Bytes) → Opened text t after → opened (lines_in text) ≡ closed t [] after
    found_opened after o =
        rw o.lines
        (opened_past o.before (begins_line t ∷ after) o.unopened
        ∙ rw (T_true (is_begins (begins_line t)) (begins_is t o.ident), begins_rectype))

    found_unended : (after : List Bytes) → Opened text t after → Unended t after → opened (lines_in text) ≡ missing missing_ends
    found_unended after o h = found_opened after o ∙ closed_never t [] after (unended_rows t after h)

    found_closed : (rs : List Bytes) → Closed text t rs → opened (lines_in text) ≡ block t (flatten rs)
    found_closed rs c = found_opened (rs ++ ends_line t ∷ c.rest) c.lines ∙ closed_rows t [] rs c.rest (unended_rows t rs c.unended)

-- ---- one of three

pub data Shape (text : Bytes) : Type 0 where
  nowhere : Unopened (lines_in text) → Shape text
  endless : (t : Bytes) (after : List Bytes) → Opened text t after → Unended t after → Shape text
  whole : (t : Bytes) (rs : List Bytes) → Closed text t rs → Shape text

-- lines of which the first BEGINS line is one
pub record Opening (ls : List Bytes) : Type 0 where
  pub before : List Bytes
  pub t : Bytes
  pub after : List Bytes
  pub unopened : Unopened before
  pub ident : T (is_ident t)
  pub lines : ls ≡ before ++ begins_line t ∷ after

-- and lines of which the first ENDS line of t is one
pub record Ending (t : Bytes) (ls : List Bytes) : Type 0 where
  pub rs : List Bytes
  pub rest : List Bytes
  pub unended : Unended t rs
  pub lines : ls ≡ rs ++ ends_line t ∷ rest

-- a line more in front
more : (P : Bytes → Type 0) (l : Bytes) {ls : List Bytes} → P l → ((m : Bytes) → Memᴰ m ls → P m) → (m : Bytes) → Memᴰ m (l ∷ ls) → P m
more P l here h m i = ⊎_elim (λ e. subst P (sym e) here) (h m) (Memᴰ.cases_cons i)

opening : (ls : List Bytes) → Unopened ls ⊎ Opening ls
unfolding is_begins
opening [] = inl (λ l i. absurd (Memᴰ.not-nil i))
opening (l ∷ ls) =
    by_test (is_begins l)
    (λ y.
    let (ident, is) = and_yes (is_ident (rectype_in l)) (same l (begins_line (rectype_in l))) y in
    inr (record {
      before = [];
      t = rectype_in l;
      after = ls;
      unopened = λ m i. absurd (Memᴰ.not-nil i);
      ident = ident;
      lines = ap (λ (m : Bytes). m ∷ ls) (same→eq l (begins_line (rectype_in l)) is);
    }))
    (λ n.
    ⊎_elim
    (λ h. inl (more (λ m. T (not (is_begins m))) l n h))
    (λ o.
    inr (record {
      before = l ∷ o.before;
      t = o.t;
      after = o.after;
      unopened = more (λ m. T (not (is_begins m))) l n o.unopened;
      ident = o.ident;
      lines = ap (λ (ms : List Bytes). l ∷ ms) o.lines;
    }))
    (opening ls))

ending : (t : Bytes) (ls : List Bytes) → Unended t ls ⊎ Ending t ls
ending t [] = inl (λ l i. absurd (Memᴰ.not-nil i))
ending t (l ∷ ls) =
    by_test (same l (ends_line t))
    (λ y. inr (record { rs = []; rest = ls; unended = λ m i. absurd (Memᴰ.not-nil i); lines = ap (λ (m : Bytes). m ∷ ls) (same→eq l (ends_line t) y) }))
    (λ n.
    let other : l ≢ ends_line t = λ e. T_not (same l (ends_line t)) n (true_T _ (same_true l (ends_line t) e)) in
    ⊎_elim
    (λ h. inl (more (λ m. m ≢ ends_line t) l other h))
    (λ o. inr (record { rs = l ∷ o.rs; rest = o.rest; unended = more (λ m. m ≢ ends_line t) l other o.unended; lines = ap (λ (ms : List Bytes). l ∷ ms) o.lines }))
    (ending t ls))

shape : (text : Bytes) → Shape text
shape text =
    ⊎_elim
    nowhere
    (λ o.
    let so : (after : List Bytes) → o.after ≡ after → Opened text o.t after = λ after e. record { before = o.before; unopened = o.unopened; ident = o.ident; lines = rw (← e) o.lines } in
    ⊎_elim
    (λ h. endless o.t o.after (so o.after refl) h)
    (λ c. whole o.t c.rs (record { rest = c.rest; unended = c.unended; lines = so (c.rs ++ ends_line o.t ∷ c.rest) c.lines }))
    (ending o.t o.after))
    (opening (lines_in text))

-- ---- reading

-- what is accepted as the kind that t names is a record of that kind
accepted_named : (t s : Bytes) (k : Kind) (fs : List Bytes) → read_of (alone (named record_kinds t)) s ≡ accepted k fs → Built record_kinds s k fs × (t ≡ name k)
accepted_named t s k fs e =
    by_test (same t (title s))
    (λ y.
    let is = same→eq t (title s) y in
    let b = (record_exact s k fs).0 (sym (named_read s) ∙ rw is at e) in
    (b, is ∙ its_title b))
    (λ n.
    let b = (read_exact (alone (named record_kinds t)) s k fs).0 e in
    let short : length s ≤ longest_record = omega (arith, ap length b.built, built_length k fs b.permitted) in
    absurd (never (sym (other_read t s (λ q. T_not (same t (title s)) n (true_T _ (same_true t (title s) q))) short) ∙ e)))

long_read : (ks : List Kind) (s : Bytes) → longest_record < length s → read_of ks s ≡ refused too_long 0
unfolding read_under read_over
long_read ks s h = rw (lt-leb (length s) longest_record h)

module _ (text out out' : Bytes) (r : Written) (w : Writes (read_mail text (length out)) out out' r) where
  found : (f : Found) → opened (lines_in text) ≡ f → Writes (read_found (length out) f) out out' r
  unfolding read_mail
  found f e = rw e at w

  is_missing : {n : ℕ} → opened (lines_in text) ≡ missing n → r.no ≡ n
  is_missing {n} e = ap (λ (x : Written). x.no) (found (missing n) e).said

  -- where a block is found
  module _ (t : Bytes) (rs : List Bytes) (c : Closed text t rs) where
    abbrev said : Outcome
    said = read_of (alone (named record_kinds t)) (flatten rs)

    its_record : Writes (given (λ k fs. flatten rs) (length out) said) out out' r
    its_record = found (block t (flatten rs)) (found_closed text t rs c)

    numbered : Numbered said
    numbered = honest_map (λ k fs b. tt) said (read_says (alone (named record_kinds t)) (flatten rs))

    one_of_its : T (one_of (10 ∷ of_records) r.no)
    one_of_its =
        rw its_record.said
        (given_answered (λ n i. T (one_of (10 ∷ of_records) n)) tt (λ k fs. flatten rs) (length out) said (further 10 of_records said (read_given (alone (named record_kinds t)) (flatten rs))) tt)

    its_built : r.no ≡ 0 → (k : Kind) × (fs : List Bytes) × Built record_kinds (flatten rs) k fs × (t ≡ name k) × (said ≡ accepted k fs) × (length (flatten rs) ≤ length out)
    its_built z =
        let (k, fs, e, fits) = said_zero (λ k fs. flatten rs) its_record numbered z in
        let (b, is) = accepted_named t (flatten rs) k fs e in
        (k, fs, b, is, e, fits)

  -- ---- the three ways

  when_unopened : (r.no ≡ missing_begins) ↔ Unopened (lines_in text)
  when_unopened = (λ z. go (shape text) z, λ h. is_missing (found_unopened text h))
    where
      go : Shape text → r.no ≡ missing_begins → Unopened (lines_in text)
      go (nowhere h) z = h
      go (endless t after o h) z = absurd (omega (arith, z, is_missing (found_unended text t after o h)))
      go (whole t rs c) z = absurd (rw z at (one_of_its t rs c))

  when_unclosed : (r.no ≡ missing_ends) ↔ ((t : Bytes) × (after : List Bytes) × Opened text t after × Unended t after)
  when_unclosed = (λ z. go (shape text) z, λ (t, after, o, h). is_missing (found_unended text t after o h))
    where
      go : Shape text → r.no ≡ missing_ends → (t : Bytes) × (after : List Bytes) × Opened text t after × Unended t after
      go (nowhere h) z = absurd (omega (arith, z, is_missing (found_unopened text h)))
      go (endless t after o h) z = (t, after, o, h)
      go (whole t rs c) z = absurd (rw z at (one_of_its t rs c))

  when_read : (r.no ≡ 0)
      ↔ ((k : Kind) × (fs : List Bytes) × (rs : List Bytes) × Closed text (name k) rs × Built record_kinds (flatten rs) k fs × (length (flatten rs) ≤ length out))
  when_read = (λ z. go (shape text) z, λ (k, fs, rs, c, b, fits). (said_whole (λ k fs. flatten rs) (its_record (name k) rs c) (built_read (flatten rs) b) fits).0)
    where
      go : Shape text → r.no ≡ 0
          → (k : Kind) × (fs : List Bytes) × (rs : List Bytes) × Closed text (name k) rs × Built record_kinds (flatten rs) k fs × (length (flatten rs) ≤ length out)
      go (nowhere h) z = absurd (omega (arith, z, is_missing (found_unopened text h)))
      go (endless t after o h) z = absurd (omega (arith, z, is_missing (found_unended text t after o h)))
      go (whole t rs c) z =
          let (k, fs, b, is, e, fits) = its_built t rs c z in
          (k, fs, rs, subst (λ (x : Bytes). Closed text x rs) is c, b, fits)

  mail_read : ReadSaid text out out' r
  mail_read = record {
    unopened = when_unopened;
    unclosed = when_unclosed;
    exactly = when_read;
    written = λ t rs c z.
        let (k, fs, b, is, e, fits) = its_built t rs c z in
        let whole = said_whole (λ k fs. flatten rs) (its_record t rs c) e fits in
        (whole.1, whole.2);
    too_long = λ t rs c h. said_own (λ k fs. flatten rs) (its_record t rs c) too_long 0 (long_read (alone (named record_kinds t)) (flatten rs) h);
    other = λ t rs c h n. said_own (λ k fs. flatten rs) (its_record t rs c) unknown_kind 0 (other_read t (flatten rs) n h);
    own = λ rs c n i e. said_own (λ k fs. flatten rs) (its_record (title (flatten rs)) rs c) n i (named_read (flatten rs) ∙ e);
    short = λ k fs rs c b. said_short (λ k fs. flatten rs) (its_record (name k) rs c) (built_read (flatten rs) b);
    untouched = refusal_leaves (read_mail text (length out)) w;
  }

-- ---- what was written is read back

-- the block that a call wrote
block-of : (s out out' : Bytes) (r : Written) → Writes (write_mail s (length out)) out out' r → r.no ≡ 0 → write_mail s (length out) ≡ made (take r.len out')
unfolding write_mail
block-of s out out' r w z = go (said_zero (λ k fs. block_of (name k) s) {o = read_record s} w (honest_map (λ k fs b. tt) (read_record s) (record_says s)) z)
  where
    go : (k : Kind) × (fs : List Bytes) × (read_record s ≡ accepted k fs) × (length (block_of (name k) s) ≤ length out) → write_mail s (length out) ≡ made (take r.len out')
    go (k, fs, e, fits) =
        let (accepts, len, left) = said_whole (λ k fs. block_of (name k) s) {o = read_record s} w e fits in
        let front : take r.len out' ≡ block_of (name k) s = ap (λ (n : ℕ). take n out') len ∙ ap (take (length (block_of (name k) s))) left ∙ take-append_seam (block_of (name k) s) _ in
        rw (e, le-leb (length (block_of (name k) s)) (length out) fits) (ap made (sym front))

-- rows of any length
any : (k : Kind) (fs : List Bytes) (s : Bytes) → Built record_kinds s k fs → (rs : List Bytes) → WithoutAll line_feed rs → Unended (name k) rs → flatten rs ≡ s
    → (after : Bytes) (room : ℕ) → read_mail (guarded (name k) rs ++ after) room ≡ read_mail (block_of (name k) s) room
unfolding read_mail
any k fs s b rs feedless unended e after room =
    let there = rows_found (name k) rs (name_ident k) feedless (unended_rows (name k) rs unended) after in
    let again : read_mail (block_of (name k) s ++ []) room ≡ given (λ j gs. s) room (accepted k fs) = block_read s b [] room in
    ap (read_found room) (there ∙ ap (block (name k)) e)
    ∙ ap (given (λ j gs. s) room) (built_read s b)
    ∙ sym again
    ∙ ap (λ (x : Bytes). read_mail x room) (append-nil (block_of (name k) s))

pub by_mail : Mail
by_mail = record {
  written = λ κs a r s w. mail_written _ _ _ r w;
  read = λ κs a r s w. mail_read _ _ _ r w;
  folding = λ s. (rows_folded _ s (enough s), flat_folded s);
  block-length = block-length;
  enough = at_most;
  back = λ κs a r s w z before after h κs' a' r' s' v e fits.
      made_said (ap (λ (x : Bytes). read_mail x (length a'.1.0.now)) e ∙ mail_back a.0.now _ before after _ (length a'.1.0.now) (block-of _ _ _ r w z) h fits) v;
  passed = before_passed;
  any_rows = any;
}
