-- An accepted record is fit for mail: its kind's name is an IDENT, no line feed stands in it, and it ends with its check. So a block that was written is
-- read back.
-- Assumes nothing.
use Prim.Native.Nat.{ℕ, ◌≤◌}
use Prim.Native.Char.{code}
use mathlib.Core.Path.{◌≡◌, refl, sym, ap, ◌∙◌}
use mathlib.Core.Logic.{◌≢◌}
use mathlib.Core.Bool.{not}
use mathlib.Core.Option.{Option, none, some}
use mathlib.Core.List.{List, [], ◌∷◌, ◌++◌, map}
use native.Mathlib.Omega.{arith}
use lib.Dec.{T, eqb}
use lib.ListN.{length}
use borrow.Author.Tests.{le-leb}
use Rattle.crc16.specs.Crc.{crc_of}
use Rattle.text.specs.Text.{Bytes, all_of, without, hexadecimal, is_ident}
use Rattle.text.specs.Base16.{check_text}
use Rattle.text.proofs.Tests.{same_false}
use Rattle.text.proofs.Types.{hex_length, hex_characters}
use Rattle.text.proofs.Hexadecimal.{check_hex}
use Rattle.format.specs.Kinds.{Kind, name, mark, fields_of, record_kinds, among}
use Rattle.format.specs.Build.{longest_record, record_of, with_check, joined, IsIdentity, Permitted, Built}
use Rattle.numbers.specs.Numbers.{unknown_kind}
use Rattle.format.specs.Read.{accepted, refused, kind_in, title, mark_after, last_or, read_over, read_under, read_of, read_record}
use Rattle.format.specs.Files.{line_feed}
use Rattle.format.proofs.Table.{every_kind, all_among, absent}
use Rattle.format.proofs.Parts.{last_append, last_any, last_every, record_without}
use Rattle.format.proofs.Fields.{fields_clean}
use Rattle.format.proofs.Exactly.{identity_tame, record_exact, its_title}
use Rattle.table.specs.Table.{named}
use Rattle.table.proofs.Names.{named_some, named_among, kind_in_none}
use Rattle.put.specs.Made.{made}
use Rattle.given.specs.Given.{given}
use Rattle.given.proofs.Given.{given_made}
use Rattle.mail.specs.Mail.{PassedOver, block_of, alone, read_found, write_mail, read_mail}
use Rattle.mail.proofs.Blocks.{block_found, before_passed}

-- ---- of every kind, one computed test

pub name_ident : (k : Kind) → T (is_ident (name k))
unfolding is_ident
name_ident = every_kind (λ k. is_ident (name k)) tt

feed_absent : (k : Kind) → T (all_of (map (absent line_feed) (fields_of k)))
feed_absent = every_kind (λ k. all_of (map (absent line_feed) (fields_of k))) tt

mark_no_feed : (k : Kind) → T (not (eqb (mark k) line_feed))
mark_no_feed = every_kind (λ k. not (eqb (mark k) line_feed)) tt

-- ---- of a record

pub record_feedless : (k : Kind) (fs : List Bytes) → Permitted k fs → T (without line_feed (record_of k fs))
record_feedless k fs p =
    record_without line_feed tt k fs (mark_no_feed k) (fields_clean IsIdentity identity_tame line_feed (fields_of k) fs (feed_absent k) p.fit)

-- it ends with a character of its check
record_last : (k : Kind) (fs : List Bytes) → T (hexadecimal (last_or 0 (record_of k fs)))
unfolding record_of with_check
record_last k fs =
    let r : Bytes = joined (mark k) (name k ∷ fs) in
    let c : Bytes = check_text (crc_of r) in
    let hex = check_hex (crc_of r) in
    rw (last_append 0 r c, last_any (last_or 0 r) (code "0") c (omega (arith, hex_length 4 c hex)))
    (last_every hexadecimal (code "0") c tt (hex_characters 4 c hex))

record_hyphenless : (k : Kind) (fs : List Bytes) → last_or 0 (record_of k fs) ≡ code "-" → ⊥
record_hyphenless k fs e = let h : T (hexadecimal (code "-")) = rw e at (record_last k fs) in h

-- ---- of a record that is read as the kind of the name t

-- where t is what stands before its first mark, it is read as the record call reads it
kind_alone : (t : Bytes) (m : ℕ) → kind_in (alone (named record_kinds t)) t m ≡ kind_in record_kinds t m
kind_alone t m = go (named record_kinds t) refl
  where
    each : (k : Kind) → T (among k record_kinds) → kind_in (k ∷ []) (name k) m ≡ kind_in record_kinds (name k) m
    each = all_among (λ k. kind_in (k ∷ []) (name k) m ≡ kind_in record_kinds (name k) m) record_kinds (refl, (refl, (refl, (refl, (refl, tt)))))

    go : (o : Option Kind) → named record_kinds t ≡ o → kind_in (alone o) t m ≡ kind_in record_kinds t m
    go none n = sym (kind_in_none record_kinds t m n)
    go (some k) n = rw (named_some record_kinds t k n) (each k (named_among record_kinds t k n))

pub named_read : (s : Bytes) → read_of (alone (named record_kinds (title s))) s ≡ read_record s
unfolding read_record read_under read_over
named_read s = rw (kind_alone (title s) (mark_after s))

-- so a record of the kind that is named is accepted
pub built_read : {k : Kind} {fs : List Bytes} (s : Bytes) → Built record_kinds s k fs → read_of (alone (named record_kinds (name k))) s ≡ accepted k fs
built_read {k} {fs} s b = rw (its_title b) at (named_read s) ∙ (record_exact s k fs).1 b

-- and else it is of another kind
pub other_read : (t s : Bytes) → t ≢ title s → length s ≤ longest_record → read_of (alone (named record_kinds t)) s ≡ refused unknown_kind 0
unfolding read_under read_over
other_read t s n h = rw (le-leb (length s) longest_record h, none_in (named record_kinds t) refl)
  where
    none_in : (o : Option Kind) → named record_kinds t ≡ o → kind_in (alone o) (title s) (mark_after s) ≡ none
    none_in none e = refl
    none_in (some k) e = rw (same_false (title s) (name k) (λ q. n (named_some record_kinds t k e ∙ sym q)))

-- ---- the promise

pub block_read : {k : Kind} {fs : List Bytes} (s : Bytes) → Built record_kinds s k fs → (after : Bytes) (room : ℕ)
    → read_mail (block_of (name k) s ++ after) room ≡ given (λ j gs. s) room (accepted k fs)
unfolding read_mail
block_read {k} {fs} s b after room =
    ap (read_found room)
    (block_found (name k) s (name_ident k) (rw b.built (record_feedless k fs b.permitted)) (rw b.built (record_hyphenless k fs)) after)
    ∙ ap (given (λ j gs. s) room) (built_read s b)

-- reading a block that was written gives the same record, after any text that may stand before it, whatever follows
pub mail_back : (s block before after : Bytes) (wide room : ℕ) → write_mail s wide ≡ made block → PassedOver before → length s ≤ room
    → read_mail (before ++ (block ++ after)) room ≡ made s
unfolding write_mail
mail_back s block before after wide room e h l =
    let (k, fs, r, b, fits) = given_made (λ k fs. block_of (name k) s) wide (read_record s) block e in
    rw b (before_passed before (block_of (name k) s ++ after) room h ∙ block_read s ((record_exact s k fs).0 r) after room ∙ rw (le-leb (length s) room l))
