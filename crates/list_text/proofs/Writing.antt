-- The list while it is written: the lines before a place stand at the front of the output, and there is room for the others.
-- Assumes nothing.
use Prim.Native.Nat.{ℕ, ◌+◌, ◌*◌, ◌≤◌, ◌<◌}
use mathlib.Core.Path.{◌≡◌, refl, sym, ap, ◌∙◌}
use mathlib.Core.List.{[], ◌++◌, append_assoc, append-nil}
use native.Mathlib.Numerals.{add-one}
use native.Mathlib.Omega.{arith}
use lib.ListN.{length, drop, length-append, length-take, length-drop}
use borrow.Author.Tests.{le-leb}
use Rattle.text.specs.Text.{Bytes}
use Rattle.format.specs.Read.{answer, read_record}
use Rattle.format.specs.Files.{Line, Said, finished, read, line_feed, up_to, line_at, walk}
use Rattle.format.proofs.Lines.{take_up_to, at_end, at_line, at_unfinished, by_place, rest, rest_walk, rest_end, rest_step}
use Rattle.reading.specs.Reading.{answer_of}
use Rattle.reading.proofs.Answers.{told}
use Rattle.files.specs.declared.Totals.{Totals}
use Rattle.files.specs.Walk.{line_said, start_of, totals_of}
use Rattle.files.specs.declared.Line.TheVariants.{Finished, Read}
use Rattle.files.proofs.Answers.{finished_only, starts_here}
use Rattle.files.proofs.Counting.{Counted, Told, counted_none, counted_all, told_beyond, told_inside}
use Rattle.put.specs.Put.{Put}
use Rattle.put.proofs.Pieces.{put_none, put_as, put_then, put_length}
use Rattle.list_text.specs.Listing.{line_text, end_text, line_texts, most, list_text, list_room}
use Rattle.list_text.proofs.Lengths.{line_length, end_length}

-- ---- a line that was read

-- no line is longer than the file
size_inside : (file : Bytes) (place : ℕ) (l : Line) → line_at file place ≡ read l → l.size ≤ length file
size_inside file place l e = let h : Small (read l) = rw e at small in h
  where
    Small : Said → Type 0
    Small (finished p) = Unit {0}
    Small (read k) = k.size ≤ length file

    up_inside : (s : Bytes) → length (up_to line_feed s) ≤ length s
    up_inside s = omega (arith, ap length (take_up_to line_feed s), length-take (length (up_to line_feed s)) s)

    small : Small (line_at file place)
    small =
        by_place file place (λ h. rw (at_end read_record file place h) tt)
        (λ x f h. rw (at_line read_record file place x f h) (omega arith))
        (λ x f b h. rw (at_unfinished read_record file place x f b h) (omega (arith, up_inside (drop place file), length-drop place file)))

module _ {file : Bytes} {place n f k start size next : ℕ} (t : Told read_record file place n next) (q : Read n f k start size next ≡ line_said (line_at file place)) where
  said_so : Read n f k start size next ≡ line_said (read t.line)
  said_so = q ∙ ap line_said t.is

  its_start : start ≡ t.line.start
  its_start = let e = said_so in cc

  its_size : size ≡ t.line.size
  its_size = let e = said_so in cc

  its_answer : n ≡ answer t.line.said
  its_answer =
      let e = said_so in
      let its_no : n ≡ (answer_of t.line.said).no = cc in
      its_no ∙ (told t.line.said (answer_of t.line.said) refl).0

-- ---- the list while it is written

-- the list of a file by its totals
pub list_lines : (file : Bytes) (t : Totals) → length file ≤ most → t ≡ totals_of (walk file)
    → list_text file ≡ line_texts 0 (walk file) ++ end_text t.lines t.accepted
unfolding list_text
list_lines file t h e = rw (le-leb (length file) most h, e)

-- of the file's lines those before the place, so many with so many accepted ones, stand in the output up to `at`
pub record Listed (file o : Bytes) (lines accepted place at : ℕ) (out : Bytes) : Type 0 where
  pub done : Bytes
  pub written : Put o 0 done out at
  pub counted : Counted read_record file lines accepted place
  pub all : line_texts 0 (walk file) ≡ done ++ line_texts lines (rest read_record file place)
  pub short : length done ≤ lines * 22

pub listed_none : (file o : Bytes) → Listed file o 0 0 0 0 o
listed_none file o =
    record { done = []; written = put_none (omega arith); counted = counted_none read_record file; all = rw (rest_walk read_record file) refl; short = omega arith }

module _ {file o out : Bytes} {lines accepted place at : ℕ} (l : Listed file o lines accepted place at out) (small : length file ≤ most) (room : list_room ≤ length o) where
  pub room_end : at + length (end_text lines accepted) ≤ length out
  room_end =
      let c = l.counted in
      omega (arith, l.written.next, put_length l.written, l.short, c.few, c.fewer, c.inside, end_length lines accepted (omega arith) (omega arith))

  pub listed_all : {out' : Bytes} {r : ℕ} (p : ℕ) → Finished p ≡ line_said (line_at file place) → Put out at (end_text lines accepted) out' r
      → Put o 0 (list_text file) out' r
  unfolding line_texts
  listed_all p q w =
      let none : rest read_record file place ≡ [] = rest_end read_record file place (finished_only read_record file place (sym q ∙ ap Finished (ap start_of q ∙ starts_here read_record file place))) in
      let lines-done : line_texts 0 (walk file) ≡ l.done = l.all ∙ rw none (append-nil l.done) in
      put_as (sym (list_lines file (record { lines = lines; accepted = accepted }) small (counted_all l.counted p q) ∙ rw lines-done)) (put_then l.written w)

  module _ {n f k start size next : ℕ} (t : Told read_record file place n next) (q : Read n f k start size next ≡ line_said (line_at file place)) (byte : n < 256) where
    line_short : length (line_text (lines + 1) start size n) ≤ 22
    line_short =
        let c = l.counted in
        line_length (lines + 1) start size n (omega (arith, c.few, told_beyond t, told_inside t)) (omega (arith, ap start_of q, starts_here read_record file place, c.inside))
        (omega (arith, its_size t q, size_inside file place t.line t.is)) byte

    pub room_line : at + length (line_text (lines + 1) start size n) ≤ length out
    room_line = omega (arith, l.written.next, put_length l.written, l.short, l.counted.few, told_beyond t, told_inside t, line_short)

    pub listed_on : {out' : Bytes} {a r : ℕ} → Counted read_record file (lines + 1) a next → Put out at (line_text (lines + 1) start size n) out' r
        → Listed file o (lines + 1) a next r out'
    unfolding line_texts
    listed_on c w =
        record {
          done = l.done ++ line_text (lines + 1) start size n;
          written = put_then l.written w;
          counted = c;
          all = l.all ∙ one_more;
          short = omega (arith, length-append l.done (line_text (lines + 1) start size n), l.short, line_short);
        }
      where
        one_more : l.done ++ line_texts lines (rest read_record file place) ≡ (l.done ++ line_text (lines + 1) start size n) ++ line_texts (lines + 1) (rest read_record file next)
        one_more = rw (rest_step read_record file place t.line t.is, ← t.its_next, its_start t q, its_size t q, its_answer t q, add-one, append_assoc)
