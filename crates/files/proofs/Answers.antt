-- What the file call answers at a place, by the end of its line; the answer's values.
-- Assumes nothing.
use Prim.Native.Nat.{ℕ, ◌+◌, ◌-◌, ◌≤◌, ◌<◌}
use mathlib.Core.Path.{◌≡◌, refl, ap, sym, ◌∙◌}
use native.Mathlib.Omega.{arith}
use lib.ListN.{length, take, drop}
use borrow.Author.Tests.{le-leb, lt-leb}
use Rattle.text.specs.Text.{Bytes}
use Rattle.text.proofs.Tests.{less_or}
use Rattle.format.specs.Read.{Outcome, answer}
use Rattle.format.specs.Files.{line_feed, Line, Said, read, line_at_over}
use Rattle.format.proofs.Lines.{Feed, at_end, at_line, at_unfinished, by_place, next_beyond}
use Rattle.frame.specs.Frame.{next_mark}
use Rattle.frame.proofs.Parts.{next_within}
use Rattle.reading.specs.declared.Answer.{Answer}
use Rattle.reading.specs.Reading.{answer_of}
use Rattle.reading.proofs.Answers.{told}
use Rattle.files.specs.Walk.{line_end, last_line, line_said, number_of, start_of, length_of, next_of}
use Rattle.files.specs.declared.Line.TheVariants.{Finished, Read}

module _ (call : Bytes → Outcome) (file : Bytes) (place : ℕ) where
  pub says_finished : length file ≤ place → Finished place ≡ line_said (line_at_over call file place)
  says_finished h = sym (ap line_said (at_end call file place h))

  feed : {e : ℕ} → e ≡ line_end file place → Feed file place e
  unfolding next_mark
  feed q = q

  -- no line feed follows
  pub says_last : length file ≤ line_end file place → last_line (length file) place ≡ line_said (line_at_over call file place)
  says_last h =
      less_or place (length file)
      (λ l.
      let size : line_end file place - place ≡ length file - place = omega (arith, next_within line_feed file place (omega arith)) in
      rw (lt-leb (length file) place l, at_unfinished call file place (line_end file place) (feed refl) l h, size))
      (λ l. rw (le-leb (length file) place l) (says_finished l))

  -- one does, and a is the call's answer for the line
  pub says_line : {e : ℕ} → e ≡ line_end file place → e < length file → (a : Answer) → a ≡ answer_of (call (take (e - place) (drop place file)))
      → Read a.no a.field a.kind place (e - place) (e + 1) ≡ line_said (line_at_over call file place)
  says_line {e} q h a r =
      ap (λ (x : Answer). Read x.no x.field x.kind place (e - place) (e + 1)) r ∙ sym (ap line_said (at_line call file place e (feed q) h))

-- ---- the answer's values: its start, and those of a finished file

module _ (call : Bytes → Outcome) (file : Bytes) (place : ℕ) where
  pub starts_here : start_of (line_said (line_at_over call file place)) ≡ place
  starts_here =
      by_place file place (λ h. rw (at_end call file place h)) (λ e f h. rw (at_line call file place e f h)) (λ e f l h. rw (at_unfinished call file place e f l h))

  pub number_said : (l : Line) → line_at_over call file place ≡ read l → number_of (line_said (line_at_over call file place)) ≡ answer l.said
  number_said l e = ap (λ (s : Said). number_of (line_said s)) e ∙ (told l.said (answer_of l.said) refl).0

  pub finished_values : length file ≤ place
      → (number_of (line_said (line_at_over call file place)) ≡ 0) × (length_of (line_said (line_at_over call file place)) ≡ 0) × (next_of (line_said (line_at_over call file place)) ≡ place)
  finished_values h = (rw (at_end call file place h), rw (at_end call file place h), rw (at_end call file place h))

  -- a line goes on to a place beyond
  beyond : (l : Line) → line_at_over call file place ≡ read l → line_said (line_at_over call file place) ≡ Finished place → ⊥
  beyond l q e = omega (arith, ap next_of (sym (ap line_said q) ∙ e), next_beyond call file place l q)

  pub finished_only : line_said (line_at_over call file place) ≡ Finished place → length file ≤ place
  finished_only e =
      by_place file place (λ h. h)
      (λ x f h. absurd (beyond _ (at_line call file place x f h) e))
      (λ x f l h. absurd (beyond _ (at_unfinished call file place x f l h) e))
