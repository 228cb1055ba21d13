-- The promises about files, from the laws of format and files: what holds of a walk, whatever call is asked about the lines.
-- Assumes nothing.
use Prim.Native.Nat.{ℕ, ◌-◌}
use mathlib.Core.Path.{◌≡◌, refl, sym, ap}
use mathlib.Core.Logic.{◌↔◌}
use mathlib.Core.List.{List}
use native.Mathlib.Omega.{arith}
use lib.ListN.{length, take, drop}
use denote.Ref.{Bor}
use Rattle.text.specs.Text.{Bytes}
use Rattle.format.specs.Kinds.{Kind, record_kinds}
use Rattle.format.specs.Build.{Built}
use Rattle.format.specs.Read.{Outcome, accepted, read_record}
use Rattle.format.specs.Files.{line_feed, line_at_over, walk_over}
use Rattle.format.proofs.Outcomes.{NeverZero, honest_of}
use Rattle.format.proofs.Exactly.{record_exact}
use Rattle.format.proofs.Damage.{record_never_zero}
use Rattle.format.proofs.Lines.{take_up_to, at_line, at_unfinished, by_place, walk_lines, into_lines, next_beyond, next_inside}
use Rattle.reading.specs.Reading.{answer_of}
use Rattle.files.specs.Walk.{line_said, totals_of}
use Rattle.files.specs.declared.Line.{Line}
use Rattle.files.specs.declared.Totals.{Totals}
use Rattle.files.proofs.Answers.{says_finished, number_said, finished_only, starts_here, finished_values}
use Rattle.files.proofs.Stepping.{reader_walks, begin_same, step_same}
use Rattle.promises.proofs.Statements.Files.{line_from, LineExactly, Walked, Files}
use Rattle.promises.proofs.Reading.{exactly}

module _ (call : Bytes → Outcome) (IsLine : Bytes → Kind → List Bytes → Type 0) (exact : (l : Bytes) (k : Kind) (fs : List Bytes) → (call l ≡ accepted k fs) ↔ IsLine l k fs) (never-zero : NeverZero call) where
  line_exactly : (file : Bytes) (place : ℕ) → LineExactly IsLine file place (line_said (line_at_over call file place))
  line_exactly file place inside =
      by_place file place (λ h. absurd (omega arith))
      (λ e f h.
      let l : Bytes = line_from place file in
      let size : e - place ≡ length l = omega (arith, f) in
      let here = at_line call file place e f h in
      let same : take (e - place) (drop place file) ≡ l = rw size (take_up_to line_feed (drop place file)) in
      let honest = honest_of (IsLine l) (call l) (never-zero l) (λ k fs. (exact l k fs).0) in
      let zero = exactly (call l) (IsLine l) (exact l) honest (answer_of (call l)) refl in
      rw (here, same) (λ z. (zero.0 z, omega (arith, f)), λ b. zero.1 b.0))
      (λ e f l h. rw (at_unfinished call file place e f l h) (λ z. absurd (omega arith), λ b. absurd (omega (arith, f, b.1))))

  -- what the contracts of its two calls allow are the definitions' answers
  pub walked : (Says : Bor Bytes → ℕ → Line → Type 0) → ((lent : Bor Bytes) (place : ℕ) (r : Line) → Says lent place r → r ≡ line_said (line_at_over call lent.now place))
      → (Counts : Bor Bytes → Totals → Type 0) → ((lent : Bor Bytes) (r : Totals) → Counts lent r → r ≡ totals_of (walk_over call lent.now))
      → Walked call IsLine Says Counts
  walked Says says Counts counts = record {
    all_lines = walk_lines call;
    file_call = says;
    beyond = λ file place l e. (next_beyond call file place l e, next_inside call file place l e);
    number = number_said call;
    line_exactly = λ lent place r p. rw (says lent place r p) (line_exactly lent.now place);
    finished_exactly = λ file place. (finished_only call file place, λ h. sym (says_finished call file place h));
    starts = starts_here call;
    finished = finished_values call;
    totals = λ lent r p. (ap (λ (t : Totals). t.lines) (counts lent r p), ap (λ (t : Totals). t.accepted) (counts lent r p));
  }

pub files : Files
files = record {
  as_lines = into_lines;
  plain = walked read_record (Built record_kinds) record_exact record_never_zero _ (λ lent place r (κs, (s, p)). p) _ (λ lent r (κs, (s, p)). p);
  reader = reader_walks;
  one_new = begin_same;
  one_step = step_same;
}
