-- The totals of a file, whatever call is asked about its lines: what an answer tells of the line that was read, and one line more counted.
-- Assumes nothing.
use Prim.Native.Nat.{ℕ, zero, suc, ◌+◌, ◌-◌, ◌≤◌, ◌<◌}
use mathlib.Core.Path.{◌≡◌, refl, ap, ◌∙◌}
use mathlib.Core.List.{[], ◌∷◌}
use native.Mathlib.Omega.{arith}
use lib.ListN.{length, take, drop}
use Rattle.text.specs.Text.{Bytes}
use Rattle.format.specs.Read.{Outcome, accepted, refused}
use Rattle.format.specs.Files as files
use Rattle.format.specs.Files.{Said, finished, read, line_at_over, walk_over, one, accepted_lines}
use Rattle.format.proofs.Outcomes.{Numbered, NeverZero}
use Rattle.format.proofs.Lines.{at_end, at_line, at_unfinished, by_place, next_beyond, next_inside, rest, rest_walk, rest_onward, rest_step}
use Rattle.reading.specs.Reading.{answer_of}
use Rattle.files.specs.Walk.{line_said, totals_of}
use Rattle.files.specs.declared.Line.TheVariants.{Finished, Read}

-- the law of a form of files, as the laws of outcomes have it
pub never_zero : {call : Bytes → Outcome} → ((line : Bytes) (field : ℕ) → call line ≡ refused 0 field → ⊥) → NeverZero call
never_zero {call} law s = go (call s) (law s)
  where
    go : (o : Outcome) → ((field : ℕ) → o ≡ refused 0 field → ⊥) → Numbered o
    go (accepted k fs) h = tt
    go (refused zero i) h = h i refl
    go (refused (suc n) i) h = tt

-- ---- the number of a line: 0 is an accepted line's alone

abbrev Counts : ℕ → Outcome → Type 0
Counts n o = (n ≡ 0 → one o ≡ 1) × ((n ≡ 0 → ⊥) → one o ≡ 0)

number_counts : (o : Outcome) → Numbered o → Counts (answer_of o).no o
number_counts (accepted k fs) h = (λ e. refl, λ n. absurd (n refl))
number_counts (refused zero i) h = absurd h
number_counts (refused (suc n) i) h = (λ e. absurd (omega arith), λ n. refl)

abbrev SaidCounts : Said → Type 0
SaidCounts (finished p) = Unit {0}
SaidCounts (read l) = Counts (answer_of l.said).no l.said

-- a line was read at the place, with this number and this next place
pub record Told (call : Bytes → Outcome) (file : Bytes) (place n next : ℕ) : Type 0 where
  pub line : files.Line
  pub is : line_at_over call file place ≡ read line
  pub its_number : Counts n line.said
  pub its_next : next ≡ line.next

module _ (call : Bytes → Outcome) (never-zero : NeverZero call) (file : Bytes) (place : ℕ) where
  said_counts : SaidCounts (line_at_over call file place)
  said_counts =
      by_place file place (λ h. rw (at_end call file place h) tt)
      (λ e f h. let l = take (e - place) (drop place file) in rw (at_line call file place e f h) (number_counts (call l) (never-zero l)))
      (λ e f l h. rw (at_unfinished call file place e f l h) (λ z. absurd (omega arith), λ n. refl))

  pub told : (n f k start len next : ℕ) → Read n f k start len next ≡ line_said (line_at_over call file place) → Told call file place n next
  told n f k start len next = go (line_at_over call file place) refl said_counts
    where
      go : (s : Said) → line_at_over call file place ≡ s → SaidCounts s → Read n f k start len next ≡ line_said s → Told call file place n next
      go (finished p) e t r = absurd (let z : ◌≡◌ {A = ℕ} 0 1 = cc in omega arith)
      go (read l) e t r = record { line = l; is = e; its_number = rw (number r) t; its_next = cc }
        where
          number : Read n f k start len next ≡ line_said (read l) → n ≡ (answer_of l.said).no
          number h = cc

module _ {call : Bytes → Outcome} {file : Bytes} {place n next : ℕ} (t : Told call file place n next) where
  pub told_beyond : place < next
  told_beyond = rw t.its_next (next_beyond call file place t.line t.is)

  pub told_inside : next ≤ length file
  told_inside = rw t.its_next (next_inside call file place t.line t.is)

-- a walk comes nearer to the end with the line that was read
pub nearer : (call : Bytes → Outcome) → NeverZero call → (file : Bytes) (place n f k start len next : ℕ) → Read n f k start len next ≡ line_said (line_at_over call file place)
    → length file - next < length file - place
nearer call never-zero file place n f k start len next q =
    let t = told call never-zero file place n f k start len next q in
    omega (arith, told_beyond t, told_inside t)

-- ---- so many lines, and so many accepted ones, stand before the place
pub record Counted (call : Bytes → Outcome) (file : Bytes) (lines accepted place : ℕ) : Type 0 where
  pub its_lines : length (walk_over call file) ≡ lines + length (rest call file place)
  pub its_accepted : accepted_lines (walk_over call file) ≡ accepted + accepted_lines (rest call file place)
  pub few : lines ≤ place
  pub fewer : accepted ≤ lines
  pub inside : place ≤ length file

pub counted_none : (call : Bytes → Outcome) (file : Bytes) → Counted call file 0 0 0
counted_none call file =
    record {
      its_lines = rw (rest_walk call file) (omega arith);
      its_accepted = rw (rest_walk call file) (omega arith);
      few = omega arith;
      fewer = omega arith;
      inside = omega arith;
    }

module _ {call : Bytes → Outcome} {file : Bytes} {lines accepted place : ℕ} (c : Counted call file lines accepted place) where
  pub counted_all : (p : ℕ) → Finished p ≡ line_said (line_at_over call file place) → record { lines = lines; accepted = accepted } ≡ totals_of (walk_over call file)
  counted_all p q = go (line_at_over call file place) refl q
    where
      go : (s : Said) → line_at_over call file place ≡ s → Finished p ≡ line_said s → record { lines = lines; accepted = accepted } ≡ totals_of (walk_over call file)
      go (finished o) e r =
          let none : rest call file place ≡ [] = rest_onward call file place ∙ rw e in
          let ls : lines ≡ length (walk_over call file) = omega (arith, c.its_lines, ap length none) in
          let few : accepted ≡ accepted_lines (walk_over call file) = omega (arith, c.its_accepted, ap accepted_lines none) in
          cc
      go (read l) e r = absurd (let z : ◌≡◌ {A = ℕ} 0 1 = cc in omega arith)

  module _ {n next : ℕ} (t : Told call file place n next) where
    counted_on : (a : ℕ) → a ≡ accepted + one t.line.said → a ≤ accepted + 1 → Counted call file (lines + 1) a next
    counted_on a e h =
        let more : rest call file place ≡ t.line ∷ rest call file next = rw t.its_next (rest_step call file place t.line t.is) in
        record {
          its_lines = omega (arith, c.its_lines, ap length more);
          its_accepted = omega (arith, c.its_accepted, ap accepted_lines more);
          few = omega (arith, c.few, told_beyond t);
          fewer = omega (arith, c.fewer);
          inside = told_inside t;
        }

    pub counted_accepted : {a : ℕ} → n ≡ 0 → a ≡ accepted + 1 → Counted call file (lines + 1) a next
    counted_accepted {a} z e = counted_on a (omega (arith, t.its_number.0 z)) (omega arith)

    pub counted_refused : {a : ℕ} → (n ≡ 0 → ⊥) → a ≡ accepted → Counted call file (lines + 1) a next
    counted_refused {a} z e = counted_on a (omega (arith, t.its_number.1 z)) (omega arith)
