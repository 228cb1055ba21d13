-- A reader gives the file call's answers, so a new one gives all lines of the file, each once, in order, and then says that the
-- file is finished.
-- Assumes nothing.
use denote.Ref.{Bor}
use Prim.Native.Nat.{ℕ, zero, suc, ◌+◌, ◌≤◌}
use mathlib.Core.Path.{◌≡◌, refl, ap, ap₂, sym, ◌∙◌}
use mathlib.Core.List.{List, [], ◌∷◌, ◌++◌, map}
use native.Mathlib.Nat.{add-zero, add-suc}
use native.Mathlib.Omega.{arith}
use lib.ListN.{length, replicate}
use Rattle.text.specs.Text.{Bytes}
use Rattle.format.specs.Read.{Outcome, read_record}
use Rattle.format.specs.Files as files
use Rattle.format.specs.Files.{Said, finished, read, line_at_over, line_at, walk}
use Rattle.format.proofs.Lines.{line_to, unfinished_to, at_end, at_line, at_unfinished, by_place, next_inside, rest, rest_walk, rest_onward, rest_step}
use Rattle.files.specs.Walk.{line_said, next_of}
use Rattle.files.specs.Steps.{Begins, Stepped, Steps, none, more}
use Rattle.files.specs.declared.Line.{Line}
use Rattle.files.specs.declared.Line.TheVariants.{Finished}
use Rattle.files.specs.declared.Reader.{Reader}

-- ---- what is left from a place on, whatever call is asked about the lines

module _ (call : Bytes → Outcome) (file : Bytes) where
  some_left : (place : ℕ) (l : files.Line) → line_at_over call file place ≡ read l → rest call file place ≡ [] → ⊥
  some_left place l e r =
      let z : l ∷ rest call file l.next ≡ [] = sym (rest_step call file place l e) ∙ r in
      let o : ◌≡◌ {A = ℕ} 0 1 = cc in
      omega arith

  pub none_left : (place : ℕ) → rest call file place ≡ [] → length file ≤ place
  none_left place r =
      by_place file place (λ h. h)
      (λ e f h. absurd (some_left place (line_to call file place e) (at_line call file place e f h) r))
      (λ e f l h. absurd (some_left place (unfinished_to file place e) (at_unfinished call file place e f l h) r))

  pub first_left : (place : ℕ) (l : files.Line) (ls : List files.Line) → rest call file place ≡ l ∷ ls → (line_at_over call file place ≡ read l) × (rest call file l.next ≡ ls)
  first_left place l ls r = go (line_at_over call file place) refl
    where
      go : (s : Said) → line_at_over call file place ≡ s → (line_at_over call file place ≡ read l) × (rest call file l.next ≡ ls)
      go (finished p) e = absurd (let z : l ∷ ls ≡ [] = sym r ∙ rest_onward call file place ∙ rw e in let o : ◌≡◌ {A = ℕ} 0 1 = cc in omega arith)
      go (read k) e =
          let z : k ∷ rest call file k.next ≡ l ∷ ls = sym (rest_step call file place k e) ∙ r in
          let same : k ≡ l = cc in
          (e ∙ ap read same, rw (← same) (cc))

-- ---- the file call

-- its answers, called n times in a row from a place on
unfoldable answers_from : ℕ → Bytes → ℕ → List Line
answers_from zero file place = []
answers_from (suc n) file place = line_said (line_at file place) ∷ answers_from n file (next_of (line_said (line_at file place)))

module _ (file : Bytes) where
  step_read : (n place : ℕ) (l : files.Line) → line_at file place ≡ read l → answers_from (suc n) file place ≡ line_said (read l) ∷ answers_from n file l.next
  unfolding answers_from
  step_read n place l e = rw e

  at_finished : (n : ℕ) → answers_from n file (length file) ≡ replicate n (Finished (length file))
  unfolding answers_from
  at_finished zero = refl
  at_finished (suc n) = rw (at_end read_record file (length file) (omega arith)) (ap (◌∷◌ (Finished (length file))) (at_finished n))

  -- from a place on: the lines ls that are left, and then n times that the file is finished
  from_place : (n place : ℕ) → place ≤ length file → (ls : List files.Line) → rest read_record file place ≡ ls
      → answers_from (n + length ls) file place ≡ map (λ l. line_said (read l)) ls ++ replicate n (Finished (length file))
  from_place n place h [] r = let end : place ≡ length file = omega (arith, none_left read_record file place r) in rw (end, add-zero) (at_finished n)
  from_place n place h (l ∷ ls) r =
      let (is, left) = first_left read_record file place l ls r in
      ap (λ m. answers_from m file place) (add-suc n (length ls)) ∙ step_read (n + length ls) place l is ∙ ap (◌∷◌ (line_said (read l))) (from_place n l.next (next_inside read_record file place l is) ls left)

  walk_answers : (n : ℕ) → answers_from (n + length (walk file)) file 0 ≡ map (λ l. line_said (read l)) (walk file) ++ replicate n (Finished (length file))
  walk_answers n = from_place n 0 (omega arith) (walk file) (rest_walk read_record file)

-- ---- a reader

reader_steps : {before after : Reader} {said : List Line} → Steps before said after
    → said ≡ answers_from (length said) before.file.now before.place
unfolding answers_from
reader_steps none = refl
reader_steps (more {said = a} s t) = rw (← s.its_line, ← s.same_file, ← s.its_place) (ap (◌∷◌ a) (reader_steps t))

-- the answers of a new reader
pub reader_walks : {lent : Bor Bytes} {before after : Reader} {said : List Line} → Begins lent before → Steps before said after
    → (n : ℕ) → length said ≡ n + length (walk lent.now)
    → said ≡ map (λ l. line_said (read l)) (walk lent.now) ++ replicate n (Finished (length lent.now))
reader_walks {lent} b t n e = reader_steps t ∙ rw (e, b.same_file, b.its_place) (walk_answers lent.now n)

-- readers of the same bytes at the same place are one
one_reader : {r r' : Reader} → r.file ≡ r'.file → r.place ≡ r'.place → r ≡ r'
one_reader e f = ap₂ {C = Reader} (λ f p. record { file = f; place = p }) e f

-- so any two new readers of the same bytes are equal
pub begin_same : {lent : Bor Bytes} {reader reader' : Reader} → Begins lent reader → Begins lent reader' → reader ≡ reader'
begin_same b c = one_reader (b.same_file ∙ sym c.same_file) (b.its_place ∙ sym c.its_place)

-- any two answers to a step are equal, and so are the readers afterwards
pub step_same : {before after after' : Reader} {said said' : Line} → Stepped before said after → Stepped before said' after' → (said ≡ said') × (after ≡ after')
step_same {said = said} {said' = said'} s t =
    let same : said ≡ said' = s.its_line ∙ sym t.its_line in
    (same, one_reader (s.same_file ∙ sym t.same_file) (s.its_place ∙ ap next_of same ∙ sym t.its_place))
