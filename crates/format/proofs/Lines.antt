-- The walk over a file, whatever call is asked about its lines: what is said at a place, and where the next line is; every file is lines, and
-- the walk says each of them.
-- Assumes nothing.
use Prim.Native.Nat.{ℕ, zero, suc, ◌+◌, ◌-◌, ◌≤◌, ◌<◌}
use mathlib.Core.Path.{◌≡◌, refl, sym, ap, ◌∙◌}
use mathlib.Core.Bool.{not}
use mathlib.Core.List.{List, [], ◌∷◌, ◌++◌, append_assoc, append-nil}
use native.Mathlib.Nat.{add_assoc}
use native.Mathlib.Omega.{arith}
use lib.Dec.{T, eqb, eqb→eq}
use lib.ListN.{length, take, drop, length-append, length-drop}
use lib.Seq.{drop-drop, drop-append-add}
use mir.Facts.{and_yes, yes_and}
use borrow.Author.Tests.{lt-ltb, le-ltb, le-leb, lt-leb}
use Rattle.text.specs.Text.{Bytes, without}
use Rattle.text.proofs.Tests.{by_test, less_or, T_true, T_false}
use Rattle.numbers.specs.Numbers.{unfinished}
use Rattle.format.specs.Build.{joined, WithoutAll}
use Rattle.format.specs.Read.{Outcome, refused}
use Rattle.format.specs.Files.{line_feed, up_to, Line, Said, finished, read, line_of_over, line_at_over, onward, walk_from_over, walk_over, lines_from_over}

-- ---- the first c in a text

pub take_up_to : (c : ℕ) (s : Bytes) → take (length (up_to c s)) s ≡ up_to c s
take_up_to c [] = refl
take_up_to c (d ∷ s) = by_test (eqb d c) (λ t. rw (T_true (eqb d c) t)) (λ t. rw (T_false (eqb d c) t, take_up_to c s))

pub up_to_first : (c : ℕ) (l r : Bytes) → T (without c l) → up_to c r ≡ [] → up_to c (l ++ r) ≡ l
up_to_first c [] r h e = e
up_to_first c (d ∷ l) r h e =
    let h' = and_yes (not (eqb d c)) (without c l) h in
    rw (T_false (eqb d c) h'.0, up_to_first c l r h'.1 e)

-- ---- the places of a line

-- e is the first place from `place` on with a line feed, or the end
abbrev pub Feed : Bytes → ℕ → ℕ → Type 0
Feed file place e = e ≡ place + length (up_to line_feed (drop place file))

-- the file is finished at the place, a line starts there that a line feed ends, or one that none ends
pub by_place : (file : Bytes) (place : ℕ) {X : Type 0} → (length file ≤ place → X) → ((e : ℕ) → Feed file place e → e < length file → X)
    → ((e : ℕ) → Feed file place e → place < length file → length file ≤ e → X) → X
by_place file place end line last =
    let e : ℕ = place + length (up_to line_feed (drop place file)) in
    less_or place (length file) (λ h. less_or e (length file) (line e refl) (last e refl h)) end

-- the unfinished line from a place to the end e
abbrev pub unfinished_to : Bytes → ℕ → ℕ → Line
unfinished_to file place e = record { said = refused unfinished 0; start = place; size = e - place; next = length file }

module _ (call : Bytes → Outcome) where
  -- ---- what is said at a place

  -- the line from a place to its line feed at e
  abbrev pub line_to : Bytes → ℕ → ℕ → Line
  line_to file place e = record { said = call (take (e - place) (drop place file)); start = place; size = e - place; next = e + 1 }

  module _ (file : Bytes) (place : ℕ) where
    pub at_end : length file ≤ place → line_at_over call file place ≡ finished place
    unfolding line_at_over
    at_end h = rw (le-leb (length file) place h)

    pub at_line : (e : ℕ) → Feed file place e → e < length file → line_at_over call file place ≡ read (line_to file place e)
    unfolding line_at_over line_of_over
    at_line e f h =
        let size : e - place ≡ length (up_to line_feed (drop place file)) = omega arith in
        rw (lt-leb (length file) place (omega arith), lt-ltb _ (length file) (rw f at h), size, take_up_to, f)

    pub at_unfinished : (e : ℕ) → Feed file place e → place < length file → length file ≤ e → line_at_over call file place ≡ read (unfinished_to file place e)
    unfolding line_at_over line_of_over
    at_unfinished e f l h =
        let size : e - place ≡ length (up_to line_feed (drop place file)) = omega arith in
        rw (lt-leb (length file) place l, le-ltb _ (length file) (rw f at h), size)

    -- the next place is further on, and not beyond the end
    abbrev Further : Said → Type 0
    Further (finished p) = Unit {0}
    Further (read l) = (place < l.next) × (l.next ≤ length file)

    further : Further (line_at_over call file place)
    further =
        by_place file place (λ h. rw (at_end h) tt) (λ e f h. rw (at_line e f h) (omega arith)) (λ e f l h. rw (at_unfinished e f l h) (omega arith))

    pub next_beyond : (l : Line) → line_at_over call file place ≡ read l → place < l.next
    next_beyond l e = let f : Further (read l) = rw e at further in f.0

    pub next_inside : (l : Line) → line_at_over call file place ≡ read l → l.next ≤ length file
    next_inside l e = let f : Further (read l) = rw e at further in f.1

  -- ---- the lines from a place on

  module _ (file : Bytes) where
    -- at most as many as the file has bytes: no place has more lines after it
    unfoldable pub rest : ℕ → List Line
    rest place = walk_from_over call (length file) file place

    -- one call more than there are bytes left adds nothing
    walk_enough : (n place : ℕ) → length file ≤ place + n → walk_from_over call (suc n) file place ≡ walk_from_over call n file place
    unfolding walk_from_over
    walk_enough zero place h = rw (at_end file place (omega arith))
    walk_enough (suc n) place h =
        by_place file place (λ k. rw (at_end file place k))
        (λ e f k. rw (at_line file place e f k) (ap (◌∷◌ (line_to file place e)) (walk_enough n (e + 1) (omega arith))))
        (λ e f l k. rw (at_unfinished file place e f l k) (ap (◌∷◌ (unfinished_to file place e)) (walk_enough n (length file) (omega arith))))

    pub rest_walk : rest 0 ≡ walk_over call file
    unfolding rest walk_over
    rest_walk = refl

    pub rest_onward : (place : ℕ) → rest place ≡ onward (line_at_over call file place) rest
    unfolding rest walk_from_over
    rest_onward place = sym (walk_enough (length file) place (omega arith))

    pub rest_end : (place : ℕ) → length file ≤ place → rest place ≡ []
    rest_end place h = rest_onward place ∙ rw (at_end file place h)

    pub rest_step : (place : ℕ) (l : Line) → line_at_over call file place ≡ read l → rest place ≡ l ∷ rest l.next
    rest_step place l e = rest_onward place ∙ rw e

    -- the lines of which the rest of the file is made
    rest_lines : (place : ℕ) (ls : List Bytes) (t : Bytes) → WithoutAll line_feed ls → T (without line_feed t)
        → drop place file ≡ joined line_feed ls ++ t → rest place ≡ lines_from_over call place ls t
    unfolding line_at_over line_of_over lines_from_over
    rest_lines place [] [] w h e = rest_end place (omega (arith, length-drop place file, ap length e))
    rest_lines place [] (c ∷ t) w h e =
        let end : ℕ = place + length (c ∷ t) in
        let long : length file ≡ end = omega (arith, length-drop place file, ap length e) in
        let first = ap (up_to line_feed) (e ∙ sym (append-nil (c ∷ t))) ∙ up_to_first line_feed (c ∷ t) [] h refl in
        rest_onward place ∙ rw (lt-leb (length file) place (omega arith), first, le-ltb end (length file) (omega arith), long, rest_end end (omega arith))
    rest_lines place (l ∷ ls) t w h e =
        let after : Bytes = line_feed ∷ (joined line_feed ls ++ t) in
        let e' : drop place file ≡ l ++ after = rw append_assoc at e in
        let long : place + length l < length file = omega (arith, length-drop place file, length-append l after, ap length e') in
        let first = ap (up_to line_feed) e' ∙ up_to_first line_feed l after w.0 refl in
        let more = rest_lines (place + length l + 1) ls t w.1 h (rw (add_assoc, ← drop-drop, e') (drop-append-add l after 1)) in
        rest_onward place ∙ rw (lt-leb (length file) place (omega arith), first, lt-ltb (place + length l) (length file) long, more)

  pub walk_lines : (ls : List Bytes) (t : Bytes) → WithoutAll line_feed ls → T (without line_feed t) → walk_over call (joined line_feed ls ++ t) ≡ lines_from_over call 0 ls t
  unfolding rest walk_over
  walk_lines ls t w h = rest_lines (joined line_feed ls ++ t) 0 ls t w h refl

-- ---- every file is such lines

abbrev pub Lines : Bytes → Type 0
Lines file = (ls : List Bytes) × (t : Bytes) × WithoutAll line_feed ls × T (without line_feed t) × (file ≡ joined line_feed ls ++ t)

longer : (c : ℕ) → T (not (eqb c line_feed)) → (ls : List Bytes) (t : Bytes) → WithoutAll line_feed ls → T (without line_feed t)
    → Lines (c ∷ (joined line_feed ls ++ t))
longer c n [] t w h = ([], c ∷ t, tt, yes_and (not (eqb c line_feed)) (without line_feed t) n h, refl)
longer c n (l ∷ ls) t w h = ((c ∷ l) ∷ ls, t, (yes_and (not (eqb c line_feed)) (without line_feed l) n w.0, w.1), h, refl)

pub into_lines : (file : Bytes) → Lines file
into_lines [] = ([], [], tt, tt, refl)
into_lines (c ∷ file) =
    let (ls, t, w, h, e) = into_lines file in
    rw e (by_test (eqb c line_feed) (λ y. ([] ∷ ls, t, (tt, w), h, rw (eqb→eq c line_feed y))) (λ n. longer c n ls t w h))
