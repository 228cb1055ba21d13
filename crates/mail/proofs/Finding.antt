-- The walks over the lines of a text: to the first BEGINS line, and from there to the first ENDS line, with the rows between them.
-- Assumes nothing.
use Prim.Native.Nat.{ℕ, suc, ◌+◌, ◌-◌, ◌≤◌, ◌<◌}
use mathlib.Core.Path.{◌≡◌, refl, sym, ap, ◌∙◌}
use mathlib.Core.Bool.{Bool, true, false, cond}
use mathlib.Core.List.{[], ◌∷◌, ◌++◌}
use native.Mathlib.Omega.{arith}
use native.Mathlib.Nat.{zero-add}
use lib.Dec.{eqb}
use lib.ListN.{length, take, drop, drop_of_length-le}
use lib.Seq.{take-add, drop-drop}
use Rattle.std.proofs.Common.{Option, None, Some, MatchOption}
use Rattle.text.specs.Text.{Bytes, same}
use Rattle.text.proofs.Tests.{less_or}
use Rattle.format.specs.Files.{line_feed, up_to}
use Rattle.format.proofs.Lines.{take_up_to}
use Rattle.frame.specs.Frame.{next_mark}
use Rattle.frame.proofs.Parts.{cut_at, cut_none, next_within}
use Rattle.numbers.specs.Numbers.{missing_begins, missing_ends}
use Rattle.mail.specs.Mail.{lines_in, ends_line, is_begins, missing, closed, opened}
use Rattle.mail.specs.Steps.{line_from, Walked, none, more, Finds, Opens, feedless, rows_in, Closes}

-- ---- the line at a place, and those after it

module _ (text : Bytes) (i : ℕ) where
  -- by the next mark
  pub line_none : {e : ℕ} → e ≡ next_mark line_feed text i → length text < e → [] ≡ line_from text i
  line_none n h =
      less_or (length text) i
      (λ l. rw (drop_of_length-le text {i = i} (omega arith)))
      (λ l. absurd (omega (arith, h, n, next_within line_feed text i l)))

  pub line_there : {e : ℕ} → e ≡ next_mark line_feed text i → take (e - i) (drop i text) ≡ line_from text i
  unfolding next_mark
  line_there {e} n =
      let long : e - i ≡ length (line_from text i) = omega (arith, n) in
      rw long (take_up_to line_feed (drop i text))

  -- the line is cut off there
  pub line_cut : {rest : Bytes} {n : ℕ} → rest ≡ drop i text → n ≡ next_mark line_feed rest 0 → take n rest ≡ line_from text i
  unfolding next_mark
  line_cut e q = rw (q, e) (rw zero-add (take_up_to line_feed (drop i text)))

  pub line_within : i < length text → {l : Bytes} → l ≡ line_from text i → i + length l ≤ length text
  unfolding next_mark
  line_within h is = omega (arith, ap length is, next_within line_feed text i (omega arith))

  pub lines_at : i < length text → lines_in (drop i text) ≡ line_from text i ∷ lines_in (drop (i + (length (line_from text i) + 1)) text)
  unfolding next_mark
  lines_at h =
      let next : next_mark line_feed text i + 1 ≡ i + (length (line_from text i) + 1) = omega arith in
      rw (line_there refl, next) at (cut_at line_feed text i h)

-- one line more that does not pass, l as the code has it
pub walked_on : {Said : Bytes → Bool → Type 0} {text : Bytes} {from i : ℕ} → Walked Said text from i → i < length text → {l : Bytes} → l ≡ line_from text i → Said (line_from text i) false
    → Walked Said text from (i + (length l + 1))
walked_on w h e s = rw e (more w h s)

-- ---- to the first BEGINS line, by a test that says of each line whether it is one

module _ (text : Bytes) {Said : Bytes → Bool → Type 0} (right : (l : Bytes) (b : Bool) → Said l b → b ≡ is_begins l) where
  opened_walked : {from i : ℕ} → Walked Said text from i → opened (lines_in (drop from text)) ≡ opened (lines_in (drop i text))
  opened_walked none = refl
  opened_walked (more {i} w h s) = opened_walked w ∙ rw (lines_at text i h, ← right (line_from text i) false s)

  pub opens_first : (r : Option ℕ) → Finds Said text 0 r → MatchOption r (opened (lines_in text) ≡ missing missing_begins) (Opens text)
  opens_first None (i, w, h) = opened_walked w ∙ rw (cut_none line_feed text i h)
  opens_first (Some i) (w, h, s) = record { inside = h; passed = opened_walked w; here = sym (right (line_from text i) true s) }

-- ---- without line feeds

pub feedless_append : (s t : Bytes) → feedless (s ++ t) ≡ feedless s ++ feedless t
feedless_append [] t = refl
feedless_append (c ∷ s) t = rw (feedless_append s t) (go (eqb c line_feed))
  where
    go : (b : Bool) → cond b (feedless s ++ feedless t) (c ∷ (feedless s ++ feedless t)) ≡ cond b (feedless s) (c ∷ feedless s) ++ feedless t
    go true = refl
    go false = refl

-- a line with its line feed
feedless_line : (s : Bytes) → feedless (take (suc (length (up_to line_feed s))) s) ≡ up_to line_feed s
feedless_line [] = refl
feedless_line (c ∷ s) = go (eqb c line_feed) refl (feedless_line s)
  where
    go : (b : Bool) → eqb c line_feed ≡ b → feedless (take (suc (length (up_to line_feed s))) s) ≡ up_to line_feed s
        → feedless (take (suc (length (cond b [] (c ∷ up_to line_feed s)))) (c ∷ s)) ≡ cond b [] (c ∷ up_to line_feed s)
    go true e i = rw e
    go false e i = rw e (ap (λ (r : Bytes). c ∷ r) i)

rows_more : (text : Bytes) (from i : ℕ) → from ≤ i → rows_in text from i ++ line_from text i ≡ rows_in text from (i + (length (line_from text i) + 1))
rows_more text from i l =
    let long : i + (length (line_from text i) + 1) - from ≡ (i - from) + suc (length (line_from text i)) = omega arith in
    let there : from + (i - from) ≡ i = omega arith in
    rw (long, take-add, feedless_append, drop-drop, there, feedless_line (drop i text))

-- ---- from there to the first ENDS line: none of the lines before place i is one, and they are joined

record Passed (text : Bytes) (from : ℕ) (t : Bytes) (i : ℕ) : Type 0 where
  pub on : from ≤ i
  pub rows : closed t [] (lines_in (drop from text)) ≡ closed t (rows_in text from i) (lines_in (drop i text))

passed_none : (text : Bytes) (from : ℕ) (t : Bytes) → Passed text from t from
passed_none text from t = record { on = omega arith; rows = let z : from - from ≡ 0 = omega arith in rw z }

passed_on : {text : Bytes} {from : ℕ} {t : Bytes} {i : ℕ} → Passed text from t i → i < length text → same (line_from text i) (ends_line t) ≡ false → Passed text from t (i + (length (line_from text i) + 1))
passed_on {text} {from} {t} {i} p h b = record {
  on = omega (arith, p.on);
  rows = p.rows ∙ rw (lines_at text i h, b) (ap (λ (f : Bytes). closed t f (lines_in (drop (i + (length (line_from text i) + 1)) text))) (rows_more text from i p.on));
}

module _ (text t : Bytes) {Said : Bytes → Bool → Type 0} (right : (l : Bytes) (b : Bool) → Said l b → b ≡ same l (ends_line t)) where
  passed_walked : {from i : ℕ} → Walked Said text from i → Passed text from t i
  passed_walked {from} none = passed_none text from t
  passed_walked (more {i} w h s) = passed_on (passed_walked w) h (sym (right (line_from text i) false s))

  pub closes_first : (from : ℕ) (r : Option ℕ) → Finds Said text from r → MatchOption r (closed t [] (lines_in (drop from text)) ≡ missing missing_ends) (Closes text from t)
  closes_first from None (i, w, h) = (passed_walked w).rows ∙ rw (cut_none line_feed text i h)
  closes_first from (Some i) (w, h, s) =
      let p = passed_walked w in
      record { further = p.on; inside = h; there = p.rows ∙ rw (lines_at text i h, ← right (line_from text i) true s) }
