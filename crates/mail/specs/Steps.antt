-- What the private functions of the crate answer. No clause of a document stands here.
-- Assumes nothing.
use Rattle.std.specs.Prelude.{ℕ, ◌+◌, ◌-◌, ◌≤◌, ◌<◌, ◌≡◌, Bool, true, false, cond, [], ◌∷◌, length, take, drop, eqb, Option, MatchOption}
use Rattle.text.specs.Text.{Bytes}
use Rattle.format.specs.Files.{line_feed, up_to}
use Rattle.put.specs.Put.{Put}
use Rattle.mail.specs.Mail.{lines_in, is_begins, block, closed, opened}

-- the line at place i of a text
abbrev pub line_from : Bytes → ℕ → Bytes
line_from text i = up_to line_feed (drop i text)

-- the test says false of each line from place `from` on that stands before place i
pub data Walked (Said : Bytes → Bool → Type 0) (text : Bytes) (from : ℕ) : ℕ → Type 0 where
  none : Walked Said text from from
  more : {i : ℕ} → Walked Said text from i → i < length text → Said (line_from text i) false → Walked Said text from (i + (length (line_from text i) + 1))

-- the first line of which it says true
abbrev pub Finds : (Bytes → Bool → Type 0) → Bytes → ℕ → Option ℕ → Type 0
Finds Said text from r =
    MatchOption r ((i : ℕ) × Walked Said text from i × (length text ≤ i)) (λ i. Walked Said text from i × (i < length text) × Said (line_from text i) true)

-- the lines before place i are passed over, and at i stands a BEGINS line
pub record Opens (text : Bytes) (i : ℕ) : Type 0 where
  pub inside : i < length text
  pub passed : opened (lines_in text) ≡ opened (lines_in (drop i text))
  pub here : is_begins (line_from text i) ≡ true

-- s without its line feeds
abbrev pub feedless : Bytes → Bytes
feedless [] = []
feedless (c ∷ s) = cond (eqb c line_feed) (feedless s) (c ∷ feedless s)

-- what stands in a text from one place to another, its rows joined
abbrev pub rows_in : Bytes → ℕ → ℕ → Bytes
rows_in text from to = feedless (take (to - from) (drop from text))

-- the first ENDS line of the record type t, from place `from` on, is at place i
pub record Closes (text : Bytes) (from : ℕ) (t : Bytes) (i : ℕ) : Type 0 where
  pub further : from ≤ i
  pub inside : i < length text
  pub there : closed t [] (lines_in (drop from text)) ≡ block t (rows_in text from i)

-- v is written at place k of o, which gives out, and r is the place after it; there is none where v does not fit
pub record Added (o : Bytes) (k : ℕ) (v out : Bytes) (r : Option ℕ) : Type 0 where
  pub long : length out ≡ length o
  pub cases : MatchOption r (length o < k + length v) (λ next. Put o k v out next)
