-- Demand 3, for plain files and for manufacturers'. Two record files of equal length that differ only inside lines which the first accepts, in each such line within two
-- neighbouring places, no differing byte a line feed in either file (`DamagedOver`, in format/specs/Damage.antt): every line that differs is
-- refused in the second, and every other line gives the same answer at the same place with the same fields. Stated on what the file call
-- answers for the two files, called from place 0 on, each time at the next place that it named.
-- Assumes nothing.
use Rattle.std.specs.Prelude.{ℕ, ◌+◌, ◌≤◌, ◌<◌, ◌≡◌, ◌≢◌, ◌⊎◌, ◌↔◌, List, [], ◌∷◌, length, get_or}
use Rattle.std.specs.Borrow.{Bor}
use Rattle.text.specs.Text.{Bytes, part}
use Rattle.format.specs.Read.{Outcome, read_record}
use Rattle.format.specs.Files as format
use Rattle.format.specs.Damage.{Differ, Inside, bytes_in, DamagedOver, DamagedBy, WithinTwo}
use Rattle.files.specs.declared.Line.{Line}
use Rattle.files.specs.Walk.{number_of, start_of, length_of, next_of}
use Rattle.trailed.specs.Trailed.{read_trailed}
use Rattle.promises.proofs.Statements.Files.{PlainSays}
use Rattle.promises.proofs.Statements.Trailed.{TrailedSays}

-- answers that the contract of a file call allows (`Says`, as in Files.antt) for the lent bytes, one call after another from a place on
pub data Called (Says : Bor Bytes → ℕ → Line → Type 0) (lent : Bor Bytes) : ℕ → List Line → Type 0 where
  none : {place : ℕ} → Called Says lent place []
  more : {place : ℕ} {said : Line} {rest : List Line} → Says lent place said → Called Says lent (next_of said) rest → Called Says lent place (said ∷ rest)

-- place p is inside the line that was answered
abbrev pub InLine : Line → ℕ → Type 0
InLine l p = (start_of l ≤ p) × (p < start_of l + length_of l)

-- the bytes of that line
abbrev pub bytes_of : Bytes → Line → Bytes
bytes_of file l = part (start_of l) (length_of l) file

-- the answer l for the file a, and m for the file b
pub record CaughtSaid (a b : Bytes) (l m : Line) : Type 0 where
  -- at the same place
  pub same_start : start_of l ≡ start_of m
  pub same_size : length_of l ≡ length_of m
  pub same_next : next_of l ≡ next_of m
  -- a line that differs is refused in the second
  pub refused_there : (p : ℕ) → InLine l p → Differ a b p → number_of m ≢ 0
  -- every other line gives the same answer, and its fields are parts of the same bytes
  pub same_said : ((p : ℕ) → InLine l p → get_or a p 0 ≡ get_or b p 0) → (l ≡ m) × (bytes_of a l ≡ bytes_of b m)

-- call by call
unfoldable pub AllCaughtSaid : Bytes → Bytes → List Line → List Line → Type 0
AllCaughtSaid a b [] [] = Unit {0}
AllCaughtSaid a b [] (m ∷ ms) = ⊥
AllCaughtSaid a b (l ∷ ls) [] = ⊥
AllCaughtSaid a b (l ∷ ls) (m ∷ ms) = CaughtSaid a b l m × AllCaughtSaid a b ls ms

-- as many calls for the one file as for the other, however many, where `call` is asked about the lines
abbrev pub DamageCaught : (Bytes → Outcome) → (Bor Bytes → ℕ → Line → Type 0) → Type 0
DamageCaught call Says = (f g : Bor Bytes) → DamagedOver call f.now g.now → (ls ms : List Line) → Called Says f 0 ls → Called Says g 0 ms
    → length ls ≡ length ms → AllCaughtSaid f.now g.now ls ms

-- the same where `Harm` says how a line is damaged
abbrev pub DamageCaughtBy : (Bytes → Outcome) → (Bytes → Bytes → Type 0) → (Bor Bytes → ℕ → Line → Type 0) → Type 0
DamageCaughtBy call Harm Says = (f g : Bor Bytes) → DamagedBy call Harm f.now g.now → (ls ms : List Line) → Called Says f 0 ls → Called Says g 0 ms
    → length ls ≡ length ms → AllCaughtSaid f.now g.now ls ms

pub record Demand3 : Type 0 where
  pub in_plain : DamageCaught read_record PlainSays
  -- each whole line with its trailer counts as a line
  pub in_trailed : DamageCaught read_trailed TrailedSays
  -- within two neighbouring places of a line are within two of the file
  pub in_file : (a b : Bytes) (l : format.Line) → WithinTwo (bytes_in l a) (bytes_in l b) ↔ ((i : ℕ) × ((p : ℕ) → Inside l p → Differ a b p → (p ≡ i) ⊎ (p ≡ i + 1)))
