-- What the private functions of the crate answer, by the bytes of the places. No clause of a document stands here.
-- Assumes nothing.
use Rattle.std.specs.Prelude.{ℕ, zero, suc, ◌+◌, ◌-◌, ◌*◌, ◌≤◌, ◌<◌, ◌≡◌, Bool, true, false, not, cond, List, [], ◌++◌, length, take, drop, get_or, leb, eqb, MatchOption}
use Rattle.std.specs.Prelude as prelude
use Prim.Native.Char.{code}
use Rattle.std.proofs.Math.Option.{Option, none, some}
use Rattle.text.specs.Text.{Bytes, same}
use Rattle.text.specs.Later.{later}
use Rattle.format.specs.Files.{up_to}
use Rattle.frame.specs.Frame.{part_of, part_start}
use Rattle.subjects.specs.Subjects.{identity_part}
use Rattle.shelf.specs.Places.{Place}
use Rattle.shelf.specs.Cabinet.{zeros, decode, is_old}

-- ---- one place

abbrev pub is_zero : ℕ → Bool
is_zero c = eqb c 0

abbrev pub is_place : Option Place → Bool
is_place none = false
is_place (some p) = true

abbrev pub is_some : Option (List Place) → Bool
is_some none = false
is_some (some ps) = true

-- place i
abbrev pub part_at : Bytes → ℕ → Bytes
part_at s i = take 1024 (drop (i * 1024) s)

-- the bytes s with v in place i
abbrev pub with_part : Bytes → ℕ → Bytes → Bytes
with_part s i v = (take (i * 1024) s ++ v) ++ drop (i * 1024 + 1024) s

-- the text, and zeros after it up to n bytes
abbrev pub padded : ℕ → Bytes → Bytes
padded n text = text ++ zeros (n - length text)

-- what is written into a place: the text with zeros after it, the TVP, and the number, with zeros where these are empty
abbrev pub filled_with : Bytes → Bytes → Bytes → Bytes
filled_with text tvp number = (padded 1000 text ++ padded 16 tvp) ++ padded 8 number

-- the bytes of a place with another text and another number, and with another TVP
abbrev pub key_in : Bytes → Bytes → Bytes → Bytes
key_in b text number = (padded 1000 text ++ take 16 (drop 1000 b)) ++ padded 8 number

abbrev pub tvp_between : Bytes → Bytes → Bytes
tvp_between b tvp = (take 1000 b ++ padded 16 tvp) ++ drop 1016 b

-- ---- the names

-- what stands in an identity before its third field; nothing, where its bytes have not so many marks
unfoldable pub names_in : Bytes → Bytes
names_in s = cond (leb (part_start (code ":") s 3) (length s)) (take (part_start (code ":") s 3) s) []

-- the first field of a record, of any bytes, alone or in its place
unfoldable pub subject_at : Bytes → Bytes
subject_at s = part_of (code "|") s 1

-- what stands there begins with v
unfoldable pub starts_so : Bytes → Bytes → Bool
starts_so s v = same (take (length v) (drop (part_start (code "|") s 1) s)) v

-- the third field of the identity i is after that of the identity in the place s
unfoldable pub is_later_than : Bytes → Bytes → Bool
is_later_than i s = later (identity_part i 3) (identity_part (subject_at s) 3)

-- the TVP is after that in the place s
unfoldable pub is_later_tvp : Bytes → Bytes → Bool
is_later_tvp t s = later t (take 16 (drop 1000 s))

-- ---- all places

-- the lowest number from i on, of n, that passes the test; i + n where none does
unfoldable pub first : (ℕ → Bool) → ℕ → ℕ → ℕ
first t zero i = i
first t (suc n) i = cond (t i) i (first t n (suc i))

-- of the places from i on
abbrev pub first_from : (ℕ → Bool) → ℕ → ℕ
first_from t i = first t (64 - i) i

-- the test says false of each place from `from` on that is before place i
pub data Below (Said : ℕ → Bool → Type 0) (from : ℕ) : ℕ → Type 0 where
  start : Below Said from from
  onward : {i : ℕ} → Below Said from i → i < 64 → Said i false → Below Said from (i + 1)

-- the lowest of 64 of which it says true
abbrev pub Lowest : (ℕ → Bool → Type 0) → ℕ → prelude.Option ℕ → Type 0
Lowest Said from r = MatchOption r (Below Said from 64) (λ i. Below Said from i × (i < 64) × Said i true)

-- place n, and none where n is 64, as the code answers it
abbrev pub Among : ℕ → prelude.Option ℕ → Type 0
Among n r = MatchOption r (n ≡ 64) (λ i. (i ≡ n) × (i < 64))

-- place i; 64 where there is none, or where its record is old
unfoldable pub unless_old_at : Bytes → ℕ → ℕ
unless_old_at s i = cond (eqb i 64) 64 (cond (is_old (up_to 0 (part_at s i))) 64 i)

-- every place passes the test
abbrev pub all_pass : (ℕ → Bool) → Bool
all_pass t = eqb (first_from (λ i. not (t i)) 0) 64

abbrev pub has_names : Bytes → Bytes → ℕ → Bool
has_names s v i = starts_so (part_at s i) v

-- the place whose record begins with the names v, unless it is old
abbrev pub current_of : Bytes → Bytes → ℕ
current_of s v = unless_old_at s (first_from (has_names s v) 0)

abbrev pub is_place_at : Bytes → ℕ → Bool
is_place_at s i = is_place (decode (part_at s i))

abbrev pub is_free_at : Bytes → ℕ → Bool
is_free_at s i = is_zero (get_or s (i * 1024) 0)

abbrev pub is_held_at : Bytes → ℕ → Bool
is_held_at s i = not (is_free_at s i)

-- no later place begins with the names of place i
unfoldable pub alone_at : Bytes → ℕ → Bool
alone_at s i = cond (is_free_at s i) true (eqb (first_from (has_names s (names_in (subject_at (part_at s i)))) (i + 1)) 64)

-- how many of n places from i on are occupied
unfoldable pub occupied_of : Bytes → ℕ → ℕ → ℕ
occupied_of s zero i = 0
occupied_of s (suc n) i = cond (is_free_at s i) 0 1 + occupied_of s n (suc i)

-- ---- what the functions need

pub record Sized (s : Bytes) : Type 0 where
  pub long : length s ≡ 65536

pub record PlaceIn (s : Bytes) (i : ℕ) : Type 0 where
  pub long : length s ≡ 65536
  pub place : i < 64

pub record PlaceFits (place text number : Bytes) : Type 0 where
  pub long : length place ≡ 1024
  pub short : length text ≤ 1000
  pub eight : length number ≤ 8

pub record KeyFits (s : Bytes) (i : ℕ) (text number : Bytes) : Type 0 where
  pub in_place : PlaceIn s i
  pub short : length text ≤ 1000
  pub eight : length number ≤ 8

pub record TvpFits (s : Bytes) (i : ℕ) (tvp : Bytes) : Type 0 where
  pub in_place : PlaceIn s i
  pub sixteen : length tvp ≤ 16

pub record Fits (s : Bytes) (i : ℕ) (text tvp number : Bytes) : Type 0 where
  pub key : KeyFits s i text number
  pub date : TvpFits s i tvp
