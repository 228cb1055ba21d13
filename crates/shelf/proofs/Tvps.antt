-- The TVP of a place: 16 bytes, at first the start, and a later one may take its place. And TVPs that were admitted one after another.
-- Assumes nothing.
use Prim.Native.Nat.{ℕ, zero, suc, ◌<◌}
use mathlib.Core.Path.{◌≡◌, sym, ap, ◌∙◌}
use mathlib.Core.Logic.{◌≢◌}
use mathlib.Core.Bool.{true, not, false≢true}
use mathlib.Core.Option.{Option, none, some}
use mathlib.Core.List.{List, [], ◌∷◌}
use native.Mathlib.Omega.{arith}
use lib.ListN.{length, get_or}
use lib.Dec.{T}
use mir.Facts.{and_yes, yes_and}
use Rattle.text.specs.Text.{Bytes, looks, number_from, is_timestamp}
use Rattle.text.specs.Seconds.{start}
use Rattle.text.specs.Later.{later}
use Rattle.text.proofs.Tests.{T_true, by_test}
use Rattle.text.proofs.Types.{timestamp_length}
use Rattle.text.proofs.Later.{later_itself, later_trans}
use Rattle.shelf.specs.Cabinet.{is_tvp}
use Rattle.shelf.proofs.Places.{clash}

-- a TIMESTAMP, and not before the start
pub tvp_parts : (t : Bytes) → T (is_tvp t) → T (is_timestamp t) × T (not (later start t))
unfolding is_tvp
tvp_parts t h = and_yes (is_timestamp t) (not (later start t)) h

pub parts_tvp : (t : Bytes) → T (is_timestamp t) → T (not (later start t)) → T (is_tvp t)
unfolding is_tvp
parts_tvp t h l = yes_and (is_timestamp t) (not (later start t)) h l

pub tvp_length : (t : Bytes) → T (is_tvp t) → length t ≡ 16
tvp_length t h = timestamp_length t (tvp_parts t h).0

pub start_tvp : T (is_tvp start)
unfolding is_timestamp looks number_from
start_tvp = parts_tvp start tt (rw (later_itself start) tt)

-- what is later than such a one is not before the start either
pub later_tvp : (t u : Bytes) → T (is_timestamp t) → T (is_tvp u) → later t u ≡ true → T (is_tvp t)
later_tvp t u h k l =
    parts_tvp t h
    (by_test (later start t)
    (λ b. clash (later start u) (rw (later_trans start t u (T_true (later start t) b) l) tt) (tvp_parts u k).1)
    (λ b. b))

-- ---- TVPs that were admitted, the last one first

-- t is later than each of ts
abbrev pub AllEarlier : Bytes → List Bytes → Type 0
AllEarlier t [] = Unit {0}
AllEarlier t (u ∷ ts) = (later t u ≡ true) × AllEarlier t ts

-- each is later than all before it
abbrev pub Rising : List Bytes → Type 0
Rising [] = Unit {0}
Rising (t ∷ ts) = AllEarlier t ts × Rising ts

-- what is later than the stored one is later than all of ts
abbrev pub Under : Option Bytes → List Bytes → Type 0
Under none ts = Unit {0}
Under (some u) ts = (t : Bytes) → later t u ≡ true → AllEarlier t ts

pub under_none : (o : Option Bytes) → Under o []
under_none none = tt
under_none (some u) = λ t h. tt

all_earlier : (t u : Bytes) (ts : List Bytes) → later t u ≡ true → AllEarlier u ts → AllEarlier t ts
all_earlier t u [] h a = tt
all_earlier t u (v ∷ ts) h a = (later_trans t u v h a.0, all_earlier t u ts h a.1)

-- one more, which is later than the stored one
pub rising_more : (t u : Bytes) (o : Option Bytes) (ts : List Bytes) → o ≡ some u → later t u ≡ true → Rising ts × Under o ts → Rising (t ∷ ts) × Under (some t) (t ∷ ts)
rising_more t u o ts e h (r, b) = let a = (rw e at b) t h in ((a, r), λ v l. (l, all_earlier v t ts l a))

pub earlier_at : (t : Bytes) (ts : List Bytes) (j : ℕ) → AllEarlier t ts → j < length ts → later t (get_or ts j []) ≡ true
earlier_at t [] j a h = absurd (omega arith)
earlier_at t (u ∷ ts) zero a h = a.0
earlier_at t (u ∷ ts) (suc j) a h = earlier_at t ts j a.1 (omega arith)

-- of two of them the one that was admitted later is later
pub rising_at : (ts : List Bytes) → Rising ts → (i j : ℕ) → i < j → j < length ts → later (get_or ts i []) (get_or ts j []) ≡ true
rising_at [] r i j h l = absurd (omega arith)
rising_at (t ∷ ts) r i zero h l = absurd (omega arith)
rising_at (t ∷ ts) r zero (suc j) h l = earlier_at t ts j r.0 (omega arith)
rising_at (t ∷ ts) r (suc i) (suc j) h l = rising_at ts r.1 i j (omega arith) (omega arith)

-- and so they are not the same
pub rising_apart : (ts : List Bytes) → Rising ts → (i j : ℕ) → i < j → j < length ts → get_or ts i [] ≢ get_or ts j []
rising_apart ts r i j h l e = false≢true (sym (later_itself (get_or ts j [])) ∙ ap (λ (x : Bytes). later x (get_or ts j [])) (sym e) ∙ rising_at ts r i j h l)
