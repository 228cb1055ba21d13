-- A history of calls on a cabinet: document 02, E8 and E10. What was accepted, and what that says of the cabinet.
-- Assumes nothing.
use Rattle.std.specs.Prelude.{ℕ, suc, ◌+◌, Bool, true, false, cond, List, [], ◌∷◌, eqb}
use Rattle.std.proofs.Math.Option.{Option, none, some}
use Rattle.text.specs.Text.{Bytes}
use Rattle.text.specs.Seconds.{start}
use Rattle.shelf.specs.Places.{Names, same_names, Held, Place, lookup}
use Rattle.shelf.specs.Cabinet.{Reading, about, declined, asks, reads, requests, Result, put_key, remove_key, admit}

-- an accepted put of the record with these names, an accepted removal, or a request of the module with these names admitted with this TVP
pub data Event : Type 0 where
  stored : Names → Bytes → Event
  removed : Names → Event
  admitted : Names → Bytes → Event

-- ---- what was there before: nothing in an empty cabinet, and else what the places hold

abbrev pub nowhere : Names → Option Held
nowhere k = none

abbrev pub held_in : List Place → Names → Option Held
held_in ps k = lookup k ps

abbrev pub text_of : Option Held → Option Bytes
text_of none = none
text_of (some h) = some h.text

abbrev pub tvp_of : Option Held → Option Bytes
tvp_of none = none
tvp_of (some h) = some h.tvp

-- ---- the request's words, of the accepted calls, the last one first; `before` says what was there before the first of them

-- the last accepted put that was not removed
abbrev pub last_put : (Names → Option Held) → Names → List Event → Option Bytes
last_put before k [] = text_of (before k)
last_put before k (stored l r ∷ es) = cond (same_names k l) (some r) (last_put before k es)
last_put before k (removed l ∷ es) = cond (same_names k l) none (last_put before k es)
last_put before k (admitted l t ∷ es) = last_put before k es

abbrev pub is_nothing : Option Bytes → Bool
is_nothing none = true
is_nothing (some r) = false

-- an accepted put is a first put where nothing of its names was there
abbrev pub first_puts : (Names → Option Held) → List Event → ℕ
first_puts before [] = 0
first_puts before (stored k r ∷ es) = cond (is_nothing (last_put before k es)) 1 0 + first_puts before es
first_puts before (removed k ∷ es) = first_puts before es
first_puts before (admitted k t ∷ es) = first_puts before es

abbrev pub removals : List Event → ℕ
removals [] = 0
removals (stored k r ∷ es) = removals es
removals (removed k ∷ es) = suc (removals es)
removals (admitted k t ∷ es) = removals es

-- ---- the TVPs (E10)

-- a first put starts at 19930101T000000Z
abbrev pub or_start : Option Bytes → Bytes
or_start none = start
or_start (some t) = t

-- the last TVP accepted for a module: "replacing a certificate keeps the TVP; removing it drops the TVP"
abbrev pub last_tvp : (Names → Option Held) → Names → List Event → Option Bytes
last_tvp before k [] = tvp_of (before k)
last_tvp before k (stored l r ∷ es) = cond (same_names k l) (some (or_start (last_tvp before l es))) (last_tvp before k es)
last_tvp before k (removed l ∷ es) = cond (same_names k l) none (last_tvp before k es)
last_tvp before k (admitted l t ∷ es) = cond (same_names k l) (some t) (last_tvp before k es)

-- the TVPs ts, or none of them where the put was a first put
abbrev pub unless_first : Option Bytes → List Bytes → List Bytes
unless_first none ts = []
unless_first (some r) ts = ts

-- the TVPs of a module's requests that were admitted since its latest first put, the last one first
abbrev pub admitted_of : (Names → Option Held) → Names → List Event → List Bytes
admitted_of before k [] = []
admitted_of before k (stored l r ∷ es) = cond (same_names k l) (unless_first (last_put before l es) (admitted_of before l es)) (admitted_of before k es)
admitted_of before k (removed l ∷ es) = admitted_of before k es
admitted_of before k (admitted l t ∷ es) = cond (same_names k l) (t ∷ admitted_of before l es) (admitted_of before k es)

-- ---- calls, one after another

pub data Call : Type 0 where
  putting : Bytes → Call
  removing : Bytes → Call
  finding : Bytes → Call
  admitting : Bytes → Call
  -- is this a cabinet, how many places are occupied
  checking counting : Call

-- the lent bytes, and the accepted calls so far
pub record Moment : Type 0 where
  pub bytes : Bytes
  pub events : List Event

abbrev pub put_event : Bytes → Reading → Option Event
put_event r (about k g) = some (stored k r)
put_event r (declined n i) = none

abbrev pub remove_event : Reading → Option Event
remove_event (about k g) = some (removed k)
remove_event (declined n i) = none

abbrev pub admit_event : Reading → Option Event
admit_event (about k t) = some (admitted k t)
admit_event (declined n i) = none

abbrev pub onto : Option Event → List Event → List Event
onto none es = es
onto (some e) es = e ∷ es

-- the event counts if the call answered 0
abbrev pub noted : Option Event → Result → List Event → Moment
noted e r es = record { bytes = r.bytes; events = cond (eqb r.no 0) (onto e es) es }

unfoldable pub after_call : Call → Moment → Moment
after_call (putting r) m = noted (put_event r (reads r)) (put_key m.bytes r) m.events
after_call (removing i) m = noted (remove_event (asks i)) (remove_key m.bytes i) m.events
after_call (finding i) m = m
after_call (admitting q) m = noted (admit_event (requests q)) (admit m.bytes q) m.events
after_call checking m = m
after_call counting m = m

unfoldable pub run : List Call → Moment → Moment
run [] m = m
run (c ∷ cs) m = run cs (after_call c m)
