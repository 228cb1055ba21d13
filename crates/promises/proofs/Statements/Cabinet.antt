-- The centre's key cabinet: document 02, E8 to E11. What a cabinet is, what each call answers and leaves, and what holds after any list of calls.
-- Assumes nothing.
use Rattle.std.specs.Prelude.{ℕ, zero, suc, ◌+◌, ◌-◌, ◌*◌, ◌<◌, ◌≡◌, ◌↔◌, ◌⊎◌, ◌≢◌, true, false, cond, List, [], ◌∷◌, ◌++◌, length, take, drop, get_or, replicate, T, eqb}
use Rattle.std.proofs.Math.Option.{Option, none, some}
use Rattle.text.specs.Text.{Bytes, ascii, is_timestamp}
use Rattle.text.specs.Part.{Part}
use Rattle.text.specs.Seconds.{seconds, seconds_bytes}
use Rattle.text.specs.Later.{later}
use Rattle.numbers.specs.Numbers.{not_cabinet, not_later, no_place, not_there, tvp_not_later}
use Rattle.format.specs.Kinds.{Kind, SMID, REQ, pubkey_kinds}
use Rattle.format.specs.Requests as load-request
use Rattle.format.specs.Read.{accepted, refused, read_identity, read_of}
use Rattle.format.specs.declared.Rules.{Rules}
use Rattle.format.specs.declared.Rules.TheVariants.{UpToE10}
use Rattle.subjects.specs.Subjects.{manufacturer, mid}
use Rattle.subjects.specs.Keys.{KeyUnder, Key, gnt_of}
use Rattle.subjects.specs.Requests.{Request}
use Rattle.expiry.specs.Expiry.{expiry}
use Rattle.shelf.specs.Places as shelf-places
use Rattle.shelf.specs.Places.{Names, Held, occupied}
use Rattle.shelf.specs.Cabinet.{about, asks, reads, requests, shelf}
use Rattle.shelf.specs.History.{Event, nowhere, held_in, text_of, last_put, first_puts, removals, last_tvp, admitted_of, Moment, put_event, remove_event, admit_event, onto}
use Rattle.cabinet.specs.declared.Filed.{Filed}
use Rattle.cabinet.proofs.make_cabinet.Reads as make-cabinet
use Rattle.cabinet.proofs.check_cabinet.Reads as check-cabinet
use Rattle.cabinet.proofs.count_keys.Reads as count-keys
use Rattle.cabinet.proofs.put_key.Reads as put-key
use Rattle.cabinet.proofs.remove_key.Reads as remove_key
use Rattle.cabinet.proofs.admit.Reads as admit
use Rattle.cabinet.proofs.key_place.Reads as key-place
use Rattle.cabinet.proofs.find_key.Reads as find-key
use Rattle.promises.specs.Calls.{Holds, SomeCall}

-- ---- what a cabinet is

-- place j, from 0
abbrev pub place_in : Bytes → ℕ → Bytes
place_in s j = take 1024 (drop (j * 1024) s)

-- the TVP of a module of which no request was admitted
abbrev pub first_tvp : Bytes
first_tvp = ascii "19930101T000000Z"

-- a TIMESTAMP that is not before it
pub record IsTvp (t : Bytes) : Type 0 where
  pub stamp : T (is_timestamp t)
  pub from_start : later first_tvp t ≡ false

-- the bytes of a place for a public key that some rules accept: its text, zeros, from byte 1000 on the last TVP accepted for its module, and from byte 1016 on the number of its Expiry
abbrev pub place_of : {rules : Rules} {text : Bytes} → KeyUnder rules text → Bytes → Bytes
place_of {rules} {text} k tvp = ((text ++ replicate (1000 - length text) 0) ++ tvp) ++ seconds_bytes (seconds (expiry k.fields))

-- the bytes b of a place are so: what lay in a cabinet stays, so the rules up to E10 say what may stand there
pub record Filled (b : Bytes) : Type 0 where
  pub text : Bytes
  pub key : KeyUnder UpToE10 text
  pub tvp : Bytes
  pub is-tvp : IsTvp tvp
  pub so : b ≡ place_of key tvp

-- the record of a place is old (E11): today's rules do not accept it
abbrev pub Old : Bytes → Type 0
Old text = Key text → ⊥

-- two identities have one kind, Manufacturer and MID
abbrev pub Share : Kind → List Bytes → Kind → List Bytes → Type 0
Share j fs k gs = (j ≡ k) × (manufacturer fs ≡ manufacturer gs) × (mid fs ≡ mid gs)

-- and two public keys share those three
abbrev pub Shared : {rules others : Rules} {a b : Bytes} → KeyUnder rules a → KeyUnder others b → Type 0
Shared p q = Share p.who p.names q.who q.names

pub record IsCabinet (s : Bytes) : Type 0 where
  pub long : length s ≡ 65536
  pub each : (j : ℕ) → j < 64 → (place_in s j ≡ replicate 1024 0) ⊎ Filled (place_in s j)
  pub apart : (i j : ℕ) → i < 64 → j < 64 → (p : Filled (place_in s i)) (q : Filled (place_in s j)) → Shared p.key q.key → i ≡ j

-- the bytes s with v in place j, and every other byte as it was
abbrev pub with_place : Bytes → ℕ → Bytes → Bytes
with_place s j v = (take (j * 1024) s ++ v) ++ drop (j * 1024 + 1024) s

-- the bytes s with the TVP t in place j, and every other byte as it was
abbrev pub with_tvp : Bytes → ℕ → Bytes → Bytes
with_tvp s j t = (take (j * 1024 + 1000) s ++ t) ++ drop (j * 1024 + 1016) s

-- ---- the calls: the bytes that were lent, what else was, the bytes afterwards, and the answer

-- 23 exactly for bytes that are no cabinet, and a refused call leaves all of them
pub record Refuses (s after : Bytes) (no : ℕ) : Type 0 where
  pub no_cabinet : (no ≡ not_cabinet) ↔ (IsCabinet s → ⊥)
  pub untouched : no ≢ 0 → after ≡ s

pub record PutSaid (s r after : Bytes) (x : Filed) : Type 0 where
  pub refuses : Refuses s after x.no
  -- the record's own numbers before 24 and 25
  pub own : IsCabinet s → (n i : ℕ) → read_of pubkey_kinds r ≡ refused n i → x ≡ record { no = n; field = i }
  -- 24 exactly where a record that shares the three is there, old or not, and the GNT is not later: earlier or equal
  pub not-later : IsCabinet s
      → (x.no ≡ not_later) ↔ ((p : Key r) × (j : ℕ) × (j < 64) × (q : Filled (place_in s j)) × Shared p q.key × (later (gnt_of p) (gnt_of q.key) ≡ false))
  -- 25 exactly where 64 records of other subjects are there
  pub no_place : IsCabinet s → (x.no ≡ no_place) ↔ ((p : Key r) × ((j : ℕ) → j < 64 → (q : Filled (place_in s j)) × (Shared p q.key → ⊥)))
  -- a replacement, of an old record too, stays in its place and keeps the TVP
  pub replaces : IsCabinet s → (p : Key r) (j : ℕ) → j < 64 → (q : Filled (place_in s j)) → Shared p q.key → later (gnt_of p) (gnt_of q.key) ≡ true
      → (x.no ≡ 0) × (after ≡ with_place s j (place_of p q.tvp))
  -- a first put takes the lowest free place, and its TVP is the first one
  pub first : IsCabinet s → (p : Key r) → ((j : ℕ) → j < 64 → (q : Filled (place_in s j)) → Shared p q.key → ⊥)
      → (j : ℕ) → j < 64 → place_in s j ≡ replicate 1024 0 → ((i : ℕ) → i < j → Filled (place_in s i))
      → (x.no ≡ 0) × (after ≡ with_place s j (place_of p first_tvp))

-- a record of the names of an accepted identity is in place j; GNT and Fingerprint of the identity may differ
abbrev pub There : Bytes → Kind → List Bytes → ℕ → Type 0
There s who fs j = (j < 64) × (q : Filled (place_in s j)) × Share who fs q.key.who q.key.names

pub record RemoveSaid (s i after : Bytes) (x : Filed) : Type 0 where
  pub refuses : Refuses s after x.no
  pub own : IsCabinet s → (n j : ℕ) → read_identity i ≡ refused n j → x ≡ record { no = n; field = j }
  -- 26 exactly where nothing of its names is there
  pub not_there : IsCabinet s
      → (x.no ≡ not_there) ↔ ((who : Kind) × (fs : List Bytes) × (read_identity i ≡ accepted who fs) × ((j : ℕ) → There s who fs j → ⊥))
  -- and else the place is all zeros, the TVP too, whether the record was old or not
  pub removes : IsCabinet s → (who : Kind) (fs : List Bytes) → read_identity i ≡ accepted who fs → (j : ℕ) → There s who fs j
      → (x.no ≡ 0) × (after ≡ with_place s j (replicate 1024 0))

-- the module of an accepted request, by kind, Manufacturer and MID of its ID_SM, is in place j
abbrev pub Module : Bytes → {q : Bytes} → Request q → ℕ → Type 0
Module s r j = There s SMID r.names j

abbrev pub tvp_of : {q : Bytes} → Request q → Bytes
tvp_of r = load-request.tvp r.fields

pub record AdmitSaid (s q after : Bytes) (x : Filed) : Type 0 where
  pub refuses : Refuses s after x.no
  -- the request's own numbers before 26 and 27
  pub own : IsCabinet s → (n i : ℕ) → read_of (REQ ∷ []) q ≡ refused n i → x ≡ record { no = n; field = i }
  -- 26 exactly where its module is not there, or its record is old
  pub not_there : IsCabinet s → (x.no ≡ not_there) ↔ ((r : Request q) × ((j : ℕ) (m : Module s r j) → Old m.1.text))
  -- 27 exactly where it is there and not old, and the TVP is not later than the stored one: earlier or equal
  pub not-later : IsCabinet s → (x.no ≡ tvp_not_later) ↔ ((r : Request q) × (j : ℕ) × (m : Module s r j) × Key m.1.text × (later (tvp_of r) m.1.tvp ≡ false))
  -- and else the TVP is stored, and nothing else changes
  pub admits : IsCabinet s → (r : Request q) (j : ℕ) (m : Module s r j) → Key m.1.text → later (tvp_of r) m.1.tvp ≡ true → (x.no ≡ 0) × (after ≡ with_tvp s j (tvp_of r))

pub record FindSaid (s i : Bytes) (no field start : ℕ) (text : Bytes) : Type 0 where
  pub no_cabinet : (no ≡ not_cabinet) ↔ (IsCabinet s → ⊥)
  pub own : IsCabinet s → (n j : ℕ) → read_identity i ≡ refused n j → (no ≡ n) × (field ≡ j)
  -- 26 exactly where nothing of its names is there, or an old record
  pub not_there : IsCabinet s
      → (no ≡ not_there) ↔ ((who : Kind) × (fs : List Bytes) × (read_identity i ≡ accepted who fs) × ((j : ℕ) (t : There s who fs j) → Old t.1.text))
  -- the record in its place, where it is not old
  pub found : IsCabinet s → (who : Kind) (fs : List Bytes) → read_identity i ≡ accepted who fs → (j : ℕ) (t : There s who fs j) → Key t.1.text
      → (no ≡ 0) × (start ≡ j * 1024) × (text ≡ t.1.text)
  -- demand 1
  pub nothing : no ≢ 0 → (start ≡ 0) × (text ≡ [])

-- ---- any list of calls of the code

-- one call took the moment m to n: it was lent the bytes of m, and a put, a removal or an admission counts where it answered 0; the others are lent the bytes to look at
abbrev pub Counts : Moment → Moment → Option Event → ℕ → Bytes → Type 0
Counts m n e number after = n ≡ record { bytes = after; events = cond (eqb number 0) (onto e m.events) m.events }

abbrev pub Step : Moment → Moment → Type 0
Step m n =
    SomeCall put-key.Post (λ κs a r s. (a.0.now ≡ m.bytes) × Counts m n (put_event a.1.0.now (reads a.1.0.now)) r.no s.0.now)
    ⊎ SomeCall remove_key.Post (λ κs a r s. (a.0.now ≡ m.bytes) × Counts m n (remove_event (asks a.1.0.now)) r.no s.0.now)
    ⊎ SomeCall admit.Post (λ κs a r s. (a.0.now ≡ m.bytes) × Counts m n (admit_event (requests a.1.0.now)) r.no s.0.now)
    ⊎ SomeCall find-key.Post (λ κs a r s. (a.0.now ≡ m.bytes) × (n ≡ m))
    ⊎ SomeCall key-place.Post (λ κs a r s. (a.0.now ≡ m.bytes) × (n ≡ m))
    ⊎ SomeCall check-cabinet.Post (λ κs a r s. (a.0.now ≡ m.bytes) × (n ≡ m))
    ⊎ SomeCall count-keys.Post (λ κs a r s. (a.0.now ≡ m.bytes) × (n ≡ m))

-- so many calls, one after another
abbrev pub Ran : ℕ → Moment → Moment → Type 0
Ran zero m n = n ≡ m
Ran (suc k) m n = (l : Moment) × Step m l × Ran k l n

-- what find gives for the record t that is there, or for nothing
abbrev pub Gives : Option Bytes → Bytes → ℕ → Type 0
Gives none part number = number ≡ not_there
Gives (some t) part number = (Key t → (number ≡ 0) × (part ≡ t)) × (Old t → number ≡ not_there)

-- what is answered to a request with the TVP t, whose module has this last TVP, or is not there
abbrev pub answer_to : Option Bytes → Bytes → ℕ
answer_to none t = not_there
answer_to (some u) t = cond (later t u) 0 tvp_not_later

-- the same, where the module's record may be old
abbrev pub Answers : Option Bytes → Option Bytes → Bytes → ℕ → Type 0
Answers none u t number = number ≡ not_there
Answers (some r) u t number = (Key r → number ≡ answer_to u t) × (Old r → number ≡ not_there)

-- of TVPs, the last one first: of two of them the one that was admitted later is later
abbrev pub Rise : List Bytes → Type 0
Rise ts = (i j : ℕ) → i < j → j < length ts → later (get_or ts i []) (get_or ts j []) ≡ true

-- and no two of them are the same
abbrev pub Unshared : List Bytes → Type 0
Unshared ts = (i j : ℕ) → i < j → j < length ts → get_or ts i [] ≢ get_or ts j []

abbrev pub AmongThem : Bytes → List Bytes → Type 0
AmongThem t ts = (i : ℕ) × (i < length ts) × (t ≡ get_or ts i [])

-- at the moment m, where so many records were there `before` the calls
pub record Remembers (before : Names → Option Held) (many : ℕ) (m : Moment) : Type 0 where
  -- the occupied places number what was there and the accepted first puts, less the accepted removals
  pub number : Holds count-keys.Post (λ κs a r s. a.0.now ≡ m.bytes → (r.no ≡ 0) × (r.count + removals m.events ≡ many + first_puts before m.events))
  -- find gives the last accepted put that was not removed: the very bytes that were put; an old record is missing
  pub finds : Holds find-key.Post
      (λ κs a r s. a.0.now ≡ m.bytes → (k : Names) (g : Bytes) → asks a.1.0.now ≡ about k g → Gives (last_put before k m.events) r.now s.1.1.0.now)
  -- an old record was there before the calls: none puts one in
  pub olds : (k : Names) (r : Bytes) → last_put before k m.events ≡ some r → Old r → text_of (before k) ≡ some r
  -- a request is admitted exactly if its module is there, with a record that is not old, and its TVP is later than the last one accepted for it
  pub admits : Holds admit.Post
      (λ κs a r s. a.0.now ≡ m.bytes → (k : Names) (t : Bytes) → requests a.1.0.now ≡ about k t → Answers (last_put before k m.events) (last_tvp before k m.events) t r.no)
  -- two requests of a module admitted since its latest first put never share a TVP; their TVPs rise
  pub unshared : (k : Names) → Unshared (admitted_of before k m.events)
  pub rise : (k : Names) → Rise (admitted_of before k m.events)
  -- so a request that comes back is not admitted a second time
  pub comes_back : Holds admit.Post
      (λ κs a r s. a.0.now ≡ m.bytes → (k : Names) (t : Bytes) → requests a.1.0.now ≡ about k t → AmongThem t (admitted_of before k m.events) → r.no ≢ 0)

abbrev pub begun : Bytes → Moment
begun s = record { bytes = s; events = [] }

pub record Cabinet : Type 0 where
  pub made : Holds make-cabinet.Post
      (λ κs a r s. (length a.0.now ≡ 65536 → (r.no ≡ 0) × (s.0.now ≡ replicate 65536 0))
      × (length a.0.now ≢ 65536 → (r.no ≡ not_cabinet) × (s.0.now ≡ a.0.now)))
  pub checked : Holds check-cabinet.Post (λ κs a r s. ((r.no ≡ 0) ↔ IsCabinet a.0.now) × ((r.no ≡ not_cabinet) ↔ (IsCabinet a.0.now → ⊥)))
  pub counted : Holds count-keys.Post
      (λ κs a r s. ((r.no ≡ 0) ↔ IsCabinet a.0.now) × ((r.no ≡ not_cabinet) ↔ (IsCabinet a.0.now → ⊥)) × (r.no ≢ 0 → r.count ≡ 0))
  pub put : Holds put-key.Post (λ κs a r s. PutSaid a.0.now a.1.0.now s.0.now r)
  pub removed : Holds remove_key.Post (λ κs a r s. RemoveSaid a.0.now a.1.0.now s.0.now r)
  pub admitted : Holds admit.Post (λ κs a r s. AdmitSaid a.0.now a.1.0.now s.0.now r)
  pub place : Holds key-place.Post (λ κs a r s. FindSaid a.0.now a.1.0.now r.no r.field r.start (take r.len (drop r.start a.0.now)))
  -- what is found is a part of the lent bytes
  pub found : Holds find-key.Post
      (λ κs a r s. (start : ℕ) × Part a.0 start r.now r × FindSaid a.0.now a.1.0.now s.1.1.0.now s.1.1.1.0.now start r.now)
  -- the history, since it was made empty
  pub history : Holds make-cabinet.Post (λ κs a r s. r.no ≡ 0 → (n : ℕ) (m : Moment) → Ran n (begun s.0.now) m → Remembers nowhere 0 m)
  -- of which nothing is old, so that find gives every accepted put that was not removed
  pub none_old : Holds make-cabinet.Post (λ κs a r s. r.no ≡ 0 → (n : ℕ) (m : Moment) → Ran n (begun s.0.now) m → (k : Names) (t : Bytes) → last_put nowhere k m.events ≡ some t → Key t)
  -- and from any image that is a cabinet
  pub from_image : (s : Bytes) → IsCabinet s → (ps : List shelf-places.Place) × (shelf s ≡ some ps) × ((n : ℕ) (m : Moment) → Ran n (begun s) m → Remembers (held_in ps) (occupied ps) m)
