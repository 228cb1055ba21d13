-- A date as a number: document 02, E9. How the seconds are counted, that they are the order of the texts, and when a public key expires.
-- Assumes nothing.
use Rattle.std.specs.Prelude.{ℕ, suc, ◌+◌, ◌*◌, ◌≡◌, ◌↔◌, ◌⊎◌, true, false, drop, T, pos, ◌+ℤ◌, ◌<ℤ◌}
use Rattle.text.specs.Calendar.{days_of_month}
use Rattle.text.specs.Text.{Bytes, ascii, after, year, month, day, hour, minute, second, is_timestamp}
use Rattle.text.specs.Seconds.{seconds, seconds_bytes}
use Rattle.text.specs.Later.{instant}
use Rattle.text.proofs.moment_of.Reads as moment-of
use Rattle.text.proofs.is_later.Reads as is_later
use Rattle.text.proofs.seconds_bytes.Reads as seconds-bytes
use Rattle.format.specs.Kinds.{pubkey_kinds}
use Rattle.format.specs.Read.{refused, read_of}
use Rattle.subjects.specs.Keys.{Key}
use Rattle.expiry.specs.Expiry.{expiry}
use Rattle.expiry.proofs.expiry_of.Reads as expiry-of
use Rattle.promises.specs.Calls.{Holds}
use Rattle.promises.proofs.Statements.Cabinet.{Filled}

-- the date of t is the day after that of s: in the same month, the first of the next month, or 1 January of the next year
abbrev pub DayAfter : Bytes → Bytes → Type 0
DayAfter s t =
    ((year t ≡ year s) × (month t ≡ month s) × (day t ≡ suc (day s)))
    ⊎ ((day s ≡ days_of_month (year s) (month s)) × (year t ≡ year s) × (month t ≡ suc (month s)) × (day t ≡ 1))
    ⊎ ((day s ≡ days_of_month (year s) (month s)) × (month s ≡ 12) × (year t ≡ suc (year s)) × (month t ≡ 1) × (day t ≡ 1))

abbrev pub SameDay : Bytes → Bytes → Type 0
SameDay s t = (year t ≡ year s) × (month t ≡ month s) × (day t ≡ day s)

-- the seconds of a day that are over
abbrev pub clock : Bytes → ℕ
clock s = 3600 * hour s + 60 * minute s + second s

-- t is the next day at the time of s
abbrev pub Follows : Bytes → Bytes → Type 0
Follows s t = T (is_timestamp s) × T (is_timestamp t) × DayAfter s t × (clock t ≡ clock s)

pub record Dates : Type 0 where
  -- the date call: the seconds of a TIMESTAMP, and 0 with any other text
  pub called : Holds moment-of.Post
      (λ κs a r s. (r.valid ≡ is_timestamp a.0.now) × (is_timestamp a.0.now ≡ true → r.seconds ≡ seconds a.0.now) × (is_timestamp a.0.now ≡ false → r.seconds ≡ pos 0))
  -- ---- how they are counted: from the start, 86,400 for each day, and within a day by hours, minutes and seconds

  pub start : seconds (ascii "19930101T000000Z") ≡ pos 0
  pub next_day : (s t : Bytes) → Follows s t → seconds t ≡ seconds s +ℤ pos 86400
  pub same_day : (s t : Bytes) → T (is_timestamp s) → T (is_timestamp t) → SameDay s t → seconds t +ℤ pos (clock s) ≡ seconds s +ℤ pos (clock t)
  -- ---- the order of the texts is the order of the seconds

  pub order : (s t : Bytes) → T (is_timestamp s) → T (is_timestamp t) → (after s t ≡ true) ↔ (seconds t <ℤ seconds s)
  pub equal : (s t : Bytes) → T (is_timestamp s) → T (is_timestamp t) → seconds s ≡ seconds t → s ≡ t
  -- what the newer key and the cabinet compare by; of the parts of the date the first that differs decides
  pub later_so : Holds is_later.Post
      (λ κs a r s. T (is_timestamp a.0.now) → T (is_timestamp a.1.0.now) → (r ≡ after a.0.now a.1.0.now) × (r ≡ after (instant a.0.now) (instant a.1.0.now)))
  -- ---- eight bytes

  pub stored : Holds seconds-bytes.Post (λ κs a r s. r ≡ seconds_bytes a.0)
  -- they determine the TIMESTAMP
  pub eight : (s t : Bytes) → T (is_timestamp s) → T (is_timestamp t) → seconds_bytes (seconds s) ≡ seconds_bytes (seconds t) → s ≡ t
  -- ---- public keys

  -- the record's own numbers before all
  pub expires : Holds expiry-of.Post
      (λ κs a r s. ((k : Key a.0.now) → r ≡ record { no = 0; field = 0; seconds = seconds (expiry k.fields) })
      × ((n i : ℕ) → read_of pubkey_kinds a.0.now ≡ refused n i → r ≡ record { no = n; field = i; seconds = pos 0 }))
  -- the number in a place of a cabinet determines the text of Expiry there
  pub in_place : (b c : Bytes) (p : Filled b) (q : Filled c) → drop 1016 b ≡ drop 1016 c → expiry p.key.fields ≡ expiry q.key.fields
