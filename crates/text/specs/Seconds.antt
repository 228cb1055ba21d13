-- A TIMESTAMP as a number: document 02, E9. "The seconds since 19930101T000000Z, signed, as the calendar of E2 counts them without leap seconds", and in the cabinet
-- "big-endian two's complement in the last eight bytes".
-- Assumes nothing.
use Rattle.std.specs.Prelude.{ℕ, zero, suc, ◌+◌, ◌-◌, ◌*◌, ◌/◌, ◌%◌, ◌^◌, true, false, cond, [], ◌∷◌, ◌++◌, ℤ, pos, negsuc}
use Rattle.std.proofs.Math.IntN.{sub_ℕ}
use Rattle.text.specs.Calendar.{days_before}
use Rattle.text.specs.Text.{Bytes, ascii, year, month, day, hour, minute, second, is_timestamp}
use Rattle.text.specs.declared.moment.Moment.{Moment}

-- every day has 86,400 seconds
unfoldable pub since_year_one : Bytes → ℕ
since_year_one s = 86400 * days_before (year s) (month s) (day s) + (3600 * hour s + 60 * minute s + second s)

abbrev pub start : Bytes
start = ascii "19930101T000000Z"

-- of a TIMESTAMP; negative before the start
unfoldable pub seconds : Bytes → ℤ
seconds s = sub_ℕ (since_year_one s) (since_year_one start)

-- what the date call answers: 0 with a text that is no TIMESTAMP
unfoldable pub moment_of : Bytes → Moment
moment_of s = cond (is_timestamp s) (record { valid = true; seconds = seconds s }) (record { valid = false; seconds = pos 0 })

-- ---- eight bytes

abbrev pub twos_complement : ℤ → ℕ
twos_complement (pos n) = n
twos_complement (negsuc n) = 2 ^ 64 - suc n

-- the lowest n bytes of a number, the highest of them first
abbrev pub big_endian : ℕ → ℕ → Bytes
big_endian zero x = []
big_endian (suc n) x = big_endian n (x / 256) ++ (x % 256 ∷ [])

unfoldable pub seconds_bytes : ℤ → Bytes
seconds_bytes z = big_endian 8 (twos_complement z)
