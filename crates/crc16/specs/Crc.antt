-- CRC16-MODBUS: STS 600-4-2, clause 5.5, and document 01, "Seven kinds of record": start FFFF hex, reflected, feedback
-- A001 hex, no final change; a small state, begun, given one byte after another, ended.
-- A state is a number below 65536, a byte one below 256. A001 is the clause's polynomial 8005 with its bits reversed.
-- Assumes nothing.
use Rattle.std.specs.Prelude.{ℕ, zero, suc, ◌*◌, ◌/◌, ◌%◌, List, [], ◌∷◌}
use Rattle.std.specs.Int.Bits.{bit_xor}

-- begun
abbrev pub begin : ℕ
begin = 0xFFFF

-- one bit: the state moves down one place, and where a 1 falls out the feedback is mixed in
unfoldable pub bit_step : ℕ → ℕ
bit_step s = bit_xor (s / 2) (s % 2 * 0xA001)

-- n bits
unfoldable pub bit_steps : ℕ → ℕ → ℕ
bit_steps zero s = s
bit_steps (suc n) s = bit_steps n (bit_step s)

-- given one byte: it is mixed into the low end, and its eight bits are stepped through
unfoldable pub add : ℕ → ℕ → ℕ
add s b = bit_steps 8 (bit_xor s b)

-- given one byte after another
unfoldable pub add_all : ℕ → List ℕ → ℕ
add_all s [] = s
add_all s (b ∷ bs) = add_all (add s b) bs

-- ended: no final change
abbrev pub end : ℕ → ℕ
end s = s

-- the check of a list of bytes
unfoldable pub crc_of : List ℕ → ℕ
crc_of bs = end (add_all begin bs)
