-- How long a printed line is: its parts, and 22 and 16 characters at most where no number is above 65,536.
-- Assumes nothing.
use Prim.Native.Nat.{ℕ, ◌+◌, ◌≤◌, ◌<◌}
use mathlib.Core.Path.{◌≡◌}
use native.Mathlib.Omega.{arith}
use lib.ListN.{length, length-append}
use Rattle.format.specs.Files.{line_feed}
use Rattle.list_text.specs.Listing.{space, before, line_text, end_text, most}
use Rattle.list_text.proofs.Decimal.{before_six, before_four}

pub line_parts : (number start size said : ℕ) → length (line_text number start size said)
    ≡ length (before space number) + length (before space start) + length (before space size) + length (before line_feed said)
unfolding line_text
line_parts number start size said = simp length-append (omega arith)

pub end_parts : (lines accepted : ℕ) → length (end_text lines accepted) ≡ 4 + length (before space lines) + length (before line_feed accepted)
unfolding end_text
end_parts lines accepted = simp length-append (omega arith)

pub line_length : (number start size said : ℕ) → number ≤ most → start ≤ most → size ≤ most → said < 256 → length (line_text number start size said) ≤ 22
line_length number start size said a b c d =
    omega (arith, line_parts number start size said, before_six space number (omega arith), before_six space start (omega arith), before_six space size (omega arith), before_four line_feed said (omega arith))

pub end_length : (lines accepted : ℕ) → lines ≤ most → accepted ≤ most → length (end_text lines accepted) ≤ 16
end_length lines accepted a b =
    omega (arith, end_parts lines accepted, before_six space lines (omega arith), before_six line_feed accepted (omega arith))
