-- The next word of a message schedule is made of words that stand before it.
-- Assumes nothing.
use Rattle.std.proofs.Common.{◌≡◌, ℕ, ◌+◌, List, take, arith, get_or-take}
use Rattle.sha384.specs.Sha384.{next}

pub next_front : (w : List ℕ) (n : ℕ) → next w n ≡ next (take (n + 16) w) n
next_front w n = rw (get_or-take (n + 16) w (n + 14) 0 (omega arith), get_or-take (n + 16) w (n + 9) 0 (omega arith), get_or-take (n + 16) w (n + 1) 0 (omega arith), get_or-take (n + 16) w n 0 (omega arith))
