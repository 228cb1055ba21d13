-- The next word of a message schedule is made of words that stand before it; and what a round has by its number.
-- Assumes nothing.
use Rattle.std.proofs.Common.{◌≡◌, ℕ, ◌+◌, ◌<◌, ◌≤◌, List, take, arith, get_or-take, le-ltb, lt-ltb}
use Rattle.sha_1.specs.Sha1.{by_twenty, next}

pub next_front : (w : List ℕ) (n : ℕ) → next w n ≡ next (take (n + 16) w) n
next_front w n = rw (get_or-take (n + 16) w (n + 13) 0 (omega arith), get_or-take (n + 16) w (n + 8) 0 (omega arith), get_or-take (n + 16) w (n + 2) 0 (omega arith), get_or-take (n + 16) w n 0 (omega arith))

module _ (t a b c d : ℕ) where
  pub in_first : t < 20 → by_twenty t a b c d ≡ a
  unfolding by_twenty
  in_first h = rw (lt-ltb t 20 h)

  pub in_second : 20 ≤ t → t < 40 → by_twenty t a b c d ≡ b
  unfolding by_twenty
  in_second l h = rw (le-ltb t 20 l, lt-ltb t 40 h)

  pub in_third : 40 ≤ t → t < 60 → by_twenty t a b c d ≡ c
  unfolding by_twenty
  in_third l h = rw (le-ltb t 20 (omega arith), le-ltb t 40 l, lt-ltb t 60 h)

  pub in_fourth : 60 ≤ t → by_twenty t a b c d ≡ d
  unfolding by_twenty
  in_fourth l = rw (le-ltb t 20 (omega arith), le-ltb t 40 (omega arith), le-ltb t 60 l)
