-- What the private functions of the crate answer. No clause of a document stands here.
-- Assumes nothing.
use Rattle.std.specs.Prelude.{ℕ, Bool, ◌&&◌}
use Rattle.text.specs.Text.{Bytes, same}

-- a response answers a request, of which the fields by number, from 1, are these
abbrev pub answers_at : (ℕ → Bytes) → (ℕ → Bytes) → Bool
answers_at f g = same (f 2) (g 1) && same (f 1) (g 2) && same (f 3) (g 3)
