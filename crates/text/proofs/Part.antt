-- A part of the caller's bytes, said otherwise.
-- Assumes nothing.
use Prim.Native.Nat.{ℕ}
use mathlib.Core.Path.{◌≡◌}
use denote.Ref.{Bor}
use Rattle.text.specs.Text.{Bytes}
use Rattle.text.specs.Part.{Part}

-- it starts at b where it starts at a, and holds y where it holds x
pub same_part : {s r : Bor Bytes} {a b : ℕ} {x y : Bytes} → a ≡ b → x ≡ y → Part s a x r → Part s b y r
same_part e f p = rw (← e, ← f) p
