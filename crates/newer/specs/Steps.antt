-- What the private functions of the crate answer. No clause of a document stands here.
-- Assumes nothing.
use Rattle.std.specs.Prelude.{◌≡◌, List}
use Rattle.text.specs.Text.{Bytes}
use Rattle.format.specs.Kinds.{Kind}
use Rattle.format.specs.Read.{accepted, read_identity}

-- s is an accepted identity
pub record Named (s : Bytes) : Type 0 where
  pub who : Kind
  pub names : List Bytes
  pub known : read_identity s ≡ accepted who names
