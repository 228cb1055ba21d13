-- What the promises of the choice speak of: two accepted public keys with their Subjects that agree.
-- Assumes nothing.
use Rattle.std.specs.Prelude.{◌≡◌}
use Rattle.text.specs.Text.{Bytes}
use Rattle.subjects.specs.Subjects.{manufacturer, mid}
pub use Rattle.subjects.specs.Keys.{Key, gnt_of}

-- a and b are accepted public keys whose Subjects agree in kind, Manufacturer and MID
pub record Agreed (a b : Bytes) : Type 0 where
  pub one : Key a
  pub other : Key b
  pub kinds : one.who ≡ other.who
  pub manufacturers : manufacturer one.names ≡ manufacturer other.names
  pub mids : mid one.names ≡ mid other.names
