-- `text::moment::is_later` meets its contract.
-- Assumes nothing.
use mathlib.Core.Path.{ap₂}
use lib.Signed.{lt_z}
use Rattle.text.specs.Later.{later}
use Rattle.text.proofs.Seconds.{moment_back}
use Rattle.text.proofs.moment.is_later.Goals as goal

pub returns : goal.returns
unfolding later
returns c = ap₂ lt_z (moment_back _ c.moment_of.ensures) (moment_back _ c.moment_of-2.ensures)
