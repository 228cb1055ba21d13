-- `crc16::Crc::add` meets its contract, by what `eight` ensures.
-- Assumes nothing.
use Rattle.crc16.specs.Crc.{add}
use Rattle.crc16.proofs.Crc.add.Goals as goal

pub returns : goal.returns
unfolding add
returns c = c.eight.ensures
