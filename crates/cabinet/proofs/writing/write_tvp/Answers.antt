-- `cabinet::writing::write_tvp` meets its contract.
-- Assumes nothing.
use Rattle.cabinet.proofs.Bytes.{tvp_written}
use Rattle.cabinet.proofs.writing.write_tvp.Goals as goal

pub returns : goal.returns
returns c = tvp_written c.requires c.fill.ensures
