-- `cabinet::writing::write_place` meets its contract.
-- Assumes nothing.
use Rattle.cabinet.proofs.Bytes.{date_fits, both_written}
use Rattle.cabinet.proofs.writing.write_place.Goals as goal

pub write_key-requires : goal.write_key-requires
write_key-requires c = c.requires.key

pub write_tvp-requires : goal.write_tvp-requires
write_tvp-requires c = date_fits c.requires c.write_key.ensures

pub returns : goal.returns
returns c = both_written c.requires c.write_key.ensures c.write_tvp.ensures
