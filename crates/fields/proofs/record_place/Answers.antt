-- `fields::record_place` meets its contract: the rows from ECDSA on are all the record kinds.
-- Assumes nothing.
use Rattle.reading.proofs.Calls.{record_is}
use Rattle.fields.proofs.record_place.Goals as goal

pub returns : goal.returns
returns c = rw (record_is _) c.place_of.ensures
