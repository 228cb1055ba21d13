-- `trailed::trailer_of` meets its contract.
-- Assumes nothing.
use Rattle.trailed.proofs.Calls.{trailer_written}
use Rattle.trailed.proofs.trailer_of.Goals as goal

pub returns : goal.returns
returns c = trailer_written c.args.record.now c.hash_of-hash.result c.hash_of-hash.ensures c.put_hex.ensures
