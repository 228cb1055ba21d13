-- `cabinet::count_keys` meets its contract.
-- Assumes nothing.
use Rattle.cabinet.proofs.Calls.{count_23, count_0, its_size}
use Rattle.cabinet.proofs.count_keys.Goals as goal

pub returns-then-not-is_cabinet : goal.returns-then-not-is_cabinet
returns-then-not-is_cabinet c = count_23 c.args.cabinet.now c.if-not-is_cabinet.ensures

pub occupied_in-requires : goal.occupied_in-requires
occupied_in-requires c = record { long = its_size c.args.cabinet.now c.if-not-is_cabinet.ensures }

pub returns : goal.returns
returns c = count_0 c.args.cabinet.now c.if-not-is_cabinet.ensures c.occupied_in.ensures
