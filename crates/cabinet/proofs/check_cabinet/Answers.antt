-- `cabinet::check_cabinet` meets its contract.
-- Assumes nothing.
use Rattle.cabinet.proofs.Calls.{check_23, check_0}
use Rattle.cabinet.proofs.check_cabinet.Goals as goal

pub returns-then-not-is_cabinet : goal.returns-then-not-is_cabinet
returns-then-not-is_cabinet c = check_23 c.args.cabinet.now c.if-not-is_cabinet.ensures c.file.ensures

pub returns : goal.returns
returns c = check_0 c.args.cabinet.now c.if-not-is_cabinet.ensures c.file-2.ensures
