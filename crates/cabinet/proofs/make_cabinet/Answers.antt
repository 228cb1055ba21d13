-- `cabinet::make_cabinet` meets its contract.
-- Assumes nothing.
use Rattle.cabinet.proofs.Calls.{make_short, make_done}
use Rattle.cabinet.proofs.make_cabinet.Goals as goal

pub returns-then-cabinet-ne-SIZE : goal.returns-then-cabinet-ne-SIZE
returns-then-cabinet-ne-SIZE c = make_short c.args.cabinet.now c.if-cabinet-ne-SIZE.true c.file.ensures

pub returns : goal.returns
returns c = make_done c.args.cabinet.now c.if-cabinet-ne-SIZE.false c.fill.ensures c.file-2.ensures
