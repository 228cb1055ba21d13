-- `cabinet::is_cabinet` meets its contract.
-- Assumes nothing.
use mathlib.Core.Path.{◌∙◌}
use Rattle.cabinet.proofs.Cabinets.{cabinet_long, cabinet_bad, cabinet_so}
use Rattle.cabinet.proofs.is_cabinet.Goals as goal

pub returns-then-cabinet-ne-SIZE : goal.returns-then-cabinet-ne-SIZE
returns-then-cabinet-ne-SIZE c = cabinet_long c.args.cabinet.now c.if-cabinet-ne-SIZE.true

pub are_places-requires : goal.are_places-requires
are_places-requires c = record { long = c.if-cabinet-ne-SIZE.false }

pub returns-else-are_places : goal.returns-else-are_places
returns-else-are_places c = c.if-are_places.false ∙ cabinet_bad c.args.cabinet.now c.if-cabinet-ne-SIZE.false c.if-are_places.ensures

pub are_distinct-requires : goal.are_distinct-requires
are_distinct-requires c = record { long = c.if-cabinet-ne-SIZE.false }

pub returns-then-are_places : goal.returns-then-are_places
returns-then-are_places c = c.are_distinct.ensures ∙ cabinet_so c.args.cabinet.now c.if-cabinet-ne-SIZE.false c.if-are_places.ensures
