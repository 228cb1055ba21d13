-- `cabinet::naming::names_in` meets its contract.
-- Assumes nothing.
use mathlib.Core.Path.{refl, ap, ◌∙◌}
use Rattle.cabinet.proofs.Bytes.{names_got}
use Rattle.cabinet.proofs.naming.names_in.Goals as goal

pub returns : goal.returns
returns c = ap (λ b. b.now) c.unwrap_or.ensures ∙ names_got c.args.identity.now c.part_start-end.ensures c.get.result _ refl c.get.ensures.lookup
