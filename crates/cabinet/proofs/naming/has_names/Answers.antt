-- `cabinet::naming::has_names` meets its contract.
-- Assumes nothing.
use mathlib.Core.Path.{refl, ap, ◌∙◌}
use Rattle.text.proofs.Loops.{rest_got}
use Rattle.cabinet.proofs.Bytes.{starts_there}
use Rattle.cabinet.proofs.naming.has_names.Goals as goal

pub returns : goal.returns
returns c =
    let rest = ap (λ b. b.now) c.unwrap_or.ensures ∙ rest_got c.args.place.now c.get.result _ refl c.get.ensures.lookup in
    c.starts_with.ensures.value ∙ starts_there c.args.place.now c.args.names.now c.part_start-start.ensures rest
