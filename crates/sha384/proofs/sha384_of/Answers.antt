-- `sha384::sha384_of` meets its contract.
-- Assumes nothing.
use Rattle.std.proofs.Common.{ap, ◌∙◌}
use Rattle.sha384.specs.declared.Sha384.{Sha384}
use Rattle.sha384.specs.State.{added, ended}
use Rattle.sha384.proofs.Pieces.{ended_once}
use Rattle.sha384.proofs.sha384_of.Goals as goal

pub returns : goal.returns
returns c = c.end.ensures ∙ ap ended (c.add.ensures ∙ ap (λ (s : Sha384). added s c.args.bytes.now) c.begin.ensures) ∙ ended_once c.args.bytes.now
