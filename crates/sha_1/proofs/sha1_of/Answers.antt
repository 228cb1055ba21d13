-- `sha_1::sha1_of` meets its contract.
-- Assumes nothing.
use Rattle.std.proofs.Common.{ap, ◌∙◌}
use Rattle.sha_1.specs.declared.Sha1.{Sha1}
use Rattle.sha_1.specs.State.{added, ended}
use Rattle.sha_1.proofs.Pieces.{ended_once}
use Rattle.sha_1.proofs.sha1_of.Goals as goal

pub returns : goal.returns
returns c = c.end.ensures ∙ ap ended (c.add.ensures ∙ ap (λ (s : Sha1). added s c.args.bytes.now) c.begin.ensures) ∙ ended_once c.args.bytes.now
