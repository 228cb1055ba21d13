-- `trailed::hash_of` meets its contract.
-- Assumes nothing.
use mathlib.Core.Path.{◌∙◌, ap}
use Rattle.sha_1.specs.State.{ended}
use Rattle.sha_1.proofs.Pieces.{begun_then, ended_once}
use Rattle.trailed.proofs.hash_of.Goals as goal

pub returns : goal.returns
returns c = c.end.ensures ∙ ap ended (rw (c.add-2.ensures, c.add.ensures, c.begin-begun.ensures) (begun_then _ _)) ∙ ended_once _
