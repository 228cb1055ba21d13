-- `cabinet::naming::subject_in` meets its contract.
-- Assumes nothing.
use Rattle.cabinet.specs.Steps.{subject_at}
use Rattle.cabinet.proofs.naming.subject_in.Goals as goal

pub returns : goal.returns
unfolding subject_at
returns c = c.part.ensures.holds
