-- `fingerprint::hash_of` meets its contract.
-- Assumes nothing.
use mathlib.Core.Path.{◌∙◌}
use Rattle.hashing.specs.State.{added_all}
use Rattle.fingerprint.proofs.Prints.{hashed_pieces}
use Rattle.fingerprint.proofs.hash_of.Goals as goal

pub returns : goal.returns
unfolding added_all
returns c = c.end.ensures ∙ rw (c.add-2.ensures, c.add.ensures, c.add-named.ensures, c.begin.ensures, c.front_of.ensures, c.field_at-q.ensures.holds, c.field_at-subject.ensures.holds) (hashed_pieces _ _)
