-- `sha384::blocks::hash_both` meets its contract: the constants are those of FIPS 180-4, 4.2.3.
-- Assumes nothing.
use Rattle.std.proofs.Common.{refl, ◌∙◌}
use Rattle.sha384.specs.Sha384.{K}
use Rattle.sha384.proofs.blocks.hash_both.Goals as goal

pub hash_by-requires : goal.hash_by-requires
unfolding K
hash_by-requires c = refl

pub hash_by-requires-2 : goal.hash_by-requires-2
unfolding K
hash_by-requires-2 c = refl

pub returns : goal.returns
returns c = c.hash_by-2.ensures ∙ rw c.hash_by.ensures
