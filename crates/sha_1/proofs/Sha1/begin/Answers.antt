-- `sha_1::Sha1::begin` meets its contract: the initial hash value of FIPS 180-4, 5.3.1.
-- Assumes nothing.
use Rattle.std.proofs.Common.{refl}
use Rattle.hashing.specs.Turns.{turns}
use Rattle.hashing.specs.Blocks.{hashed}
use Rattle.hashing.specs.State.{taken}
use Rattle.sha_1.specs.Sha1.{H₀}
use Rattle.sha_1.specs.State.{begun}
use Rattle.sha_1.proofs.Sha1.begin.Goals as goal

pub returns : goal.returns
unfolding begun taken hashed turns H₀
returns c = refl
