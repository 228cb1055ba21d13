-- `sha384::Sha384::begin` meets its contract: the initial hash value of FIPS 180-4, 5.3.4.
-- Assumes nothing.
use Rattle.std.proofs.Common.{refl}
use Rattle.hashing.specs.Turns.{turns}
use Rattle.hashing.specs.Blocks.{hashed}
use Rattle.hashing.specs.State.{taken}
use Rattle.sha384.specs.Sha384.{H₀}
use Rattle.sha384.specs.State.{begun}
use Rattle.sha384.proofs.Sha384.begin.Goals as goal

pub returns : goal.returns
unfolding begun taken hashed turns H₀
returns c = refl
