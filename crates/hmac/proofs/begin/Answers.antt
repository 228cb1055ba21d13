-- `hmac::begin` meets its contract.
-- Assumes nothing.
use Rattle.hmac.specs.State.{hmac_begun}
use Rattle.hmac.proofs.begin.Goals as goal

pub returns : goal.returns
unfolding hmac_begun
returns c = c.keyed.ensures
