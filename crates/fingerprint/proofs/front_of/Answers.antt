-- `fingerprint::front_of` meets its contract.
-- Assumes nothing.
use Rattle.fingerprint.proofs.Prints.{front_none, front_some}
use Rattle.fingerprint.proofs.front_of.Goals as goal

pub returns-then-identity-end : goal.returns-then-identity-end
returns-then-identity-end c = front_none c.args.identity.now _ c.body_of-body.ensures.holds c.part_start-end.ensures c.if-identity-end.true

pub returns : goal.returns
returns c = front_some c.args.identity.now _ c.body_of-body.ensures.holds c.part_start-end.ensures c.if-identity-end.false
