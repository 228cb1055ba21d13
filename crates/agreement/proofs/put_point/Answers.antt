-- `agreement::put_point` meets its contract.
-- Assumes nothing.
use Rattle.agreement.proofs.Decoding.{point_put}
use Rattle.agreement.proofs.put_point.Goals as goal

pub returns : goal.returns
returns c =
    let s = c.before.before.before.before.before.before.before.before.before.before.before in
    point_put s.args.point.now s.requires.0 s.requires.1 c.put_byte-next.ensures c.put_decoded.ensures
