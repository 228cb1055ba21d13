-- `agreement::put_item` meets its contract.
-- Assumes nothing.
use native.Mathlib.Omega.{arith}
use Rattle.put.proofs.Pieces.{put_of, put_length, put_then}
use Rattle.agreement.proofs.put_item.Goals as goal

pub returns : goal.returns
returns c =
    let first = put_of (omega arith) c.put_byte-next.ensures in
    put_then first (put_of (omega (arith, first.next, put_length first)) c.put.ensures)
