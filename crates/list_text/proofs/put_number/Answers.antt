-- `list_text::put_number` meets its contract.
-- Assumes nothing.
use mathlib.Core.Path.{ap}
use native.Mathlib.Omega.{arith}
use lib.ListN.{length}
use Rattle.put.proofs.Pieces.{put_of, put_as, put_length, put_then}
use Rattle.list_text.proofs.Decimal.{decimal_part, before_length}
use Rattle.list_text.proofs.put_number.Goals as goal

pub returns : goal.returns
returns c =
    let long = before_length c.args.mark c.args.n in
    let d = c.decimal-k in
    let e = decimal_part d.new.out c.args.n d.result c.ranges.n.fits d.ensures.len d.ensures.digits in
    let first = put_as e (put_of (omega (arith, ap length e, long, c.requires)) c.put-next.ensures) in
    put_then first (put_of (omega (arith, first.next, put_length first, long, c.requires)) c.put_byte.ensures)
