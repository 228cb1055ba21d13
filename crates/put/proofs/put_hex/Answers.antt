-- `put::put_hex` meets its contract. The loop's invariant: the characters of the bytes passed are written.
-- Assumes nothing.
use Prim.Native.Nat.{◌+◌}
use mathlib.Core.List.{[], ◌∷◌}
use native.Mathlib.Omega.{arith}
use lib.ListN.{drop}
use Rattle.text.specs.Base16.{base16}
use Rattle.put.proofs.Pieces.{put_of, puts_of, not_put}
use Rattle.put.proofs.Underway.{begin, has_room, go_on, finish}
use Rattle.put.proofs.Hex.{length_base16, hex_next, hex_end}
use Rattle.put.proofs.put_hex.Goals as goal

pub returns-then-out-at : goal.returns-then-out-at
returns-then-out-at c = not_put (omega (arith, length_base16 c.args.bytes.now))

pub loop-byte-init : goal.loop-byte-init
loop-byte-init c = begin (omega (arith, length_base16 c.args.bytes.now))

pub loop-byte-preserved : goal.loop-byte-preserved
loop-byte-preserved c =
    let bytes = c.args.bytes.now in
    let i = c.loop-byte.byte-index in
    let u = c.loop-byte.invariant in
    let pair = c.hex_digit.result ∷ c.hex_digit-in-loop-byte.result ∷ [] in
    let e = hex_next bytes i (omega arith) c.hex_digit.ensures c.hex_digit-in-loop-byte.ensures in
    let rest = base16 (drop (i + 1) bytes) in
    go_on u pair rest e (put_of (has_room u pair rest e) c.put-next.ensures)

pub returns : goal.returns
returns c = puts_of (finish c.loop-byte.invariant (hex_end c.args.bytes.now c.loop-byte.byte-index (omega arith)))
