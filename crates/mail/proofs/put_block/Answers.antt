-- `mail::put_block` meets its contract.
-- Assumes nothing.
use mathlib.Core.List.{◌∷◌, []}
use native.Mathlib.Omega.{arith}
use lib.ListN.{length-append}
use Rattle.format.specs.Files.{line_feed}
use Rattle.put.proofs.Pieces.{put_length, put_as, put_then}
use Rattle.mail.specs.Mail.{begins_line}
use Rattle.mail.proofs.Writing.{block_pieces, block_room}
use Rattle.mail.proofs.put_block.Goals as goal

pub put_guard-first-requires : goal.put_guard-first-requires
put_guard-first-requires c = omega (arith, c.requires, block_room c.args.rectype.now c.args.record.now)

pub put_rows-second-requires : goal.put_rows-second-requires
put_rows-second-requires c = let p = c.put_guard-first.ensures in omega (arith, c.requires, block_room c.args.rectype.now c.args.record.now, p.next, put_length p, length-append (begins_line c.args.rectype.now) (line_feed ∷ []))

pub put_guard-requires : goal.put_guard-requires
put_guard-requires c = let p = c.put_guard-first.ensures in let q = c.put_rows-second.ensures in omega (arith, c.requires, block_room c.args.rectype.now c.args.record.now, p.next, put_length p, q.next, put_length q, length-append (begins_line c.args.rectype.now) (line_feed ∷ []))

pub returns : goal.returns
returns c = put_as (block_pieces c.args.rectype.now c.args.record.now) (put_then (put_then c.put_guard-first.ensures c.put_rows-second.ensures) c.put_guard.ensures)
