-- `list_text::put_end` meets its contract.
-- Assumes nothing.
use native.Mathlib.Omega.{arith}
use Rattle.put.proofs.Pieces.{put_of, put_length, put_then}
use Rattle.list_text.specs.Listing.{end_text}
use Rattle.list_text.proofs.Lengths.{end_parts}
use Rattle.list_text.proofs.put_end.Goals as goal

pub put_number-after_lines-requires : goal.put_number-after_lines-requires
put_number-after_lines-requires c =
    let long = end_parts c.args.totals.lines c.args.totals.accepted in
    let label = put_of (omega (arith, long, c.requires)) c.put-after_label.ensures in
    omega (arith, long, c.requires, label.next, put_length label)

pub put_number-requires : goal.put_number-requires
put_number-requires c =
    let long = end_parts c.args.totals.lines c.args.totals.accepted in
    let label = put_of (omega (arith, long, c.requires)) c.put-after_label.ensures in
    let one = c.put_number-after_lines.ensures in
    omega (arith, long, c.requires, label.next, put_length label, one.next, put_length one)

pub returns : goal.returns
unfolding end_text
returns c =
    let long = end_parts c.args.totals.lines c.args.totals.accepted in
    let label = put_of (omega (arith, long, c.requires)) c.put-after_label.ensures in
    put_then (put_then label c.put_number-after_lines.ensures) c.put_number.ensures
