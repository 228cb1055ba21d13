-- `list_text::Row::put` meets its contract.
-- Assumes nothing.
use native.Mathlib.Omega.{arith}
use Rattle.put.proofs.Pieces.{put_length, put_then}
use Rattle.list_text.specs.Listing.{line_text}
use Rattle.list_text.proofs.Lengths.{line_parts}
use Rattle.list_text.proofs.Row.put.Goals as goal

pub put_number-after_number-requires : goal.put_number-after_number-requires
put_number-after_number-requires c =
    omega (arith, line_parts c.args.self.number c.args.self.start c.args.self.len c.args.self.no, c.requires)

pub put_number-after_start-requires : goal.put_number-after_start-requires
put_number-after_start-requires c =
    let one = c.put_number-after_number.ensures in
    omega (arith, line_parts c.args.self.number c.args.self.start c.args.self.len c.args.self.no, c.requires, one.next, put_length one)

pub put_number-after_len-requires : goal.put_number-after_len-requires
put_number-after_len-requires c =
    let one = c.put_number-after_number.ensures in
    let two = c.put_number-after_start.ensures in
    omega (arith, line_parts c.args.self.number c.args.self.start c.args.self.len c.args.self.no, c.requires, one.next, put_length one, two.next, put_length two)

pub put_number-requires : goal.put_number-requires
put_number-requires c =
    let one = c.put_number-after_number.ensures in
    let two = c.put_number-after_start.ensures in
    let three = c.put_number-after_len.ensures in
    omega (arith, line_parts c.args.self.number c.args.self.start c.args.self.len c.args.self.no, c.requires, one.next, put_length one, two.next, put_length two, three.next, put_length three)

pub returns : goal.returns
unfolding line_text
returns c = put_then (put_then (put_then c.put_number-after_number.ensures c.put_number-after_start.ensures) c.put_number-after_len.ensures) c.put_number.ensures
