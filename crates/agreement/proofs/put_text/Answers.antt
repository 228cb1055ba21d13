-- `agreement::put_text` meets its contract. The loop's invariant: the fields before the index are written, behind the count and the label.
-- Assumes nothing.
use native.Mathlib.Omega.{arith}
use Rattle.format.specs.Kinds.{REQ}
use Rattle.format.specs.Read.{fields_in}
use Rattle.put.proofs.Pieces.{put_of, put_length}
use Rattle.agreement.proofs.Items.{text_length, text_pieces, entered_none, entered_room, entered_more, entered_all}
use Rattle.agreement.proofs.put_text.Goals as goal

pub put_item-at-requires : goal.put_item-at-requires
put_item-at-requires c =
    let text = c.args.outline.now in
    let l = text_length text.label.now text.fields.now (fields_in REQ c.args.request.now.bytes.now) in
    let first = put_of (omega (arith, c.requires)) c.put_byte-next.ensures in
    (text.small.short_label, omega (arith, l, c.requires, first.next, put_length first))

pub loop-n-init : goal.loop-n-init
loop-n-init c =
    let text = c.args.outline.now in
    let l = text_length text.label.now text.fields.now (fields_in REQ c.args.request.now.bytes.now) in
    let first = put_of (omega (arith, c.requires)) c.put_byte-next.ensures in
    let second = c.put_item-at.ensures in
    entered_none (omega (arith, l, c.requires, first.next, put_length first, second.next, put_length second))

pub put_field-at-requires : goal.put_field-at-requires
put_field-at-requires c = entered_room c.loop-n.invariant c.loop-n-test.true

pub loop-n-preserved : goal.loop-n-preserved
loop-n-preserved c = entered_more c.loop-n.invariant c.loop-n-test.true c.put_field-at.ensures

pub returns : goal.returns
returns c =
    let text = c.args.outline.now in
    text_pieces text.label.now text.fields.now (fields_in REQ c.args.request.now.bytes.now)
    (put_of (omega (arith, c.requires)) c.put_byte-next.ensures)
    c.put_item-at.ensures
    (entered_all c.loop-n.invariant c.loop-n-test.false)
