-- `building::put_record` meets its contract: the name and its mark, the fields, the check.
-- Assumes nothing.
use Rattle.building.proofs.Writing.{Headed, headed, headed_room, headed_end, headed_sealed}
use Rattle.building.proofs.put_record.Goals as goal

pub put_fields-end-requires : goal.put_fields-end-requires
put_fields-end-requires c =
    -- the name and its mark are written
    let head : Headed c.args.out.now c.args.kind.now c.args.bytes.now c.args.lens.now c.args.mark c.put_byte-marked.new.out c.put_byte-marked.result = headed _ _ _ _ _ c.requires.0 c.requires.2 c.put-named.ensures c.put_byte-marked.ensures in
    (c.requires.0, c.requires.1, headed_room head)

pub slice_bounds-crc_of-end : goal.slice_bounds-crc_of-end
slice_bounds-crc_of-end c =
    -- the name and its mark are written
    let head : Headed c.args.out.now c.args.kind.now c.args.bytes.now c.args.lens.now c.args.mark c.put_byte-marked.new.out c.put_byte-marked.result = headed _ _ _ _ _ c.requires.0 c.requires.2 c.put-named.ensures c.put_byte-marked.ensures in
    headed_end head c.put_fields-end.ensures

pub returns : goal.returns
returns c =
    -- the name and its mark are written
    let head : Headed c.args.out.now c.args.kind.now c.args.bytes.now c.args.lens.now c.args.mark c.put_byte-marked.new.out c.put_byte-marked.result = headed _ _ _ _ _ c.requires.0 c.requires.2 c.put-named.ensures c.put_byte-marked.ensures in
    headed_sealed head c.put_fields-end.ensures c.crc_of.ensures c.check_text-check.ensures c.put.ensures
