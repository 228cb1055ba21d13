-- `list_text::write_list` meets its contract.
-- Assumes nothing.
use native.Mathlib.Omega.{arith}
use Rattle.put.proofs.Pieces.{put_of, put_as}
use Rattle.list_text.proofs.Whole.{says_too_big, list_none, list_written}
use Rattle.list_text.proofs.write_list.Goals as goal

pub returns-then-out-lt-ROOM : goal.returns-then-out-lt-ROOM
returns-then-out-lt-ROOM c = list_none _ _ c.if-out-lt-ROOM.true _ c.refuse.ensures

pub returns-then-file-gt-MOST : goal.returns-then-file-gt-MOST
returns-then-file-gt-MOST c =
    let room = c.if-out-lt-ROOM.false in
    list_written _ room (put_as (says_too_big _ c.if-file-gt-MOST.true) (put_of (omega (arith, room)) c.put-len.ensures))

pub returns-else-file-gt-MOST : goal.returns-else-file-gt-MOST
returns-else-file-gt-MOST c = list_written _ c.if-out-lt-ROOM.false c.put_list-len.ensures
