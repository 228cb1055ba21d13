-- `mail::put_rows` meets its contract. The loop's invariant: the rows that came are written.
-- Assumes nothing.
use mathlib.Core.Path.{◌∙◌}
use Rattle.put.proofs.Pieces.{put_length}
use Rattle.put.proofs.Underway.{begin, finish}
use Rattle.mail.proofs.Writing.{row_put, rows_none}
use Rattle.mail.proofs.put_rows.Goals as goal

pub loop-row-init : goal.loop-row-init
loop-row-init c = rw (c.into_iter-row-iterator.ensures.into_iter_gives, c.chunks-row-items.ensures.rest) (begin c.requires, c.chunks-row-items.ensures.size)

pub loop-row-preserved : goal.loop-row-preserved
loop-row-preserved c =
    let (size, came) = c.in-Some.ensures.steps in
    (row_put _ _ _ came.0 (rw c.loop-row.invariant.1 at came.1) came.2 c.loop-row.invariant.0 c.put-next.ensures c.put_byte-next.ensures, size ∙ c.loop-row.invariant.1)

pub shape_of-out : goal.shape_of-out
shape_of-out c = put_length c.loop-row.invariant.0.put

pub returns : goal.returns
returns c = finish c.loop-row.invariant.0 (rows_none _ c.in-None.ensures.steps.1.0)
