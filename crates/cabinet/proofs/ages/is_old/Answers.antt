-- `cabinet::ages::is_old` meets its contract.
-- Assumes nothing.
use native.Mathlib.Omega.{arith}
use Rattle.cabinet.proofs.Decoding.{text_end, text_within, old_so}
use Rattle.cabinet.proofs.ages.is_old.Goals as goal

pub slice_bounds-read_of-end : goal.slice_bounds-read_of-end
slice_bounds-read_of-end c = let s = c.args.place.now in omega (arith, c.next_mark-len.ensures, text_end s, text_within s)

pub returns : goal.returns
returns c = old_so c.args.place.now c.next_mark-len.ensures c.read_of-answer.ensures
