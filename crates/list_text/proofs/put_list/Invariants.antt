-- `list_text::put_list` meets its contract. The loop's invariant: the lines before the place are written and counted.
-- Assumes nothing.
use Prim.Native.Nat.{◌-◌}
use lib.ListN.{length}
use Rattle.list_text.proofs.Writing.{Listed}
use Rattle.list_text.proofs.put_list.Given as goal

abbrev pub invariant-loop-no : goal.invariant-loop-no
invariant-loop-no l = Listed l.file l.initial.out l.lines l.accepted l.place l.at l.out

abbrev pub decreases-loop-no : goal.decreases-loop-no
decreases-loop-no l = length l.file - l.place
