-- `files::Form::count` meets its contract. The loop's invariant: the lines before the place are counted.
-- Assumes nothing.
use Prim.Native.Nat.{◌-◌}
use lib.ListN.{length}
use Rattle.files.proofs.Counting.{Counted}
use Rattle.files.proofs.Form.count.Given as goal

abbrev pub invariant-loop-no : goal.invariant-loop-no
invariant-loop-no g l = Counted g.Self.Form.call l.file l.lines l.accepted l.place

abbrev pub decreases-loop-no : goal.decreases-loop-no
decreases-loop-no g l = length l.file - l.place
