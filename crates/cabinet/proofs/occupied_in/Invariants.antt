-- `cabinet::occupied_in` meets its contract. The loop's invariant: so many places before `from` are occupied.
-- Assumes nothing.
use Prim.Native.Nat.{◌-◌}
use Rattle.cabinet.proofs.Loops.{Tallied}
use Rattle.cabinet.proofs.occupied_in.Given as goal

abbrev pub invariant-loop-at : goal.invariant-loop-at
invariant-loop-at l = Tallied l.cabinet l.from l.count

abbrev pub decreases-loop-at : goal.decreases-loop-at
decreases-loop-at l = 64 - l.from
