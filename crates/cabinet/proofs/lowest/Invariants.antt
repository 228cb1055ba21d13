-- `cabinet::lowest` meets its contract. The loop's invariant: no place before i passes.
-- Assumes nothing.
use Prim.Native.Nat.{◌≤◌}
use Rattle.cabinet.specs.Steps.{Below}
use Rattle.cabinet.proofs.lowest.Given as goal

abbrev pub invariant-loop-i : goal.invariant-loop-i
invariant-loop-i g l = Below (λ i b. g.F.Fn.post l.passes (i, tt) b) l.from l.i × (l.i ≤ 64)
