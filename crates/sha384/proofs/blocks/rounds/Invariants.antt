-- `sha384::blocks::rounds` meets its contract.
-- Assumes nothing.
use Rattle.std.proofs.Common.{◌≡◌, ◌-◌, ◌%◌, ◌≤◌}
use Rattle.sha384.specs.Sha384.{rounds}
use Rattle.sha384.proofs.blocks.rounds.Given as goal

abbrev pub invariant-loop-t : goal.invariant-loop-t
invariant-loop-t l = ((l.t ≤ 80) × (l.t % 4 ≡ 0)) × (l.u ≡ rounds l.k l.w l.initial.u l.t)

abbrev pub decreases-loop-t : goal.decreases-loop-t
decreases-loop-t l = 80 - l.t
