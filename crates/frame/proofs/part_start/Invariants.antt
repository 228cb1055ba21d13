-- `frame::part_start` meets its contract. The loop's invariant: as many parts as it counts were passed.
-- Assumes nothing.
use Rattle.frame.proofs.Parts.{Walk}
use Rattle.frame.proofs.part_start.Given as goal

abbrev pub invariant-loop : goal.invariant-loop
invariant-loop l = Walk l.mark l.s l.counter l.i
