-- `cabinet::are_zeros` meets its contract. The loop's invariant: what was seen before i is in `seen`.
-- Assumes nothing.
use mathlib.Core.Path.{refl}
use Rattle.cabinet.proofs.Loops.{zeros_more, zeros_all}
use Rattle.cabinet.proofs.are_zeros.Goals as goal

pub loop-byte-init : goal.loop-byte-init
loop-byte-init c = refl

pub loop-byte-preserved : goal.loop-byte-preserved
loop-byte-preserved c = zeros_more c.args.s.now c.loop-byte.seen c.loop-byte.invariant c.loop-byte-test.true

pub returns : goal.returns
returns c = zeros_all c.args.s.now c.loop-byte.seen c.loop-byte.invariant c.loop-byte-test.false
