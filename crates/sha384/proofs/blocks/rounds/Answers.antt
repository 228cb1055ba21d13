-- `sha384::blocks::rounds` meets its contract.
-- Assumes nothing.
use Rattle.std.proofs.Common.{◌≡◌, refl, ap, ◌∙◌, arith, rules}
use Rattle.hashing.specs.Turns.{turns}
use Rattle.sha384.specs.Sha384.{rounds}
use Rattle.sha384.proofs.blocks.rounds.Goals as goal

pub loop-t-init : goal.loop-t-init
unfolding rounds turns
loop-t-init c = ((search rules, refl), refl)

pub loop-t-preserved : goal.loop-t-preserved
loop-t-preserved c = ((search rules, search rules), c.four_rounds-u.ensures c.args.v c.loop-t.invariant.1)

pub returns : goal.returns
returns c = let e : c.loop-t.t ≡ 80 = omega arith in c.loop-t.invariant.1 ∙ ap (rounds c.args.k.now c.args.w.now c.args.v) e
