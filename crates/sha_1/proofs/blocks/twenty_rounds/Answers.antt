-- `sha_1::blocks::twenty_rounds` meets its contract.
-- Assumes nothing.
use Rattle.std.proofs.Common.{◌≡◌, ◌+◌, ap, ◌∙◌, arith}
use Rattle.hashing.proofs.Turns.{turns_more}
use Rattle.sha_1.specs.Sha1.{rounds}
use Rattle.sha_1.proofs.blocks.twenty_rounds.Goals as goal

pub loop-t-preserved : goal.loop-t-preserved
unfolding rounds
loop-t-preserved c = λ v e. turns_more _ v c.loop-t.t (c.loop-t.invariant v e) c.round-u.ensures

pub returns : goal.returns
returns c = let e : c.loop-t.t ≡ c.args.i + 20 = omega arith in λ v h. c.loop-t.invariant v h ∙ ap (rounds c.args.w.now v) e
