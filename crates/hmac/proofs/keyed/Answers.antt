-- `hmac::keyed` meets its contract. The loop's invariant: the bytes before the index are mixed.
-- Assumes nothing.
use mathlib.Core.Path.{ap₂, ◌∙◌}
use Rattle.sha384.specs.State.{added}
use Rattle.hmac.proofs.Keys.{mixing_none, mixing_more, mixing_all}
use native.Mathlib.Omega.{arith}
use borrow.Author.Rules.{rules}
use Rattle.hmac.proofs.keyed.Goals as goal

pub loop-byte-init : goal.loop-byte-init
loop-byte-init c = mixing_none (search rules)

pub loop-byte-preserved : goal.loop-byte-preserved
loop-byte-preserved c = mixing_more c.loop-byte.invariant (omega arith)

pub returns : goal.returns
returns c =
    let mix = mixing_all c.loop-byte.invariant c.args.key.now c.key_block-block.ensures c.loop-byte-test.false in
    c.add.ensures ∙ ap₂ added c.begin.ensures mix
