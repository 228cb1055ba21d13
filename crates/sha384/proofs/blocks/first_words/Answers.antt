-- `sha384::blocks::first_words` meets its contract.
-- Assumes nothing.
use Rattle.std.proofs.Common.{◌≡◌, ℕ, [], take, sym, refl, ap, ◌∙◌, arith, rules}
use Rattle.hashing.specs.Turns.{turns, grown}
use Rattle.sha384.specs.Sha384.{words}
use Rattle.hashing.proofs.Turns.{grown_step}
use Rattle.sha384.proofs.blocks.first_words.Goals as goal

pub loop-t-init : goal.loop-t-init
unfolding words grown turns
loop-t-init c = record { room = search rules; whole = refl; front = refl }

pub loop-t-preserved : goal.loop-t-preserved
unfolding words
loop-t-preserved c = grown_step _ [] c.loop-t.invariant (omega arith) c.word_at.ensures

pub returns : goal.returns
returns c = let e : c.loop-t.t ≡ 16 = omega arith in (c.loop-t.invariant.whole, ap (λ (j : ℕ). take j c.loop-t.w) (sym e) ∙ c.loop-t.invariant.front ∙ ap (words c.args.block.now) e)
