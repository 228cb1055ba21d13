-- `sha_1::Sha1::end` meets its contract.
-- Assumes nothing.
use Rattle.std.proofs.Common.{◌≡◌, ℕ, ◌+◌, length, take, ap, ◌∙◌, arith, length-take, rules}
use Rattle.sha_1.specs.declared.Sha1.{Sha1}
use Rattle.sha_1.specs.Sha1.{joined}
use Rattle.sha_1.specs.State.{added, ended}
use Rattle.sha_1.proofs.Sha1.end.Goals as goal

pub slice_bounds-add-end : goal.slice_bounds-add-end
slice_bounds-add-end c = let l : length c.padding-padding.result ≡ 72 = search rules in simp length-take (omega arith)

pub returns : goal.returns
unfolding ended
returns c = c.digest.ensures ∙ ap (λ (t : Sha1). joined t.hash) (c.add-last.ensures ∙ ap (added c.args.self) (ap (λ (j : ℕ). take (j + 9) c.padding-padding.result) c.zeros_after-length.ensures ∙ c.padding-padding.ensures))
