-- `sha384::Sha384::end` meets its contract.
-- Assumes nothing.
use Rattle.std.proofs.Common.{◌≡◌, ℕ, ◌+◌, length, take, ap, ◌∙◌, arith, length-take, rules}
use Rattle.sha384.specs.declared.Sha384.{Sha384}
use Rattle.sha384.specs.Sha384.{left384}
use Rattle.sha384.specs.State.{added, ended}
use Rattle.sha384.proofs.Sha384.end.Goals as goal

pub slice_bounds-add-end : goal.slice_bounds-add-end
slice_bounds-add-end c = let l : length c.padding-padding.result ≡ 144 = search rules in simp length-take (omega arith)

pub returns : goal.returns
unfolding ended
returns c = c.digest.ensures ∙ ap (λ (t : Sha384). left384 t.hash) (c.add-last.ensures ∙ ap (added c.args.self) (ap (λ (j : ℕ). take (j + 17) c.padding-padding.result) c.zeros_after-length.ensures ∙ c.padding-padding.ensures))
