-- `hmac::end` meets its contract.
-- Assumes nothing.
use mathlib.Core.Path.{◌≡◌, ap, ap₂, ◌∙◌}
use native.Mathlib.Omega.{arith}
use lib.ListN.{length, length-take}
use Rattle.sha384.specs.State.{added, ended}
use Rattle.hmac.proofs.Tags.{tag_ended}
use borrow.Author.Rules.{rules}
use Rattle.hmac.proofs.end.Goals as goal

pub slice_bounds-copy_from_slice-end-2 : goal.slice_bounds-copy_from_slice-end-2
slice_bounds-copy_from_slice-end-2 c = let l : length c.end-mac.result ≡ 48 = search rules in simp length-take (omega (arith, l))

pub returns : goal.returns
returns c =
    let mac = c.end-mac.ensures ∙ ap ended (c.add.ensures ∙ ap₂ added c.keyed.ensures c.end-hash.ensures) in
    c.copy_from_slice.ensures.after ∙ tag_ended c.args.key.now c.args.given mac
