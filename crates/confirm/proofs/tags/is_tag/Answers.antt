-- `confirm::tags::is_tag` meets its contract.
-- Assumes nothing.
use mathlib.Core.Path.{◌≡◌, ap, ◌∙◌}
use native.Mathlib.Omega.{arith}
use lib.ListN.{length, length-take}
use Rattle.text.specs.Text.{Bytes, same}
use Rattle.confirm.proofs.Compared.{tag_length, decoded_tag}
use borrow.Author.Rules.{rules}
use Rattle.confirm.proofs.tags.is_tag.Goals as goal

pub slice_bounds-said-end : goal.slice_bounds-said-end
slice_bounds-said-end c = omega (arith, tag_length c.args.mac_tag.now c.requires.0 c.put_decoded-len.ensures)

pub slice_bounds-are_same-end : goal.slice_bounds-are_same-end
slice_bounds-are_same-end c = let l : length c.put_decoded-len.new.out ≡ 24 = search rules in simp length-take (omega (arith, l, tag_length c.args.mac_tag.now c.requires.0 c.put_decoded-len.ensures))

pub are_same-requires : goal.are_same-requires
are_same-requires c = let l : length c.put_decoded-len.new.out ≡ 24 = search rules in simp length-take (omega (arith, l, tag_length c.args.mac_tag.now c.requires.0 c.put_decoded-len.ensures, c.requires.1))

pub returns : goal.returns
returns c =
    let a = c.args in
    c.are_same.ensures ∙ ap (λ (x : Bytes). same x a.tag.now) (decoded_tag a.mac_tag.now c.requires.0 c.put_decoded-len.ensures)
