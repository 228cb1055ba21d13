-- `fingerprint::right_print` meets its contract.
-- Assumes nothing.
use Prim.Native.Nat.{ℕ, ◌/◌}
use mathlib.Core.Path.{◌≡◌, ap, ◌∙◌}
use mathlib.Core.List.{List}
use native.Mathlib.Omega.{arith}
use lib.ListN.{length, take, length-take}
use Rattle.text.specs.Base16.{base16}
use Rattle.fingerprint.proofs.Prints.{half_print, front_written}
use borrow.Author.Rules.{rules}
use Rattle.fingerprint.proofs.right_print.Goals as goal
use Rattle.fingerprint.proofs.right_print.Lts as lts
use Rattle.fingerprint.proofs.right_print.Tie.{the-claims}
use Rattle.fingerprint.proofs.right_print.Reads.{Pre, Post}

-- half of what stands there, once the hash is made
eight : (c : lts.After-hash_of the-claims Pre Post) → length c.field_in.result.now / 2 ≡ 8
eight c = half_print _ c.field_in.ensures.holds c.field_at-subject.ensures.holds c.requires

pub slice_bounds-hash-end : goal.slice_bounds-hash-end
slice_bounds-hash-end c = let l : length c.hash_of-hash.result ≡ 48 = search rules in omega (arith, l, eight c.before.before)

pub slice_bounds-put_hex-end-2 : goal.slice_bounds-put_hex-end-2
slice_bounds-put_hex-end-2 c = let l : length c.hash_of-hash.result ≡ 48 = search rules in simp length-take (omega (arith, l, eight c.before.before.before))

pub returns : goal.returns
returns c =
    let h = c.hash_of-hash.result in
    let l : length h ≡ 48 = search rules in
    front_written h (eight c.before.before.before.before.before) l c.put_hex.ensures
    ∙ ap (λ (x : List ℕ). base16 (take 8 x)) c.hash_of-hash.ensures
