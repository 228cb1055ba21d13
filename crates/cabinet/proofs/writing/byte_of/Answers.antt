-- `cabinet::writing::byte_of` meets its contract.
-- Assumes nothing.
use Prim.Native.Nat.{◌≤◌}
use mathlib.Core.Path.{sym}
use native.Mathlib.Omega.{arith}
use lib.ListN.{length, get_or-eq_default}
use Rattle.cabinet.proofs.writing.byte_of.Goals as goal

pub returns : goal.returns
returns c = let d = c.args in
    let h : length d.text.now ≤ d.j = omega arith in
    sym (get_or-eq_default d.text.now 0 h)
