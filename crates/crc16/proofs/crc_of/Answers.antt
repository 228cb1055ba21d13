-- `crc16::crc_of` meets its contract. The loop's invariant: the state, given what is left, is the check of the whole.
-- Assumes nothing.
use Prim.Native.Nat.{ℕ, ◌+◌}
use mathlib.Core.Path.{sym, ap, ◌∙◌}
use native.Mathlib.Omega.{arith}
use lib.ListN.{drop, drop_of_length-le}
use Rattle.crc16.specs.Crc.{add_all, crc_of}
use Rattle.crc16.proofs.Steps.{all_more}
use Rattle.crc16.proofs.crc_of.Goals as goal

pub loop-byte-init : goal.loop-byte-init
unfolding crc_of
loop-byte-init c = ap (λ (s : ℕ). add_all s c.args.bytes.now) c.begin-crc.ensures

pub loop-byte-preserved : goal.loop-byte-preserved
loop-byte-preserved c =
    let l = c.loop-byte in
    let bytes = c.args.bytes.now in
    ap (λ (s : ℕ). add_all s (drop (l.byte-index + 1) bytes)) c.add-crc.ensures
    ∙ sym (all_more bytes l.byte-index l.crc.state (omega arith)) ∙ l.invariant

pub returns : goal.returns
unfolding add_all
returns c =
    let l = c.loop-byte in
    let bytes = c.args.bytes.now in
    c.end.ensures ∙ ap (add_all l.crc.state) (sym (drop_of_length-le bytes {i = l.byte-index} (omega arith))) ∙ l.invariant
