-- `list_printing::print_list` meets its contract: what is handed over is the list.
-- Assumes nothing.
use mathlib.Core.Path.{ap, sym}
use lib.Seq.{length-take-le}
use native.Mathlib.Omega.{arith}
use Rattle.put.specs.declared.Written.{Written}
use Rattle.list_text.proofs.Whole.{list-said, list_inside, list_front}
use Rattle.list_printing.proofs.print_list.Goals as goal

pub slice_bounds-hand_over-end : goal.slice_bounds-hand_over-end
slice_bounds-hand_over-end c = sym (length-take-le _ _ (list_inside _ (omega (arith, c.room-text.ensures)) c.write_list-len.ensures))

pub hand_over-taken-requires : goal.hand_over-taken-requires
hand_over-taken-requires c = list_front _ (omega (arith, c.room-text.ensures)) c.write_list-len.ensures

pub returns : goal.returns
returns c = ap (λ (x : Written). x.len) (list-said _ (omega (arith, c.room-text.ensures)) c.write_list-len.ensures)
