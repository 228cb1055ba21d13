-- `agreement::put_text` meets its contract. The loop's invariant: the fields before the index are written, behind the count and the label.
-- Assumes nothing.
use Rattle.format.specs.Kinds.{REQ}
use Rattle.format.specs.Read.{fields_in}
use Rattle.agreement.proofs.Items.{Entered}
use Rattle.agreement.proofs.put_text.Given as goal

abbrev pub invariant-loop-n : goal.invariant-loop-n
invariant-loop-n l = Entered l.initial.out l.initial.at l.outline.fields.now (fields_in REQ l.request.bytes.now) l.out l.at l.n-index
