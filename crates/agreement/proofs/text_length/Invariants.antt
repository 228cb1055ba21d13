-- `agreement::text_length` meets its contract. The loop's invariant: all but the fields from the index on are counted.
-- Assumes nothing.
use Rattle.format.specs.Kinds.{REQ}
use Rattle.format.specs.Read.{fields_in}
use Rattle.agreement.proofs.Items.{Counted}
use Rattle.agreement.proofs.text_length.Given as goal

abbrev pub invariant-loop-n : goal.invariant-loop-n
invariant-loop-n l = Counted l.outline.label.now l.outline.fields.now (fields_in REQ l.request.bytes.now) l.total l.n-index
