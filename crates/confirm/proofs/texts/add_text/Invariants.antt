-- `confirm::texts::add_text` meets its contract. The loop's invariant: the fields before the index are given.
-- Assumes nothing.
use Rattle.format.specs.Kinds.{REQ}
use Rattle.format.specs.Read.{fields_in}
use Rattle.confirm.proofs.Given.{Given}
use Rattle.confirm.proofs.texts.add_text.Given as goal

abbrev pub invariant-loop-n : goal.invariant-loop-n
invariant-loop-n l = Given l.outline.fields.now (fields_in REQ l.request.bytes.now) l.initial.given l.given l.n-index
