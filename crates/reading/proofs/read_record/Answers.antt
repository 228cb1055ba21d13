-- `reading::read_record` meets its contract: the rows from ECDSA on are all the record kinds.
-- Assumes nothing.
use mathlib.Core.Path.{sym, ap, ◌∙◌}
use Rattle.reading.specs.Reading.{answer_of}
use Rattle.reading.proofs.Calls.{record_is}
use Rattle.reading.proofs.read_record.Goals as goal

pub returns : goal.returns
returns c = c.read_of.ensures ∙ sym (ap answer_of (record_is _))
