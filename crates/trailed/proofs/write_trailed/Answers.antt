-- `trailed::write_trailed` meets its contract.
-- Assumes nothing.
use Rattle.format.specs.Read.{read_record}
use Rattle.given.proofs.Given.{given_refused}
use Rattle.trailed.specs.Trailed.{write_trailed}
use Rattle.trailed.proofs.Calls.{write_short, write_said}
use Rattle.trailed.proofs.write_trailed.Goals as goal

pub returns-then-answer-ne-ACCEPTED : goal.returns-then-answer-ne-ACCEPTED
unfolding write_trailed
returns-then-answer-ne-ACCEPTED c = given_refused _ (read_record c.args.record.now) c.read_record-answer.ensures c.if-answer-ne-ACCEPTED.true _ _ c.refuse.ensures

pub returns-then-out-record : goal.returns-then-out-record
returns-then-out-record c = write_short c.args.record.now c.read_record-answer.ensures c.if-answer-ne-ACCEPTED.false _ _ c.if-out-record.true c.refuse-then-out-record.ensures

pub returns : goal.returns
returns c = write_said c.args.record.now c.read_record-answer.ensures c.if-answer-ne-ACCEPTED.false c.if-out-record.false c.trailer_of-trailer.ensures c.put-end.ensures c.put-len.ensures
