-- `mail::write_mail` meets its contract.
-- Assumes nothing.
use native.Mathlib.Omega.{arith}
use Rattle.mail.proofs.Writing.{write_refused, short, write_short, write_said}
use Rattle.mail.proofs.write_mail.Goals as goal

pub returns-then-answer-ne-ACCEPTED : goal.returns-then-answer-ne-ACCEPTED
returns-then-answer-ne-ACCEPTED c = write_refused c.args.record.now c.read_record-answer.ensures c.if-answer-ne-ACCEPTED.true _ _ c.refuse.ensures

pub block_length-requires : goal.block_length-requires
block_length-requires c = short c.args.record.now c.read_record-answer.ensures c.if-answer-ne-ACCEPTED.false c.title_of-rectype.ensures.holds

pub returns-then-out-block_length : goal.returns-then-out-block_length
returns-then-out-block_length c = write_short c.args.record.now c.read_record-answer.ensures c.if-answer-ne-ACCEPTED.false c.title_of-rectype.ensures.holds _ _ (omega (arith, c.block_length.ensures, c.if-out-block_length.true)) c.refuse-then-out-block_length.ensures

pub returns : goal.returns
returns c = write_said c.args.record.now c.read_record-answer.ensures c.if-answer-ne-ACCEPTED.false c.title_of-rectype.ensures.holds c.put_block-len.ensures
