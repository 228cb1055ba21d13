-- `mail::give` meets its contract.
-- Assumes nothing.
use native.Mathlib.Omega.{arith}
use Rattle.format.specs.Kinds.{all_kinds}
use Rattle.table.specs.Table.{named}
use Rattle.table.proofs.Names.{row_bounded}
use Rattle.mail.proofs.Reading.{give_refused, give_short, give_said}
use Rattle.mail.proofs.give.Goals as goal

pub overflow_add-row : goal.overflow_add-row
overflow_add-row c = omega (arith, c.kind_named-row.ensures, row_bounded (named all_kinds c.args.rectype.now))

pub returns-then-answer-ne-ACCEPTED : goal.returns-then-answer-ne-ACCEPTED
returns-then-answer-ne-ACCEPTED c = give_refused c.args.rectype.now c.args.record.now c.kind_named-row.ensures c.read_of-answer.ensures c.if-answer-ne-ACCEPTED.true _ _ c.refuse.ensures

pub returns-then-out-record : goal.returns-then-out-record
returns-then-out-record c = give_short c.args.rectype.now c.args.record.now c.kind_named-row.ensures c.read_of-answer.ensures c.if-answer-ne-ACCEPTED.false _ _ c.if-out-record.true c.refuse-then-out-record.ensures

pub returns : goal.returns
returns c = give_said c.args.rectype.now c.args.record.now c.kind_named-row.ensures c.read_of-answer.ensures c.if-answer-ne-ACCEPTED.false c.if-out-record.false c.put-len.ensures
