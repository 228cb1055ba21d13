-- `trailed::read_trailed` meets its contract.
-- Assumes nothing.
use Rattle.trailed.proofs.Calls.{says_missing, says_own, says_right, says_wrong}
use Rattle.trailed.proofs.read_trailed.Goals as goal

pub returns-then-not-is_trailer : goal.returns-then-not-is_trailer
returns-then-not-is_trailer c =
    let parts = c.split_at.ensures in
    says_missing c.args.line.now c.record_end.ensures parts.front parts.back c.is_trailer.ensures c.if-not-is_trailer.true c.refuse.ensures

pub returns-then-answer-ne-ACCEPTED : goal.returns-then-answer-ne-ACCEPTED
returns-then-answer-ne-ACCEPTED c =
    let parts = c.split_at.ensures in
    says_own c.args.line.now c.record_end.ensures parts.front parts.back c.is_trailer.ensures c.if-not-is_trailer.false c.read_record-answer.ensures c.if-answer-ne-ACCEPTED.true

pub returns-then-are_same : goal.returns-then-are_same
returns-then-are_same c =
    let parts = c.split_at.ensures in
    says_right c.args.line.now c.record_end.ensures parts.front parts.back c.is_trailer.ensures c.if-not-is_trailer.false c.read_record-answer.ensures c.trailer_of.ensures c.are_same.ensures c.if-are_same.true

pub returns : goal.returns
returns c =
    let parts = c.split_at.ensures in
    says_wrong c.args.line.now c.record_end.ensures parts.front parts.back c.is_trailer.ensures c.if-not-is_trailer.false c.read_record-answer.ensures c.trailer_of.ensures c.are_same.ensures c.if-answer-ne-ACCEPTED.false c.if-are_same.false c.refuse-2.ensures
