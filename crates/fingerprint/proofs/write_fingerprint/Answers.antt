-- `fingerprint::write_fingerprint` meets its contract.
-- Assumes nothing.
use Rattle.format.specs.Kinds.{pubkey_kinds}
use Rattle.format.specs.Read.{read_of}
use Rattle.given.proofs.Given.{given_refused}
use Rattle.fingerprint.specs.Fingerprint.{write_fingerprint}
use Rattle.fingerprint.proofs.Prints.{print_long, write_short, write_said}
use Rattle.fingerprint.proofs.write_fingerprint.Goals as goal

pub returns-then-answer-ne-ACCEPTED : goal.returns-then-answer-ne-ACCEPTED
unfolding write_fingerprint
returns-then-answer-ne-ACCEPTED c = given_refused _ (read_of pubkey_kinds c.args.record.now) c.read_of-answer.ensures c.if-answer-ne-ACCEPTED.true _ _ c.refuse.ensures

pub returns-then-out-lt-CHARACTERS : goal.returns-then-out-lt-CHARACTERS
returns-then-out-lt-CHARACTERS c = write_short c.args.record.now _ c.read_of-answer.ensures c.if-answer-ne-ACCEPTED.false _ c.if-out-lt-CHARACTERS.true c.refuse-then-out-lt-CHARACTERS.ensures

pub right_print-right-requires : goal.right_print-right-requires
right_print-right-requires c = print_long c.args.record.now _ c.read_of-answer.ensures c.if-answer-ne-ACCEPTED.false

pub returns : goal.returns
returns c = write_said c.args.record.now _ c.read_of-answer.ensures c.if-answer-ne-ACCEPTED.false c.if-out-lt-CHARACTERS.false c.right_print-right.ensures c.put-len.ensures
