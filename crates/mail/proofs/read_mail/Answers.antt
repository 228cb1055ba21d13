-- `mail::read_mail` meets its contract.
-- Assumes nothing.
use Rattle.mail.proofs.Reading.{mail_unopened, mail_unclosed, mail_read}
use Rattle.mail.proofs.read_mail.Goals as goal

pub returns-in_default : goal.returns-in_default
returns-in_default c = mail_unopened c.args.text.now c.in_default.ensures _ _ c.refuse.ensures

pub returns-in_default-ends_at : goal.returns-in_default-ends_at
returns-in_default-ends_at c = mail_unclosed c.args.text.now c.in-Some.ensures c.line_from-line.ensures c.rectype_in-rectype.ensures c.in_default-ends_at.ensures _ _ c.refuse-in_default-ends_at.ensures

pub returns : goal.returns
returns c = mail_read c.args.text.now c.in-Some.ensures c.line_from-line.ensures c.rectype_in-rectype.ensures c.in-Some-ends_at.ensures _ c.read_rows.ensures
