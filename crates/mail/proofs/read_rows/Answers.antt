-- `mail::read_rows` meets its contract.
-- Assumes nothing.
use native.Mathlib.Omega.{arith}
use Rattle.mail.proofs.Reading.{too_long_found, rows_given}
use Rattle.mail.proofs.read_rows.Goals as goal

pub returns-in_default : goal.returns-in_default
returns-in_default c = too_long_found c.args.rectype.now _ _ (let over = rw c.in_default.is at c.«unfold».ensures.cases in omega (arith, over)) _ c.refuse.ensures

pub returns : goal.returns
returns c = rows_given c.args.rectype.now _ _ (rw c.in-Some.is at c.«unfold».ensures.cases) c.give.ensures
