-- `promises::promised` meets its contract: every promise is proved, those about the public calls too.
-- Assumes nothing.
use Rattle.promises.proofs.Check.{check}
use Rattle.promises.proofs.TextTypes.{text_types}
use Rattle.promises.proofs.Calendar.{calendar}
use Rattle.promises.proofs.Starred.{all_starred}
use Rattle.promises.proofs.Fixed.{all_fixed}
use Rattle.promises.proofs.OfCalls.{promised_of_calls}
use Rattle.promises.proofs.promised.Goals as goal

pub returns : goal.returns
returns c = let calls = promised_of_calls in (check, text_types, calendar, all_starred, all_fixed)
