-- `agreement::field_length` meets its contract.
-- Assumes nothing.
use mathlib.Core.Path.{refl, sym}
use Rattle.agreement.proofs.Items.{item_point}
use Rattle.agreement.proofs.field_length.Goals as goal

pub returns-in-6 : goal.returns-in-6
returns-in-6 c = sym (item_point _ _ _ refl c.in-6.is c.args.request.now.suited)
