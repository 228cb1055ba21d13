-- `fields::attributes::name_of` meets its contract.
-- Assumes nothing.
use mathlib.Core.Path.{sym}
use native.Mathlib.Omega.{arith}
use lib.Seq.{take_all}
use Rattle.fields.proofs.attributes.name_of.Goals as goal

pub returns-then-card-lt3 : goal.returns-then-card-lt3
returns-then-card-lt3 c = sym (take_all 3 c.args.card.now (omega arith))
