-- `agreement::module_text` meets its contract.
-- Assumes nothing.
use Rattle.agreement.specs.Texts.{module_text}
use Rattle.agreement.proofs.module_text.Goals as goal

pub returns : goal.returns
unfolding module_text
returns c = c.write_text.ensures
