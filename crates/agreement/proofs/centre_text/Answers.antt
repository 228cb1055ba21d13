-- `agreement::centre_text` meets its contract.
-- Assumes nothing.
use Rattle.agreement.specs.Texts.{centre_text}
use Rattle.agreement.proofs.centre_text.Goals as goal

pub returns : goal.returns
unfolding centre_text
returns c = c.write_text.ensures
