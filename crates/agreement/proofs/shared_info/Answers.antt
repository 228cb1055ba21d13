-- `agreement::shared_info` meets its contract.
-- Assumes nothing.
use Rattle.agreement.specs.Texts.{shared_info}
use Rattle.agreement.proofs.shared_info.Goals as goal

pub returns : goal.returns
unfolding shared_info
returns c = c.write_text.ensures
