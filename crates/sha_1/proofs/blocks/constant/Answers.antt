-- `sha_1::blocks::constant` meets its contract: the constants are those of FIPS 180-4, 4.2.1.
-- Assumes nothing.
use Rattle.std.proofs.Common.{sym, arith}
use Rattle.sha_1.proofs.Rounds.{in_first, in_second, in_third, in_fourth}
use Rattle.sha_1.proofs.blocks.constant.Goals as goal

pub returns-in-0-to-19 : goal.returns-in-0-to-19
returns-in-0-to-19 c = sym (in_first _ _ _ _ _ (omega arith))

pub returns-in-20-to-39 : goal.returns-in-20-to-39
returns-in-20-to-39 c = sym (in_second _ _ _ _ _ (omega arith) (omega arith))

pub returns-in-40-to-59 : goal.returns-in-40-to-59
returns-in-40-to-59 c = sym (in_third _ _ _ _ _ (omega arith) (omega arith))

pub returns-in_default : goal.returns-in_default
returns-in_default c = sym (in_fourth _ _ _ _ _ (omega arith))
