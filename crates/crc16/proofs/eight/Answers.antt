-- `crc16::eight` meets its contract: eight times what `bit` ensures.
-- Assumes nothing.
use mathlib.Core.Path.{ap, ◌∙◌}
use Rattle.crc16.specs.Crc.{bit_step, bit_steps}
use Rattle.crc16.proofs.eight.Goals as goal

pub returns : goal.returns
unfolding bit_steps
returns c =
    c.bit-8.ensures
    ∙ ap bit_step (c.bit-7.ensures
    ∙ ap bit_step (c.bit-6.ensures
    ∙ ap bit_step (c.bit-5.ensures
    ∙ ap bit_step (c.bit-4.ensures
    ∙ ap bit_step (c.bit-3.ensures
    ∙ ap bit_step (c.bit-2.ensures
    ∙ ap bit_step c.bit.ensures))))))
