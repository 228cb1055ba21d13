-- `text::moment::seconds_bytes` meets its contract.
-- Assumes nothing.
use mathlib.Core.Path.{sym, ap, ◌∙◌}
use mir.Syntax.{w64}
use mir.Val.{of_z}
use mir.ValLaws.{to_z-of_z}
use Rattle.text.specs.Seconds.{big_endian, seconds_bytes}
use Rattle.text.proofs.Seconds.{complement_bits, high_first}
use Rattle.text.proofs.moment.seconds_bytes.Goals as goal

pub returns : goal.returns
unfolding seconds_bytes
returns c =
    c.to_be_bytes.ensures ∙ high_first 8 _
    ∙ ap (big_endian 8) (ap (of_z w64) (to_z-of_z w64 c.args.seconds c.ranges.seconds) ∙ sym (complement_bits c.args.seconds))
