-- The promise of the conversion, from the laws of text.
-- Assumes nothing.
use mathlib.Core.Path.{ap, ◌∙◌}
use Rattle.text.specs.Text.{hexadecimal, one_of}
use Rattle.text.specs.Base16.{hex_digit, hex_value}
use Rattle.text.proofs.Tests.{one-of, all_below, below}
use Rattle.text.proofs.Hexadecimal.{value_digit, valued}
use Rattle.promises.proofs.Statements.Conversion.{sixteen, Conversion}

pub conversion : Conversion
unfolding hex_digit all_below
conversion = record {
  value_again = λ v c w h p q. q.1.1 ∙ ap hex_value p.1.1 ∙ value_digit v h;
  character_again = λ c v d t p q. q.1.1 ∙ ap hex_digit p.1.1 ∙ (valued c (one-of hexadecimal sixteen tt c t)).back;
  among_sixteen = λ v c h p. rw p.1.1 (below 16 (λ n. one_of sixteen (hex_digit n)) tt v h);
}
