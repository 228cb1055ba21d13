-- `mail::line_from` meets its contract.
-- Assumes nothing.
use mathlib.Core.Path.{refl, sym, ap, ◌∙◌}
use native.Mathlib.Omega.{arith}
use lib.Seq.{length-take-le}
use Rattle.text.proofs.Loops.{rest_got}
use Rattle.format.specs.Files.{line_feed}
use Rattle.frame.proofs.Parts.{next_within}
use Rattle.mail.proofs.Finding.{line_cut}
use Rattle.mail.proofs.line_from.Goals as goal

pub slice_bounds-result-end : goal.slice_bounds-result-end
slice_bounds-result-end c =
    sym (length-take-le c.next_mark.result c.unwrap_or-rest.result.now (omega (arith, c.next_mark.ensures, next_within line_feed c.unwrap_or-rest.result.now 0 (omega arith))))

pub returns : goal.returns
returns c =
    line_cut c.args.text.now c.args.place
    (ap (λ b. b.now) c.unwrap_or-rest.ensures ∙ rest_got c.args.text.now c.get.result _ refl c.get.ensures.lookup) c.next_mark.ensures
