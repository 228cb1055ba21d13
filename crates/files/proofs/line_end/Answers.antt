-- `files::line_end` meets its contract. The loop's invariant: no line feed was passed.
-- Assumes nothing.
use mathlib.Core.Path.{sym, ◌∙◌}
use Rattle.format.specs.Files.{line_feed}
use Rattle.frame.proofs.Parts.{next_end}
use Rattle.files.proofs.Ends.{next_here, next_on}
use Rattle.files.proofs.line_end.Goals as goal
use Rattle.files.proofs.line_end.Goals.{then-i-file-via-then-i-file, then-i-file-via-else-i-file+then-file-i-eq10}

pub loop-i-preserved : goal.loop-i-preserved
loop-i-preserved c = next_on _ _ _ c.if-i-file.false c.if-file-i-eq10.false ∙ c.loop-i.invariant

pub returns : goal.returns
returns c = elim c.then-i-file.branch [
  | then-i-file-via-then-i-file w ↦ sym (next_end line_feed c.args.file.now c.loop-i.i w.if-i-file.true) ∙ c.loop-i.invariant
  | then-i-file-via-else-i-file+then-file-i-eq10 w ↦ sym (next_here _ _ _ w.if-i-file.false w.if-file-i-eq10.true) ∙ c.loop-i.invariant
]
