-- `files::Form::line_at` meets its contract: no line feed follows the place, or one ends the line there.
-- Assumes nothing.
use native.Mathlib.Omega.{arith}
use mathlib.Core.Path.{◌∙◌}
use Rattle.format.specs.Files.{line_feed}
use Rattle.frame.proofs.Parts.{next_from}
use Rattle.files.proofs.Answers.{says_last, says_line}
use Rattle.files.proofs.Form.line_at.Goals as goal

pub returns-then-file-end : goal.returns-then-file-end
returns-then-file-end g c = c.last_line.ensures ∙ says_last g.Self.Form.call _ _ (omega (arith, c.if-file-end.true, c.line_end-end.ensures))

pub slice_bounds-read-count : goal.slice_bounds-read-count
slice_bounds-read-count g c = omega (arith, c.line_end-end.ensures, next_from line_feed c.args.file.now c.args.place)

pub slice_bounds-read-start : goal.slice_bounds-read-start
slice_bounds-read-start g c = omega (arith, c.line_end-end.ensures, next_from line_feed c.args.file.now c.args.place)

pub overflow_sub-result : goal.overflow_sub-result
overflow_sub-result g c = omega (arith, c.line_end-end.ensures, next_from line_feed c.args.file.now c.args.place)

pub returns : goal.returns
returns g c = says_line g.Self.Form.call c.args.file.now c.args.place c.line_end-end.ensures c.if-file-end.false c.read-answer.result c.read-answer.ensures
