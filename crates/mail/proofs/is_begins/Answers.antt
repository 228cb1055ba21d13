-- `mail::is_begins` meets its contract.
-- Assumes nothing.
use mathlib.Core.Path.{sym, ◌∙◌}
use Rattle.mail.proofs.Guards.{begins_no, begins_so}
use Rattle.mail.proofs.is_begins.Goals as goal

pub returns-then-is_ident : goal.returns-then-is_ident
returns-then-is_ident c = c.is_guard.ensures ∙ begins_so c.args.line.now _ c.rectype_in-rectype.ensures (sym c.is_ident.ensures ∙ c.if-is_ident.true)

pub returns-else-is_ident : goal.returns-else-is_ident
returns-else-is_ident c = c.if-is_ident.false ∙ begins_no c.args.line.now _ c.rectype_in-rectype.ensures (sym c.is_ident.ensures ∙ c.if-is_ident.false)
