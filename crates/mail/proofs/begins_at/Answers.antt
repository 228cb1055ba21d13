-- `mail::begins_at` meets its contract.
-- Assumes nothing.
use Rattle.std.proofs.Common.{rules}
use Rattle.mail.proofs.Finding.{opens_first}
use Rattle.mail.proofs.begins_at.Goals as goal

pub returns : goal.returns
returns c = opens_first c.args.text.now (λ l b h. search rules) _ c.line_where.ensures
