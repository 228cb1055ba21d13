-- `mail::ends_at` meets its contract.
-- Assumes nothing.
use Rattle.std.proofs.Common.{rules}
use Rattle.mail.proofs.Finding.{closes_first}
use Rattle.mail.proofs.ends_at.Goals as goal

pub returns : goal.returns
returns c = closes_first c.args.text.now c.args.rectype.now (λ l b h. search rules) c.args.from _ c.line_where.ensures
