-- `cabinet::free_at` meets its contract.
-- Assumes nothing.
use native.Mathlib.Omega.{arith}
use Rattle.std.proofs.Common.{rules}
use Rattle.cabinet.specs.Steps.{is_free_at}
use Rattle.cabinet.proofs.Loops.{lowest_among}
use Rattle.cabinet.proofs.free_at.Goals as goal

pub returns : goal.returns
returns c = lowest_among (is_free_at c.args.cabinet.now) (λ i b h s. search rules) (omega arith) _ c.lowest.ensures
