-- `sha_1::ending::padding` meets its contract.
-- Assumes nothing.
use Rattle.std.proofs.Common.{ℕ, ◌+◌, ap}
use Rattle.sha_1.proofs.Written.{padding_of}
use Rattle.sha_1.proofs.ending.padding.Goals as goal

pub returns : goal.returns
returns c = padding_of c.args.count (ap (λ (j : ℕ). j + 1) c.zeros_after-at.ensures) c.put_word-next.ensures c.put_word.ensures
