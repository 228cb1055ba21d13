-- `sha384::ending::padding` meets its contract.
-- Assumes nothing.
use Rattle.std.proofs.Common.{ℕ, ◌+◌, ap, arith}
use Rattle.sha384.proofs.Written.{high_fits, padding_of}
use Rattle.sha384.proofs.ending.padding.Goals as goal

pub overflow_add-high : goal.overflow_add-high
overflow_add-high c = record { fits = high_fits c.args.high c.args.low (omega arith) }

pub returns : goal.returns
returns c = padding_of c.args.high c.args.low (omega arith) (ap (λ (j : ℕ). j + 1) c.zeros_after-at.ensures) c.put_word-next.ensures c.put_word.ensures
