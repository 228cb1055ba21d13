-- `sha_1::operations::word_at` meets its contract.
-- Assumes nothing.
use Rattle.std.proofs.Common.{◌+◌, ◌^◌, ◌∙◌, arith}
use Rattle.hashing.proofs.Bytes.{low_word}
use Rattle.sha_1.specs.Sha1.{word}
use Rattle.sha_1.proofs.operations.word_at.Goals as goal

pub returns : goal.returns
unfolding word
returns c =
    let b = c.type_inv.bytes in
    let i = c.args.i in
    low_word (2 ^ 32) _ _ _ _ (omega arith) (b i).fits (b (i + 1)).fits (b (i + 2)).fits (b (i + 3)).fits ∙ omega arith
