-- `sha384::operations::word_at` meets its contract.
-- Assumes nothing.
use Rattle.std.proofs.Common.{◌+◌, ◌∙◌, arith}
use Rattle.sha384.specs.Sha384.{word}
use Rattle.sha384.proofs.Bytes.{word_of}
use Rattle.sha384.proofs.operations.word_at.Goals as goal

pub returns : goal.returns
unfolding word
returns c =
    let b = c.type_inv.bytes in
    let i = c.args.i in
    word_of _ _ _ _ _ _ _ _ (b i).fits (b (i + 1)).fits (b (i + 2)).fits (b (i + 3)).fits (b (i + 4)).fits (b (i + 5)).fits (b (i + 6)).fits (b (i + 7)).fits
    ∙ omega arith
