-- `sha384::ending::put_word` meets its contract.
-- Assumes nothing.
use Rattle.sha384.proofs.ending.put_word.Goals as goal

pub returns : goal.returns
returns c = rw c.to_be_bytes.ensures at c.put.ensures
