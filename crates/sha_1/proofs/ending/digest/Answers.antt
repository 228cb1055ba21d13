-- `sha_1::ending::digest` meets its contract.
-- Assumes nothing.
use Rattle.sha_1.proofs.Written.{digest_of}
use Rattle.sha_1.proofs.ending.digest.Goals as goal

pub returns : goal.returns
returns c = digest_of c.args.v c.put_word-b.ensures c.put_word-c.ensures c.put_word-d.ensures c.put_word-e.ensures c.put_word.ensures
