-- `hmac::key_block` meets its contract.
-- Assumes nothing.
use Rattle.hmac.proofs.Keys.{key_long, key_short}
use borrow.Author.Rules.{rules}
use Rattle.hmac.proofs.key_block.Goals as goal

pub returns-then-key-gt-BLOCK : goal.returns-then-key-gt-BLOCK
returns-then-key-gt-BLOCK c = key_long c.args.key.now c.if-key-gt-BLOCK.true (search rules) c.sha384_of.ensures c.put.ensures

pub returns-else-key-gt-BLOCK : goal.returns-else-key-gt-BLOCK
returns-else-key-gt-BLOCK c = key_short c.args.key.now c.if-key-gt-BLOCK.false c.put-else-key-gt-BLOCK.ensures
