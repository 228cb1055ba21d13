-- A text given slice by slice: begun with a key, given to the state of the hash, ended with the same key. What is given in slices has the
-- tag of all of it at once: `promises`, Confirmation.antt.
-- Assumes nothing.
use Rattle.std.specs.Prelude.{◌++◌, take}
use Rattle.text.specs.Text.{Bytes}
use Rattle.sha384.specs.Sha384.{sha384}
use Rattle.sha384.specs.State.{begun, added, ended}
use Rattle.sha384.specs.declared.Sha384.{Sha384}
use Rattle.hmac.specs.Hmac.{mixed, ipad, opad}

unfoldable pub hmac_begun : Bytes → Sha384
hmac_begun k = added begun (mixed ipad k)

unfoldable pub hmac_ended : Bytes → Sha384 → Bytes
hmac_ended k given = take 24 (sha384 (mixed opad k ++ ended given))
