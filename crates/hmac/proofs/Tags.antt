-- The tag: what the state gives that has been given the text.
-- Assumes nothing.
use mathlib.Core.Path.{◌≡◌, ap, ◌∙◌}
use mathlib.Core.List.{◌++◌}
use native.Mathlib.Omega.{arith}
use lib.ListN.{length, take, get_or-eq_default}
use lib.Seq.{length-take-le, get_or-take}
use Rattle.text.specs.Text.{Bytes}
use Rattle.text.proofs.Tests.{less_or}
use Rattle.text.proofs.Hexadecimal.{AreBytes}
use Rattle.sha384.specs.Sha384.{sha384}
use Rattle.sha384.specs.declared.Sha384.{Sha384}
use Rattle.sha384.specs.State.{begun, added, ended}
use Rattle.sha384.proofs.Pieces.{begun_then, ended_once}
use Rattle.sha384.proofs.Digest.{digest_size, digest_bytes}
use Rattle.hmac.specs.Hmac.{mixed, ipad, opad, mac, hmac}
use Rattle.hmac.specs.State.{hmac_begun, hmac_ended}

-- the first 24 bytes of the outer hash h
pub tag_ended : (k : Bytes) (s : Sha384) {h : Bytes} → h ≡ ended (added (added begun (mixed opad k)) (ended s)) → take 24 h ≡ hmac_ended k s
unfolding hmac_ended
tag_ended k s e = ap (take 24) (e ∙ ap ended (begun_then (mixed opad k) (ended s)) ∙ ended_once (mixed opad k ++ ended s))

-- a text given at once
pub tag_once : (k text : Bytes) → hmac_ended k (added (hmac_begun k) text) ≡ hmac k text
unfolding hmac_begun hmac_ended hmac mac
tag_once k text = rw (begun_then (mixed ipad k) text, ended_once (mixed ipad k ++ text))

-- ---- 24 bytes

pub tag_size : (k text : Bytes) → length (hmac k text) ≡ 24
unfolding hmac mac
tag_size k text = length-take-le 24 (mac k text) (omega (arith, digest_size (mixed opad k ++ sha384 (mixed ipad k ++ text))))

pub tag_bytes : (k text : Bytes) → AreBytes (hmac k text)
unfolding hmac mac
tag_bytes k text n =
    let d = digest_bytes (mixed opad k ++ sha384 (mixed ipad k ++ text)) in
    less_or n 24
    (λ h. rw (get_or-take 24 (mac k text) n 0 h) (d n))
    (λ h. rw (get_or-eq_default (hmac k text) 0 {n = n} (omega (arith, tag_size k text))) (omega arith))
