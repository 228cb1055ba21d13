-- `confirm::confirm_request` meets its contract.
-- Assumes nothing.
use mathlib.Core.Path.{◌≡◌}
use native.Mathlib.Omega.{arith}
use lib.ListN.{length, length-take}
use borrow.Author.Tests.{not-true, not-false}
use Rattle.agreement.proofs.Request.{request_suited, request_places}
use Rattle.confirm.proofs.Calls.{mac_tag, request_refused, z_wrong, mac_key_short, kek_short, request_tag_wrong, keys_written}
use borrow.Author.Rules.{rules}
use Rattle.confirm.proofs.confirm_request.Goals as goal
use Rattle.confirm.proofs.confirm_request.Goals.{then-mac_key-lt-KEY_BYTES-via-then-mac_key-lt-KEY_BYTES, then-mac_key-lt-KEY_BYTES-via-else-mac_key-lt-KEY_BYTES+then-kek-lt-KEY_BYTES}

pub returns-then-asked-ne-ACCEPTED : goal.returns-then-asked-ne-ACCEPTED
returns-then-asked-ne-ACCEPTED c = request_refused c.args.z.now c.args.request.now c.args.mac_key.now c.args.kek.now _ c.read_of-asked.ensures _ c.if-asked-ne-ACCEPTED.true c.refuse.ensures

pub returns-then-z-ne-Z_BYTES : goal.returns-then-z-ne-Z_BYTES
returns-then-z-ne-Z_BYTES c = z_wrong c.args.z.now c.args.request.now c.args.mac_key.now c.args.kek.now _ c.read_of-asked.ensures c.if-asked-ne-ACCEPTED.false _ c.if-z-ne-Z_BYTES.true c.say.ensures

pub returns-then-mac_key-lt-KEY_BYTES : goal.returns-then-mac_key-lt-KEY_BYTES
returns-then-mac_key-lt-KEY_BYTES c =
    let a = c.args in
    elim c.then-mac_key-lt-KEY_BYTES.branch [
      | then-mac_key-lt-KEY_BYTES-via-then-mac_key-lt-KEY_BYTES w ↦
          mac_key_short a.z.now a.request.now a.mac_key.now a.kek.now _ c.read_of-asked.ensures c.if-asked-ne-ACCEPTED.false c.if-z-ne-Z_BYTES.false _
          w.if-mac_key-lt-KEY_BYTES.true c.say-then-mac_key-lt-KEY_BYTES.ensures
      | then-mac_key-lt-KEY_BYTES-via-else-mac_key-lt-KEY_BYTES+then-kek-lt-KEY_BYTES w ↦
          kek_short a.z.now a.request.now a.mac_key.now a.kek.now _ c.read_of-asked.ensures c.if-asked-ne-ACCEPTED.false c.if-z-ne-Z_BYTES.false _
          w.if-mac_key-lt-KEY_BYTES.false w.if-kek-lt-KEY_BYTES.true c.say-then-mac_key-lt-KEY_BYTES.ensures
    ]

pub invariant_of-accepted : goal.invariant_of-accepted
invariant_of-accepted c = record {
  placed = request_places c.args.request.now _ c.read_of-asked.ensures c.if-asked-ne-ACCEPTED.false;
  suited = request_suited c.args.request.now _ c.read_of-asked.ensures c.if-asked-ne-ACCEPTED.false;
}

pub slice_bounds-module_tag-end : goal.slice_bounds-module_tag-end
slice_bounds-module_tag-end c = let l : length c.derived-keys.result ≡ 48 = search rules in simp length-take (omega (arith, l))

pub is_tag-requires : goal.is_tag-requires
is_tag-requires c =
    (mac_tag c.args.request.now _ c.read_of-asked.ensures c.if-asked-ne-ACCEPTED.false c.field_at-said.ensures.holds, search rules)

pub returns-then-not-is_tag : goal.returns-then-not-is_tag
returns-then-not-is_tag c = request_tag_wrong c.args.z.now c.args.request.now c.args.mac_key.now c.args.kek.now _ c.read_of-asked.ensures c.if-asked-ne-ACCEPTED.false c.if-z-ne-Z_BYTES.false c.if-mac_key-lt-KEY_BYTES.false c.if-kek-lt-KEY_BYTES.false c.derived-keys.ensures c.module_tag-right.ensures c.field_at-said.ensures.holds c.is_tag.ensures _ (not-true _ c.if-not-is_tag.true-raw) c.say-then-not-is_tag.ensures

pub slice_bounds-put-end : goal.slice_bounds-put-end
slice_bounds-put-end c = let l : length c.derived-keys.result ≡ 48 = search rules in simp length-take (omega (arith, l))

pub returns : goal.returns
returns c = keys_written c.args.z.now c.args.request.now c.args.mac_key.now c.args.kek.now _ c.read_of-asked.ensures c.if-asked-ne-ACCEPTED.false c.if-z-ne-Z_BYTES.false c.if-mac_key-lt-KEY_BYTES.false c.if-kek-lt-KEY_BYTES.false c.derived-keys.ensures c.module_tag-right.ensures c.field_at-said.ensures.holds c.is_tag.ensures _ (not-false _ c.if-not-is_tag.false-raw) c.put.ensures c.put-2.ensures c.say-2.ensures
