-- `confirm::confirm_response` meets its contract.
-- Assumes nothing.
use mathlib.Core.Path.{◌≡◌}
use mathlib.Core.Bool.{true, false}
use native.Mathlib.Omega.{arith}
use lib.ListN.{length, length-take}
use borrow.Author.Tests.{not-true, not-false}
use Rattle.agreement.proofs.Request.{request_suited, request_places}
use Rattle.confirm.proofs.Calls.{its_mac_tag, first_refused, second_refused, response_z_wrong, other-request, response_said}
use borrow.Author.Rules.{rules}
use Rattle.confirm.proofs.confirm_response.Goals as goal

pub returns-then-asked-ne-ACCEPTED : goal.returns-then-asked-ne-ACCEPTED
returns-then-asked-ne-ACCEPTED c = first_refused c.args.z.now c.args.request.now c.args.response.now _ c.read_of-asked.ensures _ c.if-asked-ne-ACCEPTED.true c.refuse.ensures

pub returns-then-reply-ne-ACCEPTED : goal.returns-then-reply-ne-ACCEPTED
returns-then-reply-ne-ACCEPTED c = second_refused c.args.z.now c.args.request.now c.args.response.now _ c.read_of-asked.ensures c.if-asked-ne-ACCEPTED.false _ c.read_of-reply.ensures _ c.if-reply-ne-ACCEPTED.true c.refuse-then-reply-ne-ACCEPTED.ensures

pub returns-then-z-ne-Z_BYTES : goal.returns-then-z-ne-Z_BYTES
returns-then-z-ne-Z_BYTES c = response_z_wrong c.args.z.now c.args.request.now c.args.response.now _ c.read_of-asked.ensures c.if-asked-ne-ACCEPTED.false _ c.read_of-reply.ensures c.if-reply-ne-ACCEPTED.false _ c.if-z-ne-Z_BYTES.true c.say.ensures

pub returns-then-not-does_answer : goal.returns-then-not-does_answer
returns-then-not-does_answer c = other-request c.args.z.now c.args.request.now c.args.response.now _ c.read_of-asked.ensures c.if-asked-ne-ACCEPTED.false _ c.read_of-reply.ensures c.if-reply-ne-ACCEPTED.false c.if-z-ne-Z_BYTES.false c.does_answer.ensures _ (not-true _ c.if-not-does_answer.true-raw) c.say-then-not-does_answer.ensures

pub invariant_of-accepted : goal.invariant_of-accepted
invariant_of-accepted c = record {
  placed = request_places c.args.request.now _ c.read_of-asked.ensures c.if-asked-ne-ACCEPTED.false;
  suited = request_suited c.args.request.now _ c.read_of-asked.ensures c.if-asked-ne-ACCEPTED.false;
}

pub slice_bounds-centre_tag-end : goal.slice_bounds-centre_tag-end
slice_bounds-centre_tag-end c = let l : length c.derived-keys.result ≡ 48 = search rules in simp length-take (omega (arith, l))

pub is_tag-requires : goal.is_tag-requires
is_tag-requires c =
    (its_mac_tag c.args.response.now _ c.read_of-reply.ensures c.if-reply-ne-ACCEPTED.false c.field_at-said.ensures.holds, search rules)

pub returns-then-not-is_tag : goal.returns-then-not-is_tag
returns-then-not-is_tag c = response_said c.args.z.now c.args.request.now c.args.response.now _ c.read_of-asked.ensures c.if-asked-ne-ACCEPTED.false _ c.read_of-reply.ensures c.if-reply-ne-ACCEPTED.false c.if-z-ne-Z_BYTES.false c.does_answer.ensures _ false (not-false _ c.if-not-does_answer.false-raw) c.derived-keys.ensures c.centre_tag-right.ensures c.field_at-said.ensures.holds c.is_tag.ensures (not-true _ c.if-not-is_tag.true-raw) c.say-then-not-is_tag.ensures

pub returns : goal.returns
returns c = response_said c.args.z.now c.args.request.now c.args.response.now _ c.read_of-asked.ensures c.if-asked-ne-ACCEPTED.false _ c.read_of-reply.ensures c.if-reply-ne-ACCEPTED.false c.if-z-ne-Z_BYTES.false c.does_answer.ensures _ true (not-false _ c.if-not-does_answer.false-raw) c.derived-keys.ensures c.centre_tag-right.ensures c.field_at-said.ensures.holds c.is_tag.ensures (not-false _ c.if-not-is_tag.false-raw) c.say-2.ensures
