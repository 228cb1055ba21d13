-- `cabinet::key_place` meets its contract.
-- Assumes nothing.
use mathlib.Core.Path.{refl}
use native.Mathlib.Omega.{arith}
use Rattle.cabinet.proofs.Calls.{its_size, below, finds_23, finds_own, finds_26, finds_done}
use Rattle.cabinet.proofs.key_place.Goals as goal

pub returns-then-not-is_cabinet : goal.returns-then-not-is_cabinet
returns-then-not-is_cabinet c = finds_23 c.args.cabinet.now c.args.identity.now c.if-not-is_cabinet.ensures c.find_none.ensures

pub returns-then-answer-ne-ACCEPTED : goal.returns-then-answer-ne-ACCEPTED
returns-then-answer-ne-ACCEPTED c = finds_own c.args.cabinet.now c.args.identity.now c.if-not-is_cabinet.ensures c.read_identity-answer.ensures c.if-answer-ne-ACCEPTED.true c.find_none-then-answer-ne-ACCEPTED.ensures

pub current_of-requires : goal.current_of-requires
current_of-requires c = record { long = its_size c.args.cabinet.now c.if-not-is_cabinet.ensures }

pub returns-in_default : goal.returns-in_default
returns-in_default c = finds_26 c.args.cabinet.now c.args.identity.now c.if-not-is_cabinet.ensures c.read_identity-answer.ensures c.if-answer-ne-ACCEPTED.false c.names_in.ensures refl c.in_default.ensures c.find_none-in_default.ensures

pub overflow_mul-result : goal.overflow_mul-result
overflow_mul-result c = omega (arith, c.in-Some.ensures.1)

pub place_at-requires : goal.place_at-requires
place_at-requires c = record { long = its_size c.args.cabinet.now c.if-not-is_cabinet.ensures; place = c.in-Some.ensures.1 }

pub returns : goal.returns
returns c = finds_done c.args.cabinet.now c.args.identity.now c.if-not-is_cabinet.ensures c.read_identity-answer.ensures c.if-answer-ne-ACCEPTED.false c.names_in.ensures c.in-Some.ensures.0 (below c.in-Some.ensures.1) c.place_at.ensures c.next_mark.ensures
