-- `cabinet::remove_key` meets its contract.
-- Assumes nothing.
use mathlib.Core.Path.{refl}
use native.Mathlib.Omega.{arith}
use Rattle.cabinet.proofs.Bytes.{empty_fits}
use Rattle.cabinet.proofs.Calls.{its_size, below, removes_23, removes_own, removes_26, removes_done}
use Rattle.cabinet.proofs.remove_key.Goals as goal

pub returns-then-not-is_cabinet : goal.returns-then-not-is_cabinet
returns-then-not-is_cabinet c = removes_23 c.args.cabinet.now c.args.identity.now c.if-not-is_cabinet.ensures c.file.ensures

pub returns-then-answer-ne-ACCEPTED : goal.returns-then-answer-ne-ACCEPTED
returns-then-answer-ne-ACCEPTED c = removes_own c.args.cabinet.now c.args.identity.now c.if-not-is_cabinet.ensures c.read_identity-answer.ensures c.if-answer-ne-ACCEPTED.true c.file-then-answer-ne-ACCEPTED.ensures

pub place_of-requires : goal.place_of-requires
place_of-requires c = (record { long = its_size c.args.cabinet.now c.if-not-is_cabinet.ensures }, omega arith)

pub returns-in_default : goal.returns-in_default
returns-in_default c = removes_26 c.args.cabinet.now c.args.identity.now c.if-not-is_cabinet.ensures c.read_identity-answer.ensures c.if-answer-ne-ACCEPTED.false c.names_in.ensures refl c.in_default.ensures c.file-in_default.ensures

pub write_place-requires : goal.write_place-requires
write_place-requires c = empty_fits (record { long = its_size c.args.cabinet.now c.if-not-is_cabinet.ensures; place = c.in-Some.ensures.1 })

pub returns : goal.returns
returns c = removes_done c.args.cabinet.now c.args.identity.now c.if-not-is_cabinet.ensures c.read_identity-answer.ensures c.if-answer-ne-ACCEPTED.false c.names_in.ensures c.in-Some.ensures.0 (below c.in-Some.ensures.1) c.write_place.ensures c.file-2.ensures
