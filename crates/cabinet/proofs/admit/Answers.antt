-- `cabinet::admit` meets its contract.
-- Assumes nothing.
use mathlib.Core.Path.{refl, ap, ◌∙◌}
use lib.ListN.{length}
use Rattle.cabinet.proofs.Bytes.{length_part}
use Rattle.cabinet.proofs.Calls.{its_size, below, tvp_fits, admits_23, admits_own, admits_26, admits_27, admits_done}
use Rattle.cabinet.proofs.admit.Goals as goal

pub returns-then-not-is_cabinet : goal.returns-then-not-is_cabinet
returns-then-not-is_cabinet c = admits_23 c.args.cabinet.now c.args.request.now c.if-not-is_cabinet.ensures c.file.ensures

pub returns-then-answer-ne-ACCEPTED : goal.returns-then-answer-ne-ACCEPTED
returns-then-answer-ne-ACCEPTED c = admits_own c.args.cabinet.now c.args.request.now c.if-not-is_cabinet.ensures c.read_of-answer.ensures c.if-answer-ne-ACCEPTED.true c.file-then-answer-ne-ACCEPTED.ensures

pub current_of-requires : goal.current_of-requires
current_of-requires c = record { long = its_size c.args.cabinet.now c.if-not-is_cabinet.ensures }

pub returns-in_default : goal.returns-in_default
returns-in_default c = admits_26 c.args.cabinet.now c.args.request.now c.if-not-is_cabinet.ensures c.read_of-answer.ensures c.if-answer-ne-ACCEPTED.false c.field_at-id_sm.ensures.holds c.names_in.ensures refl c.in_default.ensures c.file-in_default.ensures

pub place_at-requires : goal.place_at-requires
place_at-requires c = record { long = its_size c.args.cabinet.now c.if-not-is_cabinet.ensures; place = c.in-Some.ensures.1 }

pub is_later_tvp-requires : goal.is_later_tvp-requires
is_later_tvp-requires c = ap length c.place_at.ensures ∙ length_part c.args.cabinet.now c.in-Some.its (its_size c.args.cabinet.now c.if-not-is_cabinet.ensures) c.in-Some.ensures.1

pub returns-then-not-is_later_tvp : goal.returns-then-not-is_later_tvp
returns-then-not-is_later_tvp c = admits_27 c.args.cabinet.now c.args.request.now c.if-not-is_cabinet.ensures c.read_of-answer.ensures c.if-answer-ne-ACCEPTED.false c.field_at-id_sm.ensures.holds c.names_in.ensures c.in-Some.ensures.0 (below c.in-Some.ensures.1) c.field_at-tvp.ensures.holds c.place_at.ensures c.is_later_tvp.ensures c.if-not-is_later_tvp.true c.file-then-not-is_later_tvp.ensures

pub write_tvp-requires : goal.write_tvp-requires
write_tvp-requires c = tvp_fits c.args.cabinet.now c.args.request.now c.if-not-is_cabinet.ensures c.read_of-answer.ensures c.if-answer-ne-ACCEPTED.false c.field_at-id_sm.ensures.holds c.names_in.ensures c.in-Some.ensures.0 (below c.in-Some.ensures.1) c.field_at-tvp.ensures.holds

pub returns : goal.returns
returns c = admits_done c.args.cabinet.now c.args.request.now c.if-not-is_cabinet.ensures c.read_of-answer.ensures c.if-answer-ne-ACCEPTED.false c.field_at-id_sm.ensures.holds c.names_in.ensures c.in-Some.ensures.0 (below c.in-Some.ensures.1) c.field_at-tvp.ensures.holds c.place_at.ensures c.is_later_tvp.ensures c.if-not-is_later_tvp.false c.write_tvp.ensures c.file-2.ensures
