-- `cabinet::put_key` meets its contract.
-- Assumes nothing.
use mathlib.Core.Path.{refl}
use native.Mathlib.Omega.{arith}
use Rattle.cabinet.proofs.Bytes.{start_fits}
use Rattle.cabinet.proofs.Decoding.{number_short}
use Rattle.cabinet.proofs.Calls.{its_size, puts_short, below, puts_23, puts_own, puts_24, puts_again, puts_25, puts_first}
use Rattle.cabinet.proofs.put_key.Goals as goal

pub returns-then-not-is_cabinet : goal.returns-then-not-is_cabinet
returns-then-not-is_cabinet c = puts_23 c.args.cabinet.now c.args.record.now c.if-not-is_cabinet.ensures c.file.ensures

pub returns-then-expiry-ne-ACCEPTED : goal.returns-then-expiry-ne-ACCEPTED
returns-then-expiry-ne-ACCEPTED c = puts_own c.args.cabinet.now c.args.record.now c.if-not-is_cabinet.ensures c.expiry_of-expiry.ensures c.if-expiry-ne-ACCEPTED.true c.file-then-expiry-ne-ACCEPTED.ensures

pub place_of-requires : goal.place_of-requires
place_of-requires c = (record { long = its_size c.args.cabinet.now c.if-not-is_cabinet.ensures }, omega arith)

pub place_at-requires : goal.place_at-requires
place_at-requires c = record { long = its_size c.args.cabinet.now c.if-not-is_cabinet.ensures; place = c.in-Some.ensures.1 }

pub returns-then-not-is_later_than : goal.returns-then-not-is_later_than
returns-then-not-is_later_than c = puts_24 c.args.cabinet.now c.args.record.now c.if-not-is_cabinet.ensures c.expiry_of-expiry.ensures c.if-expiry-ne-ACCEPTED.false c.subject_in-subject.ensures c.names_in.ensures c.in-Some.ensures.0 c.in-Some.ensures.1 c.place_at.ensures c.is_later_than.ensures c.if-not-is_later_than.true c.file-then-not-is_later_than.ensures

pub write_key-requires : goal.write_key-requires
write_key-requires c = record { in_place = record { long = its_size c.args.cabinet.now c.if-not-is_cabinet.ensures; place = c.in-Some.ensures.1 }; short = puts_short c.args.cabinet.now c.args.record.now c.if-not-is_cabinet.ensures c.expiry_of-expiry.ensures c.if-expiry-ne-ACCEPTED.false c.subject_in-subject.ensures; eight = number_short _ c.seconds_bytes-number.ensures }

pub returns-in-Some : goal.returns-in-Some
returns-in-Some c = puts_again c.args.cabinet.now c.args.record.now c.if-not-is_cabinet.ensures c.expiry_of-expiry.ensures c.if-expiry-ne-ACCEPTED.false c.subject_in-subject.ensures c.names_in.ensures c.in-Some.ensures.0 c.in-Some.ensures.1 c.place_at.ensures c.is_later_than.ensures c.if-not-is_later_than.false c.seconds_bytes-number.ensures c.write_key.ensures c.file-in-Some.ensures

pub free_at-requires : goal.free_at-requires
free_at-requires c = record { long = its_size c.args.cabinet.now c.if-not-is_cabinet.ensures }

pub returns-in_default-free_at : goal.returns-in_default-free_at
returns-in_default-free_at c = puts_25 c.args.cabinet.now c.args.record.now c.if-not-is_cabinet.ensures c.expiry_of-expiry.ensures c.if-expiry-ne-ACCEPTED.false c.subject_in-subject.ensures c.names_in.ensures refl (omega (arith, c.in_default.ensures)) refl c.in_default-free_at.ensures c.file-in_default-free_at.ensures

pub write_place-requires : goal.write_place-requires
write_place-requires c = start_fits (record { in_place = record { long = its_size c.args.cabinet.now c.if-not-is_cabinet.ensures; place = c.in-Some-free_at.ensures.1 }; short = puts_short c.args.cabinet.now c.args.record.now c.if-not-is_cabinet.ensures c.expiry_of-expiry.ensures c.if-expiry-ne-ACCEPTED.false c.subject_in-subject.ensures; eight = number_short _ c.seconds_bytes-number.ensures })

pub returns : goal.returns
returns c = puts_first c.args.cabinet.now c.args.record.now c.if-not-is_cabinet.ensures c.expiry_of-expiry.ensures c.if-expiry-ne-ACCEPTED.false c.subject_in-subject.ensures c.names_in.ensures refl (omega (arith, c.in_default.ensures)) c.in-Some-free_at.ensures.0 (below c.in-Some-free_at.ensures.1) c.seconds_bytes-number.ensures c.write_place.ensures c.file-2.ensures
