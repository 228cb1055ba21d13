-- `agreement::put_field` meets its contract.
-- Assumes nothing.
use mathlib.Core.Path.{ap, ◌∙◌}
use native.Mathlib.Omega.{arith}
use lib.ListN.{length}
use Rattle.format.specs.Kinds.{REQ}
use Rattle.format.specs.Read.{fields_in}
use Rattle.put.proofs.Pieces.{put_as}
use Rattle.agreement.specs.Steps.{lv_item}
use Rattle.agreement.proofs.Items.{item_other, item_qe, item_hex, item_point}
use Rattle.agreement.proofs.put_field.Goals as goal

pub put_point-requires : goal.put_point-requires
put_point-requires c =
    let request = c.args.request.now in
    let fs = fields_in REQ request.bytes.now in
    let e = c.field_at-field.ensures.holds ∙ request.placed.field c.args.n in
    let q = c.if-n-eq-REQ_QE.true in
    (item_hex fs _ _ e q request.suited, omega (arith, c.requires, item_point fs _ _ e q request.suited))

pub returns-then-n-eq-REQ_QE : goal.returns-then-n-eq-REQ_QE
returns-then-n-eq-REQ_QE c =
    let request = c.args.request.now in
    let e = c.field_at-field.ensures.holds ∙ request.placed.field c.args.n in
    put_as (ap lv_item (item_qe (fields_in REQ request.bytes.now) _ _ e c.if-n-eq-REQ_QE.true)) c.put_point.ensures

pub put_item-requires : goal.put_item-requires
put_item-requires c =
    let request = c.args.request.now in
    let e = c.field_at-field.ensures.holds ∙ request.placed.field c.args.n in
    (omega (arith, ap length e, request.suited.short c.args.n), omega (arith, c.requires, ap length (item_other (fields_in REQ request.bytes.now) c.args.n _ e c.if-n-eq-REQ_QE.false)))

pub returns-else-n-eq-REQ_QE : goal.returns-else-n-eq-REQ_QE
returns-else-n-eq-REQ_QE c =
    let request = c.args.request.now in
    let e = c.field_at-field.ensures.holds ∙ request.placed.field c.args.n in
    put_as (ap lv_item (item_other (fields_in REQ request.bytes.now) _ _ e c.if-n-eq-REQ_QE.false)) c.put_item.ensures
