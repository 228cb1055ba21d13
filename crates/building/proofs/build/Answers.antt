-- `building::build` meets its contract: the call step by step.
-- Assumes nothing.
use mathlib.Core.Path.{ap, ◌∙◌}
use Rattle.put.specs.Made.{says, denied}
use Rattle.reading.proofs.Outcomes.{unless_ok, unless_err}
use native.Mathlib.Omega.{arith}
use Rattle.put.proofs.Pieces.{put_as}
use Rattle.building.proofs.Calls.{begun, call_form, call_kind, call_counted, call_few, call_lie, call_parts, call_record, call_fields, call_long, call_narrow, call_fits, call_denied, call_made}
use Rattle.building.proofs.build.Goals as goal

pub returns-in-Err : goal.returns-in-Err
returns-in-Err c =
    let u = unless_err _ _ tt c.in-Err.ensures in
    call_denied _ _ _ _ (call_form (begun c.args.kind.now c.args.bytes.now c.args.lens.now c.kind_named-row.ensures) _ (λ z. u.1 z)) (c.refuse.ensures ∙ ap (λ n. says (denied n 0)) u.0)

pub places_by-found-requires : goal.places_by-found-requires
places_by-found-requires c = let n = call_counted (begun c.args.kind.now c.args.bytes.now c.args.lens.now c.kind_named-row.ensures) (unless_ok _ tt tt c.in_default.ensures).0 in (omega (arith, call_few (begun c.args.kind.now c.args.bytes.now c.args.lens.now c.kind_named-row.ensures) (unless_ok _ tt tt c.in_default.ensures).0), n.1)

pub returns-then-judged-ne-ACCEPTED : goal.returns-then-judged-ne-ACCEPTED
returns-then-judged-ne-ACCEPTED c = call_denied _ _ _ _ (call_fields (begun c.args.kind.now c.args.bytes.now c.args.lens.now c.kind_named-row.ensures) (unless_ok _ tt tt c.in_default.ensures).0 _ (call_parts (begun c.args.kind.now c.args.bytes.now c.args.lens.now c.kind_named-row.ensures) (unless_ok _ tt tt c.in_default.ensures).0 _ c.places_by-found.ensures) _ c.judge-judged.ensures _ c.if-judged-ne-ACCEPTED.true) c.refuse-then-judged-ne-ACCEPTED.ensures

pub overflow_add-needed-3 : goal.overflow_add-needed-3
overflow_add-needed-3 c = omega (arith, call_few (begun c.args.kind.now c.args.bytes.now c.args.lens.now c.kind_named-row.ensures) (unless_ok _ tt tt c.in_default.ensures).0)

pub overflow_add-needed-4 : goal.overflow_add-needed-4
overflow_add-needed-4 c = omega (arith, call_few (begun c.args.kind.now c.args.bytes.now c.args.lens.now c.kind_named-row.ensures) (unless_ok _ tt tt c.in_default.ensures).0)

pub returns-then-needed-gt-LONGEST : goal.returns-then-needed-gt-LONGEST
returns-then-needed-gt-LONGEST c =
    let b = begun c.args.kind.now c.args.bytes.now c.args.lens.now c.kind_named-row.ensures in let z = (unless_ok _ tt tt c.in_default.ensures).0 in
    call_denied _ _ _ _ (call_long b z _ (call_parts b z _ c.places_by-found.ensures) _ c.judge-judged.ensures c.if-judged-ne-ACCEPTED.false _ c.if-needed-gt-LONGEST.true) c.refuse-then-needed-gt-LONGEST.ensures

pub returns-then-out-needed : goal.returns-then-out-needed
returns-then-out-needed c =
    let b = begun c.args.kind.now c.args.bytes.now c.args.lens.now c.kind_named-row.ensures in let z = (unless_ok _ tt tt c.in_default.ensures).0 in
    call_denied _ _ _ _ (call_narrow b z _ (call_parts b z _ c.places_by-found.ensures) _ c.judge-judged.ensures c.if-judged-ne-ACCEPTED.false _ c.if-needed-gt-LONGEST.false c.if-out-needed.true) c.refuse-then-out-needed.ensures

pub put_record-len-requires : goal.put_record-len-requires
put_record-len-requires c =
    let b = begun c.args.kind.now c.args.bytes.now c.args.lens.now c.kind_named-row.ensures in let z = (unless_ok _ tt tt c.in_default.ensures).0 in
    ((call_counted b z).1, call_lie b z _ c.places_by-found.ensures, c.if-out-needed.false)

pub returns : goal.returns
returns c =
    let b = begun c.args.kind.now c.args.bytes.now c.args.lens.now c.kind_named-row.ensures in let z = (unless_ok _ tt tt c.in_default.ensures).0 in
    call_made _ _ _ (call_kind b z).kind _ (call_fits b z _ (call_parts b z _ c.places_by-found.ensures) _ c.judge-judged.ensures c.if-judged-ne-ACCEPTED.false _ c.if-needed-gt-LONGEST.false c.if-out-needed.false)
    (put_as (call_record b z _ c.mark_of.ensures) c.put_record-len.ensures)
