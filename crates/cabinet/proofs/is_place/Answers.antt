-- `cabinet::is_place` meets its contract.
-- Assumes nothing.
use mathlib.Core.Path.{sym, ◌∙◌}
use native.Mathlib.Omega.{arith}
use borrow.Author.Tests.{ne_eqb}
use Rattle.cabinet.proofs.Decoding.{place_free, place_long, place_gap, place_dateless, place_other, place_number}
use Rattle.cabinet.proofs.is_place.Goals as goal
use Rattle.cabinet.proofs.is_place.Goals.{then-len-gt-TVP_AT-via-then-len-gt-TVP_AT, then-len-gt-TVP_AT-via-else-len-gt-TVP_AT+then-not-are_zeros, then-len-gt-TVP_AT-via-else-len-gt-TVP_AT+else-not-are_zeros+then-not-is_tvp}

pub returns-then-len-eq0 : goal.returns-then-len-eq0
returns-then-len-eq0 c = c.are_zeros.ensures ∙ place_free c.args.place.now c.requires c.next_mark-len.ensures c.if-len-eq0.true

pub slice_bounds-are_zeros-end : goal.slice_bounds-are_zeros-end
slice_bounds-are_zeros-end c = omega (arith, c.requires)

pub slice_bounds-is_tvp-end : goal.slice_bounds-is_tvp-end
slice_bounds-is_tvp-end c = omega (arith, c.requires)

pub returns-then-len-gt-TVP_AT : goal.returns-then-len-gt-TVP_AT
returns-then-len-gt-TVP_AT c = elim c.then-len-gt-TVP_AT.branch [
  | then-len-gt-TVP_AT-via-then-len-gt-TVP_AT w ↦ place_long c.args.place.now c.requires c.next_mark-len.ensures c.if-len-eq0.false w.if-len-gt-TVP_AT.true
  | then-len-gt-TVP_AT-via-else-len-gt-TVP_AT+then-not-are_zeros w ↦ place_gap c.args.place.now c.requires c.next_mark-len.ensures c.if-len-eq0.false w.if-len-gt-TVP_AT.false (sym w.are_zeros-else-len-gt-TVP_AT.ensures ∙ w.if-not-are_zeros.true)
  | then-len-gt-TVP_AT-via-else-len-gt-TVP_AT+else-not-are_zeros+then-not-is_tvp w ↦ place_dateless c.args.place.now c.requires c.next_mark-len.ensures c.if-len-eq0.false w.if-len-gt-TVP_AT.false (sym w.is_tvp.ensures ∙ w.if-not-is_tvp.true)
]

pub slice_bounds-expiry_under-end : goal.slice_bounds-expiry_under-end
slice_bounds-expiry_under-end c = omega (arith, c.requires, c.if-len-gt-TVP_AT.false)

pub returns-else-expiry-eq-ACCEPTED : goal.returns-else-expiry-eq-ACCEPTED
returns-else-expiry-eq-ACCEPTED c = ne_eqb _ 0 c.if-expiry-eq-ACCEPTED.false ∙ place_other c.args.place.now c.requires c.next_mark-len.ensures c.if-len-eq0.false c.if-len-gt-TVP_AT.false (sym c.are_zeros-else-len-gt-TVP_AT.ensures ∙ c.if-not-are_zeros.false) (sym c.is_tvp.ensures ∙ c.if-not-is_tvp.false) c.expiry_under-expiry.ensures c.if-expiry-eq-ACCEPTED.false

pub returns-then-expiry-eq-ACCEPTED : goal.returns-then-expiry-eq-ACCEPTED
returns-then-expiry-eq-ACCEPTED c = c.are_same.ensures ∙ place_number c.args.place.now c.requires c.next_mark-len.ensures c.if-len-eq0.false c.if-len-gt-TVP_AT.false (sym c.are_zeros-else-len-gt-TVP_AT.ensures ∙ c.if-not-are_zeros.false) (sym c.is_tvp.ensures ∙ c.if-not-is_tvp.false) c.expiry_under-expiry.ensures c.if-expiry-eq-ACCEPTED.true c.seconds_bytes-number.ensures
