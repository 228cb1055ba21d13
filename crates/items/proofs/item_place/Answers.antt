-- `items::item_place` meets its contract. The loop's invariant: i of n items are passed (`Walked`).
-- Assumes nothing.
use native.Mathlib.Omega.{arith}
use Rattle.items.proofs.Walk.{placed_none, no_text, number_zero, no_length, no_bytes, bytes_behind, walk_begins, walk_more, walk_there, walk_missing, walk_found}
use Rattle.items.proofs.item_place.Goals as goal
use Rattle.items.proofs.item_place.Goals.{then-is_empty-via-then-is_empty, then-is_empty-via-else-is_empty+then-wanted-eq0, then-i-wanted, else-i-wanted}

pub returns-then-is_empty : goal.returns-then-is_empty
returns-then-is_empty c =
    placed_none _ c.missing.ensures
    (elim c.then-is_empty.branch [
      | then-is_empty-via-then-is_empty w ↦ no_text _ _ (let t = w.if-is_empty.true in grind arith)
      | then-is_empty-via-else-is_empty+then-wanted-eq0 w ↦ number_zero _ _ w.if-wanted-eq0.true
    ])

pub loop-i-init : goal.loop-i-init
loop-i-init c = walk_begins _ _ (λ e. let t = c.if-is_empty.false in grind arith) c.if-wanted-eq0.false

pub returns-then-text-at : goal.returns-then-text-at
returns-then-text-at c = placed_none _ c.missing-then-text-at.ensures (no_length c.loop-i.invariant.passed (omega arith) c.if-text-at.true)

pub returns-then-text-start : goal.returns-then-text-start
returns-then-text-start c = placed_none _ c.missing-then-text-start.ensures (no_bytes c.loop-i.invariant.passed (omega arith) (omega arith) c.if-text-start.true)

pub loop-i-preserved : goal.loop-i-preserved
loop-i-preserved c =
    elim c.if-i-wanted.branch [
      | then-i-wanted w ↦ walk_there (omega arith) (omega arith) (omega arith) c.loop-i.invariant w.if-i-wanted.true w.found-is
      | else-i-wanted w ↦ walk_more (omega arith) (omega arith) (omega arith) _ _ c.loop-i.invariant w.if-i-wanted.false w.found-is
    ]

pub returns-then-at-text : goal.returns-then-at-text
returns-then-at-text c = placed_none _ c.missing-then-at-text.ensures (bytes_behind c.loop-i.invariant.passed (omega arith) c.if-at-text.true)

pub returns-in-Some : goal.returns-in-Some
returns-in-Some c = walk_found c.loop-i.invariant (omega arith) (omega arith) c.in-Some.is

pub returns-in-None : goal.returns-in-None
returns-in-None c = placed_none _ c.missing-in-None.ensures (walk_missing c.loop-i.invariant (omega arith) (omega arith) c.in-None.is)
