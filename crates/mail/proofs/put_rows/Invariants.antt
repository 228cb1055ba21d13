-- `mail::put_rows` meets its contract. The loop's invariant: the rows that came are written.
-- Assumes nothing.
use mathlib.Core.Path.{◌≡◌}
use Rattle.put.proofs.Underway.{Underway}
use Rattle.mail.proofs.Writing.{rows_of}
use Rattle.mail.proofs.put_rows.Given as goal

abbrev pub invariant-loop-row : goal.invariant-loop-row
invariant-loop-row l = Underway l.initial.out l.at (rows_of l.«record») (rows_of l.row-iterator.rest.now) l.out l.next × (l.row-iterator.size ≡ 64)
