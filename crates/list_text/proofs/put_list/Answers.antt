-- `list_text::put_list` meets its contract. The loop's invariant: the lines before the place are written and counted.
-- Assumes nothing.
use mathlib.Core.Path.{◌≡◌, sym, ◌∙◌}
use native.Mathlib.Omega.{arith}
use Rattle.format.specs.Read.{read_record}
use Rattle.format.specs.Files.{line_at}
use Rattle.format.proofs.Damage.{record_never_zero}
use Rattle.files.specs.Walk.{line_said}
use Rattle.files.specs.declared.Line.TheVariants.{Read}
use Rattle.files.proofs.Counting.{Counted, Told, told, nearer, counted_accepted, counted_refused}
use Rattle.put.proofs.Pieces.{put_length}
use Rattle.list_text.proofs.Writing.{listed_none, room_end, listed_all, room_line, listed_on}
use Rattle.list_text.proofs.put_list.Goals as goal
use Prim.Native.Nat.{◌+◌}
use Rattle.list_text.proofs.put_list.Goals.{then-no-eq-ACCEPTED, else-no-eq-ACCEPTED}

pub loop-no-init : goal.loop-no-init
loop-no-init c = listed_none _ _

pub put_end-requires : goal.put_end-requires
put_end-requires c =
    room_end c.loop-no.invariant c.requires.file_len_bound c.requires.list_room_in_bounds

pub shape_of-out : goal.shape_of-out
shape_of-out c = omega (arith, put_length c.loop-no.invariant.written, put_length c.put_end.ensures)

pub returns : goal.returns
returns c =
    listed_all c.loop-no.invariant c.requires.file_len_bound c.requires.list_room_in_bounds _ (sym c.in_default.is ∙ c.line_at.ensures) c.put_end.ensures

pub overflow_add-accepted : goal.overflow_add-accepted
overflow_add-accepted c = let counted = c.loop-no.invariant.counted in omega (arith, counted.few, counted.fewer, counted.inside)

pub overflow_add-lines : goal.overflow_add-lines
overflow_add-lines c = let counted = c.loop-no.invariant.counted in omega (arith, counted.few, counted.inside)

pub put-at-requires : goal.put-at-requires
put-at-requires c =
    let said : Read c.in-Read.no c.in-Read.field c.in-Read.kind c.in-Read.start c.in-Read.len c.in-Read.next ≡ line_said (line_at c.args.file.now c.loop-no.place) = sym c.in-Read.is ∙ c.line_at.ensures in
    room_line c.loop-no.invariant c.requires.file_len_bound c.requires.list_room_in_bounds (told read_record record_never_zero _ _ _ _ _ _ _ _ said) said (omega (arith, c.in-Read.known_told-1-own.given))

pub loop-no-smaller : goal.loop-no-smaller
loop-no-smaller c = nearer read_record record_never_zero _ _ _ _ _ _ _ _ (sym c.in-Read.is ∙ c.line_at.ensures)

pub loop-no-preserved : goal.loop-no-preserved
loop-no-preserved c =
    let l = c.loop-no.invariant in
    let said : Read c.in-Read.no c.in-Read.field c.in-Read.kind c.in-Read.start c.in-Read.len c.in-Read.next ≡ line_said (line_at c.args.file.now c.loop-no.place) = sym c.in-Read.is ∙ c.line_at.ensures in
    let read : Told read_record c.args.file.now c.loop-no.place c.in-Read.no c.in-Read.next = told read_record record_never_zero _ _ _ _ _ _ _ _ said in
    let counted : Counted read_record c.args.file.now (c.loop-no.lines + 1) c.if-no-eq-ACCEPTED.accepted c.in-Read.next =
    elim c.if-no-eq-ACCEPTED.branch [
      | then-no-eq-ACCEPTED w ↦ counted_accepted l.counted read w.if-no-eq-ACCEPTED.true w.accepted-is
      | else-no-eq-ACCEPTED w ↦ counted_refused l.counted read w.if-no-eq-ACCEPTED.false w.accepted-is
    ] in
    listed_on l c.requires.file_len_bound c.requires.list_room_in_bounds read said (omega (arith, c.in-Read.known_told-1-own.given)) counted c.put-at.ensures
