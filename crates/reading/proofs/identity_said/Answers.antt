-- `reading::identity_said` meets its contract.
-- Assumes nothing.
use mathlib.Core.Path.{◌≡◌, sym, ap, ap₂, ◌∙◌}
use mathlib.Core.Bool.{Bool, cond}
use Rattle.format.specs.Kinds.{identity_kinds}
use Rattle.format.specs.Build.{Built}
use Rattle.format.specs.Read.{read_identity, identity_answer}
use Rattle.format.proofs.Exactly.{identity_says}
use Rattle.table.specs.Table.{field_type, permitted}
use Rattle.reading.specs.Reading.{kind_said}
use Rattle.reading.specs.Steps.{unless}
use Rattle.reading.proofs.Types.{identity_refused, identity_taken, kind_told}
use Rattle.reading.proofs.identity_said.Goals as goal
use Rattle.reading.proofs.identity_said.Lts as lts
use Rattle.reading.proofs.identity_said.Tie.{the-claims}
use Rattle.reading.proofs.identity_said.Reads.{Pre, Post}

-- past number 7: the table decides
inner : (c : lts.After-does_permit the-claims Pre Post) → cond c.does_permit.result 0 9 ≡ identity_answer (permitted (field_type c.args.code)) (read_identity c.args.field.now)
inner c =
    ap (λ (b : Bool). cond b 0 9) c.does_permit.ensures
    ∙ sym (identity_taken _ (read_identity c.args.field.now) _ c.read_identity-inner.ensures (Built identity_kinds _) (identity_says c.args.field.now) c.if-inner-ne-ACCEPTED.false)

pub returns-then-inner-ne-ACCEPTED : goal.returns-then-inner-ne-ACCEPTED
returns-then-inner-ne-ACCEPTED c = ap (λ n. unless n (kind_said (read_identity c.args.field.now))) (sym (identity_refused _ (read_identity c.args.field.now) _ c.read_identity-inner.ensures c.if-inner-ne-ACCEPTED.true))

pub returns-then-does_permit : goal.returns-then-does_permit
returns-then-does_permit c = ap₂ unless (ap (λ (b : Bool). cond b 0 9) (sym c.if-does_permit.true) ∙ inner c.before.before) (kind_told (read_identity c.args.field.now) _ c.read_identity-inner.ensures)

pub returns : goal.returns
returns c = ap (λ n. unless n (kind_said (read_identity c.args.field.now))) (ap (λ (b : Bool). cond b 0 9) (sym c.if-does_permit.false) ∙ inner c.before.before)
