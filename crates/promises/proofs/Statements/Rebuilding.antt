-- Demand 2 on what the calls answer: a record that reading accepts, its fields asked for one after another by a field call, and a record
-- built of what was handed back: those bytes again. The same where the fields are asked for by their places.
-- Assumes nothing.
use Rattle.std.specs.Prelude.{ℕ, suc, ◌≤◌, ◌≡◌, List, [], ◌∷◌, ◌++◌, length, drop}
use Rattle.std.specs.Borrow.{Bor}
use Rattle.text.specs.Text.{Bytes, part}
use Rattle.format.specs.Kinds.{Kind, name}
use Rattle.table.specs.Table.{row_of}
use Rattle.places.specs.Places.{lengths}
use Rattle.building.specs.Building.{run}
use Rattle.reading.proofs.read_identity.Reads as read-identity
use Rattle.reading.proofs.read_record.Reads as read-record
use Rattle.fields.proofs.identity_field.Reads as identity-field
use Rattle.fields.proofs.record_field.Reads as record-field
use Rattle.fields.proofs.identity_place.Reads as identity-place
use Rattle.fields.proofs.record_place.Reads as record-place
use Rattle.building.proofs.build.Reads as build
use Rattle.promises.specs.Calls.{Holds, SomeCall}

-- what was handed back, asked for field n, field n + 1 and so on, until there was no such field: `Says n x no` is that the call for field n
-- handed back the bytes x with this number
pub data Asked (Says : ℕ → Bytes → ℕ → Type 0) : ℕ → List Bytes → Type 0 where
  none : {n : ℕ} {x : Bytes} → Says n x 12 → Asked Says n []
  more : {n : ℕ} {x : Bytes} {xs : List Bytes} → Says n x 0 → Asked Says (suc n) xs → Asked Says n (x ∷ xs)

-- a reading call was lent these bytes and accepted a record of kind k
abbrev pub IdentityRead : Bor Bytes → Kind → Type 0
IdentityRead lent k = SomeCall read-identity.Post (λ κs a r s. (a.0 ≡ lent) × (r.no ≡ 0) × (r.kind ≡ row_of k))

abbrev pub RecordRead : Bor Bytes → Kind → Type 0
RecordRead lent k = SomeCall read-record.Post (λ κs a r s. (a.0 ≡ lent) × (r.no ≡ 0) × (r.kind ≡ row_of k))

-- the field calls
abbrev pub IdentityField : Bor Bytes → ℕ → Bytes → ℕ → Type 0
IdentityField lent n x number = SomeCall identity-field.Post (λ κs a r s. (a.0 ≡ lent) × (a.1.0 ≡ n) × (r.now ≡ x) × (s.1.1.0.now ≡ number))

abbrev pub RecordField : Bor Bytes → ℕ → Bytes → ℕ → Type 0
RecordField lent n x number = SomeCall record-field.Post (λ κs a r s. (a.0 ≡ lent) × (a.1.0 ≡ n) × (r.now ≡ x) × (s.1.1.0.now ≡ number))

abbrev pub IdentityPlace : Bor Bytes → ℕ → Bytes → ℕ → Type 0
IdentityPlace lent n x number = SomeCall identity-place.Post (λ κs a r s. (a.0 ≡ lent) × (a.1.0 ≡ n) × (part r.start r.len lent.now ≡ x) × (r.no ≡ number))

abbrev pub RecordPlace : Bor Bytes → ℕ → Bytes → ℕ → Type 0
RecordPlace lent n x number = SomeCall record-place.Post (λ κs a r s. (a.0 ≡ lent) × (a.1.0 ≡ n) × (part r.start r.len lent.now ≡ x) × (r.no ≡ number))

-- the building call, lent the kind's name and these fields, gives the bytes s in any output that has room for them, and every byte past
-- them stays
abbrev pub BuildsAgain : Bytes → Kind → List Bytes → Type 0
BuildsAgain s k xs = Holds build.Post (λ κs a r t.
    a.0.now ≡ name k → a.1.0.now ≡ run xs → a.1.1.0.now ≡ lengths xs → length s ≤ length a.1.1.1.0.now
    → (r.no ≡ 0) × (r.len ≡ length s) × (t.1.1.1.0.now ≡ s ++ drop (length s) a.1.1.1.0.now))

pub record Rebuilding : Type 0 where
  pub identity_parts : (lent : Bor Bytes) (k : Kind) (xs : List Bytes) → IdentityRead lent k → Asked (IdentityField lent) 1 xs → BuildsAgain lent.now k xs
  pub record_parts : (lent : Bor Bytes) (k : Kind) (xs : List Bytes) → RecordRead lent k → Asked (RecordField lent) 1 xs → BuildsAgain lent.now k xs
  pub identity_places : (lent : Bor Bytes) (k : Kind) (xs : List Bytes) → IdentityRead lent k → Asked (IdentityPlace lent) 1 xs → BuildsAgain lent.now k xs
  pub record_places : (lent : Bor Bytes) (k : Kind) (xs : List Bytes) → RecordRead lent k → Asked (RecordPlace lent) 1 xs → BuildsAgain lent.now k xs
