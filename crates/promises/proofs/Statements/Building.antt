-- Demand 2 whole: building from the fields that reading hands back gives those bytes again, what is built is read back, and
-- building answers 0 exactly when the lengths cut the bytes into a permitted list and the room is enough. Demand 1 for building: a
-- refused build leaves the output as it was.
-- Assumes nothing.
use Rattle.std.specs.Prelude.{ℕ, ◌≤◌, ◌<◌, ◌≡◌, ◌↔◌, ◌≢◌, List, ◌++◌, length, drop, T}
use Rattle.std.proofs.Math.Option.{none}
use Rattle.text.specs.Text.{Bytes}
use Rattle.format.specs.Kinds.{Kind, name, identity_kinds, record_kinds, all_kinds, among}
use Rattle.format.specs.Build.{record_of, Permitted}
use Rattle.format.specs.Read.{accepted, read_identity, read_record}
use Rattle.numbers.specs.Numbers.{unknown_kind, short_output}
use Rattle.table.specs.Table.{named}
use Rattle.put.specs.Made.{made}
use Rattle.put.specs.declared.Written.{Written}
use Rattle.building.specs.Building.{run, build, Builds}
use Rattle.places.specs.Places.{lengths}
use Rattle.building.proofs.build.Reads as call
use Rattle.promises.specs.Calls.{Holds}

-- a call that was lent the kind name t, the fields' bytes, their lengths and the output out, left it as out' and answered r
pub record BuildSaid (t bytes : Bytes) (ns : List ℕ) (out out' : Bytes) (r : Written) : Type 0 where
  -- 0 exactly for a permitted list of the kind's fields, for which there is room
  pub exactly : (r.no ≡ 0) ↔ ((k : Kind) × (fs : List Bytes) × Builds t bytes ns (length out) k fs)
  -- then the record stands at the front, and every byte past it stays
  pub written : (k : Kind) (fs : List Bytes) → Builds t bytes ns (length out) k fs
      → (r.len ≡ length (record_of k fs)) × (out' ≡ record_of k fs ++ drop (length (record_of k fs)) out)
  -- 2 for a kind name that is not in the table; 10 last, where only the room is missing
  pub unknown : named all_kinds t ≡ none → (r.no ≡ unknown_kind) × (r.field ≡ 0)
  pub short : (k : Kind) (fs : List Bytes) → t ≡ name k → bytes ≡ run fs → ns ≡ lengths fs → Permitted k fs → length out < length (record_of k fs)
      → (r.no ≡ short_output) × (r.field ≡ 0)
  -- demand 1
  pub untouched : r.no ≢ 0 → (r.len ≡ 0) × (out' ≡ out)

pub record Building : Type 0 where
  pub said : Holds call.Post (λ κs a r s. BuildSaid a.0.now a.1.0.now a.1.1.0.now a.1.1.1.0.now s.1.1.1.0.now r)
  -- read, and built again: the same bytes
  pub record_again : (s : Bytes) (k : Kind) (fs : List Bytes) → read_record s ≡ accepted k fs → (room : ℕ) → length s ≤ room
      → build (name k) (run fs) (lengths fs) room ≡ made s
  pub identity_again : (s : Bytes) (k : Kind) (fs : List Bytes) → read_identity s ≡ accepted k fs → (room : ℕ) → length s ≤ room
      → build (name k) (run fs) (lengths fs) room ≡ made s
  -- built, and read by the call for its kind: the same fields
  pub record_back : (k : Kind) (fs : List Bytes) → Permitted k fs → T (among k record_kinds) → read_record (record_of k fs) ≡ accepted k fs
  pub identity_back : (k : Kind) (fs : List Bytes) → Permitted k fs → T (among k identity_kinds) → read_identity (record_of k fs) ≡ accepted k fs
