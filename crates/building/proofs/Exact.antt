-- What the building call accepts, exactly: permitted fields for which there is room. No refusal has the number 0; what is
-- permitted is built.
-- Assumes nothing.
use Prim.Native.Nat.{ℕ, ◌≤◌}
use mathlib.Core.Path.{◌≡◌, sym, ap, ◌∙◌, subst}
use mathlib.Core.Logic.{◌↔◌}
use mathlib.Core.Bool.{◌&&◌}
use mathlib.Core.List.{List}
use lib.ListN.{length}
use lib.Dec.{leb, eqb, eqb→eq, leb→le, le→leb}
use mir.Facts.{and_yes, yes_and, yes_eqb}
use Rattle.text.specs.Text.{Bytes}
use Rattle.text.proofs.Tests.{T_true}
use Rattle.numbers.specs.Numbers.{too_long, wrong_count, short_output}
use Rattle.format.specs.Kinds.{Kind, name, fields_of, all_kinds}
use Rattle.format.specs.Build.{record_of, longest_record, IsIdentity, Permitted}
use Rattle.format.specs.Read.{Outcome, accepted, answer, provided, read_identity}
use Rattle.format.specs.declared.Rules.TheVariants.{Today}
use Rattle.format.proofs.Outcomes.{provided_law, of_kind_law, Honest, honest_zero}
use Rattle.format.proofs.Fields.{fit_length, judged_law}
use Rattle.format.proofs.Exactly.{ask_exact, permitted_judged}
use Rattle.table.specs.Table.{named}
use Rattle.put.specs.Made.{made}
use Rattle.building.specs.Building.{sum, pieces, run, build_as, build_of, record_made, build, Builds}
use Rattle.table.proofs.Names.{named_some, named_known}
use Rattle.building.proofs.Pieces.{pieces_count, pieces_lengths, pieces_run, pieces_back, sum_lengths}
use Rattle.places.specs.Places.{lengths}
use Rattle.places.proofs.Stands.{lengths_count}

build_says : (t bytes : Bytes) (ns : List ℕ) (room : ℕ) → Honest (Builds t bytes ns room) (build_of t bytes ns room)
unfolding build_of build_as
build_says t bytes ns room =
    let P : Outcome → Type 0 = Honest (Builds t bytes ns room) in
    let fs : List Bytes = pieces ns bytes in
    of_kind_law P (named all_kinds t) (build_as bytes ns room) tt
    (λ k e. provided_law P (eqb (length ns) (length (fields_of k)) && eqb (sum ns) (length bytes)) wrong_count _ tt
    (λ counts.
    let both = and_yes (eqb (length ns) (length (fields_of k))) (eqb (sum ns) (length bytes)) counts in
    let total : sum ns ≡ length bytes = eqb→eq (sum ns) (length bytes) both.1 in
    let count : length fs ≡ length (fields_of k) = pieces_count ns bytes ∙ eqb→eq (length ns) (length (fields_of k)) both.0 in
    judged_law read_identity IsIdentity ask_exact P (λ n i. tt) Today k fs _ count
    (λ fit both attributes signs. provided_law P (leb (length (record_of k fs)) longest_record) too_long _ tt
    (λ short. provided_law P (leb (length (record_of k fs)) room) short_output (accepted k fs) tt
    (λ fits. record {
      named_so = named_some all_kinds t k e;
      lengths_so = sym (pieces_lengths ns bytes total);
      bytes_so = sym (pieces_run ns bytes total);
      permitted_so = record { fit = fit; both = both; attributes = attributes; signs = signs; short = short };
      room_so = leb→le (length (record_of k fs)) room fits;
    })))))

as_permitted : (k : Kind) (fs : List Bytes) (room : ℕ) → Permitted k fs
    → build_as (run fs) (lengths fs) room k ≡ provided (leb (length (record_of k fs)) room) short_output (accepted k fs)
unfolding build_as
as_permitted k fs room p =
    let count = lengths_count fs ∙ fit_length IsIdentity (fields_of k) fs p.fit in
    let counts = yes_and (eqb (length (lengths fs)) (length (fields_of k))) (eqb (sum (lengths fs)) (length (run fs))) (yes_eqb count) (yes_eqb (sum_lengths fs)) in
    rw (
      T_true (eqb (length (lengths fs)) (length (fields_of k)) && eqb (sum (lengths fs)) (length (run fs))) counts,
      pieces_back fs,
      permitted_judged Today k fs _ p,
      T_true (leb (length (record_of k fs)) longest_record) p.short,
    )

-- of permitted fields only the room is still asked
pub build_permitted : (k : Kind) (fs : List Bytes) (room : ℕ) → Permitted k fs
    → build_of (name k) (run fs) (lengths fs) room ≡ provided (leb (length (record_of k fs)) room) short_output (accepted k fs)
unfolding build_of
build_permitted k fs room p = rw (named_known k) (as_permitted k fs room p)

build_accepts : (k : Kind) (fs : List Bytes) (room : ℕ) → Permitted k fs → length (record_of k fs) ≤ room
    → build_of (name k) (run fs) (lengths fs) room ≡ accepted k fs
build_accepts k fs room p h = build_permitted k fs room p ∙ rw (T_true (leb (length (record_of k fs)) room) (le→leb (length (record_of k fs)) room h))

pub build_exact : (t bytes : Bytes) (ns : List ℕ) (room : ℕ) (k : Kind) (fs : List Bytes)
    → (build_of t bytes ns room ≡ accepted k fs) ↔ Builds t bytes ns room k fs
build_exact t bytes ns room k fs = (
  λ e. subst (Honest (Builds t bytes ns room)) e (build_says t bytes ns room),
  λ b. rw (b.named_so, b.bytes_so, b.lengths_so) (build_accepts k fs room b.permitted_so b.room_so),
)

pub build_honest : (t bytes : Bytes) (ns : List ℕ) (room : ℕ) → answer (build_of t bytes ns room) ≡ 0
    → (k : Kind) × (fs : List Bytes) × (build_of t bytes ns room ≡ accepted k fs)
build_honest t bytes ns room = honest_zero (Builds t bytes ns room) (build_of t bytes ns room) (build_says t bytes ns room)

pub rebuilt : (k : Kind) (fs : List Bytes) (room : ℕ) → Permitted k fs → length (record_of k fs) ≤ room
    → build (name k) (run fs) (lengths fs) room ≡ made (record_of k fs)
unfolding build
rebuilt k fs room p h = ap record_made (build_accepts k fs room p h)
