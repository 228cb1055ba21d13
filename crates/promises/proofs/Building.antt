-- The building promises, from the laws of format and building.
-- Assumes nothing.
use Prim.Native.Nat.{ℕ, ◌≤◌}
use mathlib.Core.Path.{◌≡◌, refl, sym, ap, ◌∙◌, subst}
use mathlib.Core.Logic.{◌≢◌}
use mathlib.Core.Option.{none}
use mathlib.Core.List.{List}
use borrow.Author.Tests.{lt-leb}
use lib.ListN.{length}
use Rattle.text.specs.Text.{Bytes}
use Rattle.format.specs.Kinds.{Kind, name, identity_kinds, record_kinds, all_kinds}
use Rattle.format.specs.Build.{record_of, Built}
use Rattle.format.specs.Read.{Outcome, accepted, refused, answer}
use Rattle.format.proofs.Exactly.{identity_exact, record_exact}
use Rattle.numbers.specs.Numbers.{unknown_kind, short_output}
use Rattle.table.specs.Table.{named}
use Rattle.put.specs.Made.{Made, made, says, leaves, Writes}
use Rattle.put.specs.declared.Written.{Written}
use Rattle.building.specs.Building.{run, build_of, record_made, build}
use Rattle.places.specs.Places.{lengths}
use Rattle.building.proofs.Exact.{build_exact, build_honest, build_permitted, rebuilt}
use Rattle.promises.proofs.Statements.Building.{BuildSaid, Building}

number : (o : Outcome) → (says (record_made o)).no ≡ answer o
number (accepted k fs) = refl
number (refused n i) = refl

-- what a call says and leaves whose number is not 0
kept : (o : Outcome) (out : Bytes) → answer o ≢ 0 → ((says (record_made o)).len ≡ 0) × (leaves (record_made o) out ≡ out)
kept (accepted k fs) out n = absurd (n refl)
kept (refused m i) out n = (refl, refl)

unknown-kind : (t bytes : Bytes) (ns : List ℕ) (room : ℕ) → named all_kinds t ≡ none → build_of t bytes ns room ≡ refused unknown_kind 0
unfolding build_of
unknown-kind t bytes ns room h = rw h

build_said : (t bytes : Bytes) (ns : List ℕ) (out out' : Bytes) (r : Written) → Writes (build t bytes ns (length out)) out out' r
    → BuildSaid t bytes ns out out' r
unfolding build
build_said t bytes ns out out' r w =
    let o : Outcome = build_of t bytes ns (length out) in
    let q : r.no ≡ answer o = ap (λ (x : Written). x.no) w.said ∙ number o in
    record {
      exactly = (
        λ z. let (k, fs, e) = build_honest t bytes ns (length out) (sym q ∙ z) in (k, fs, (build_exact t bytes ns (length out) k fs).0 e),
        λ b. q ∙ ap answer ((build_exact t bytes ns (length out) b.0 b.1).1 b.2),
      );
      written = λ k fs b.
          let e = ap record_made ((build_exact t bytes ns (length out) k fs).1 b) in
          (ap (λ (x : Written). x.len) (w.said ∙ ap says e), w.left ∙ ap (λ (m : Made). leaves m out) e);
      unknown = λ h.
          let e : r ≡ record { no = unknown_kind; field = 0; len = 0 } = w.said ∙ ap (λ (x : Outcome). says (record_made x)) (unknown-kind t bytes ns (length out) h) in
          (ap (λ (x : Written). x.no) e, ap (λ (x : Written). x.field) e);
      short = λ k fs named all lens p h.
          let q : o ≡ refused short_output 0 =
          rw (named, all, lens) (build_permitted k fs (length out) p ∙ rw (lt-leb (length (record_of k fs)) (length out) h)) in
          let e : r ≡ record { no = short_output; field = 0; len = 0 } = w.said ∙ ap (λ (x : Outcome). says (record_made x)) q in
          (ap (λ (x : Written). x.no) e, ap (λ (x : Written). x.field) e);
      untouched = λ n.
          let e = kept o out (λ z. n (q ∙ z)) in
          (ap (λ (x : Written). x.len) w.said ∙ e.0, w.left ∙ e.1);
    }

-- the record of permitted fields, built again
pub again : (ks : List Kind) (s : Bytes) (k : Kind) (fs : List Bytes) → Built ks s k fs → (room : ℕ) → length s ≤ room
    → build (name k) (run fs) (lengths fs) room ≡ made s
again ks s k fs b room h = rebuilt k fs room b.permitted (subst (λ (x : Bytes). length x ≤ room) b.built h) ∙ ap made (sym b.built)

pub building : Building
building = record {
  said = λ κs a r s w. build_said _ _ _ _ _ r w;
  record_again = λ s k fs e room h. again record_kinds s k fs ((record_exact s k fs).0 e) room h;
  identity_again = λ s k fs e room h. again identity_kinds s k fs ((identity_exact s k fs).0 e) room h;
  record_back = λ k fs p t. (record_exact (record_of k fs) k fs).1 (record { of-kind = t; permitted = p; built = refl });
  identity_back = λ k fs p t. (identity_exact (record_of k fs) k fs).1 (record { of-kind = t; permitted = p; built = refl });
}
