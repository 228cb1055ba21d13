-- Of accepted identities: their fields stand where the code looks for them, and comparing their bytes is comparing kind,
-- Manufacturer and MID.
-- Assumes nothing.
use Prim.Native.Nat.{ℕ, suc}
use mathlib.Core.Path.{◌≡◌, ap, ◌∙◌}
use mathlib.Core.Logic.{◌↔◌}
use mathlib.Core.Bool.{true}
use mathlib.Core.List.{List, []}
use lib.ListN.{get_or}
use lib.Dec.{T, lit<}
use native.Mathlib.Nat.{zero-add}
use denote.Ref.{Bor}
use Prim.Native.Char.{code}
use mir.Facts.{and_yes}
use Rattle.text.specs.Text.{Bytes, same, is_timestamp, is_print}
use Rattle.text.specs.Part.{Part}
use Rattle.text.proofs.Tests.{same→eq, same_refl, T_true}
use Rattle.format.specs.Kinds.{Kind, name, identity_fields, identity_kinds}
use Rattle.format.specs.Build.{Fits, FitAll, IsIdentity, Built}
use Rattle.format.specs.Read.{accepted, title, body, read_identity}
use Rattle.format.proofs.Table.{name_inj, identity_row}
use Rattle.format.proofs.Fields.{fit_at}
use Rattle.format.proofs.Exactly.{identity_exact, its_title, its_fields}
use Rattle.frame.specs.Frame.{part_of, IsPart}
use Rattle.frame.proofs.Parts.{field_part}
use Rattle.subjects.specs.Subjects.{manufacturer, mid, gnt, alike, identity_part, IsIdentityPart, are_alike}

-- ---- an accepted identity

module _ (i : Bytes) {k : Kind} {fs : List Bytes} (e : read_identity i ≡ accepted k fs) where
  built : Built identity_kinds i k fs
  built = (identity_exact i k fs).0 e

  pub identity_title : title i ≡ name k
  identity_title = its_title built

  pub identity-field : (j : ℕ) → identity_part i (suc j) ≡ get_or fs j []
  identity-field j =
      rw (← (identity_row k built.of-kind).0) (field_part k i j ∙ ap (λ (l : List Bytes). get_or l j []) (its_fields built))

  fits_row : FitAll IsIdentity identity_fields fs
  fits_row = rw (identity_row k built.of-kind).1 at built.permitted.fit

  pub identity_gnt : T (is_timestamp (gnt fs))
  unfolding Fits
  identity_gnt = fit_at IsIdentity _ fs fits_row 2 (lit< tt)

  pub identity_print : T (is_print (get_or fs 3 []))
  unfolding Fits
  identity_print = fit_at IsIdentity _ fs fits_row 3 (lit< tt)

-- ---- two of them

pub alike_identities : (i j : Bytes) {k l : Kind} {fs gs : List Bytes} → read_identity i ≡ accepted k fs → read_identity j ≡ accepted l gs
    → are_alike i j ≡ alike k fs l gs
unfolding alike are_alike
alike_identities i j e f =
    rw (identity_title i e, identity_title j f, identity-field i e 0, identity-field j f 0, identity-field i e 1, identity-field j f 1)

same_self : (s : Bytes) → same s s ≡ true
same_self s = T_true (same s s) (same_refl s)

module _ (j k : Kind) (fs gs : List Bytes) where
  abbrev Agree : Type 0
  Agree = (j ≡ k) × (manufacturer fs ≡ manufacturer gs) × (mid fs ≡ mid gs)

  -- alike exactly where kind, Manufacturer and MID are equal
  pub alike_exactly : T (alike j fs k gs) ↔ Agree
  unfolding alike
  alike_exactly = (
    λ t.
        let t₁ = and_yes (same (name j) (name k)) _ t in
        let t₂ = and_yes (same (manufacturer fs) (manufacturer gs)) _ t₁.1 in
        (name_inj j k (same→eq _ _ t₁.0), same→eq _ _ t₂.0, same→eq _ _ t₂.1),
    λ (kinds, manufacturers, mids). rw (kinds, manufacturers, mids) (simp same_self tt),
  )

-- ---- where a field stands: the body, of which it is a part, begins where the identity does

pub field_of_body : {s b r : Bor Bytes} (n : ℕ) → Part s 0 (body s.now) b → IsPart (code ":") b n r → IsIdentityPart s n r
field_of_body {s} {b} {r} n p q = record {
  stands = q.stands ∙ rw (p.stands, p.holds) (rw zero-add);
  holds = q.holds ∙ ap (λ (x : Bytes). part_of (code ":") x n) p.holds;
}
