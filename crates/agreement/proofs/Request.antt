-- What is known of an accepted record that was to be of one kind, and of an accepted request: its fields go into a text.
-- Assumes nothing.
use Prim.Native.Nat.{ℕ, zero, suc, ◌≤◌}
use mathlib.Core.Path.{◌≡◌, sym, ap, ◌∙◌, subst}
use mathlib.Core.List.{List, [], ◌∷◌}
use native.Mathlib.Omega.{arith}
use native.Mathlib.Nat.{le_trans}
use lib.ListN.{length, get_or, get_or-eq_default}
use lib.Dec.{leb, leb→le}
use Rattle.text.specs.Text.{Bytes, Ident}
use Rattle.text.proofs.Tests.{less_or, all_below, below}
use Rattle.text.proofs.Types.{point_hex}
use Rattle.format.specs.Kinds.{Kind, REQ, Field, Text, fields_of}
use Rattle.format.specs.Build.{Fits, IsIdentity, Permitted, Built}
use Rattle.format.specs.Read.{accepted, fields_in, read_of}
use Rattle.format.proofs.Table.{among_one, bounded, longest_of}
use Rattle.format.proofs.Fields.{fit_length, fit_at, field_short}
use Rattle.format.proofs.Exactly.{identity_tame, read_exact, read_says, its_fields, its_parts, its_few}
use Rattle.places.specs.Places.{field_at}
use Rattle.places.proofs.Stands.{record-field}
use Rattle.reading.specs.Reading.{answer_of}
use Rattle.reading.specs.declared.Answer.{Answer}
use Rattle.reading.proofs.Answers.{taken}
use Rattle.agreement.specs.Steps.{field_no, Suited, Places}

-- ---- of an accepted record that was to be of one kind: its kind and its fields

pub one_built : (k : Kind) (s : Bytes) {j : Kind} {fs : List Bytes} → read_of (k ∷ []) s ≡ accepted j fs → Built (k ∷ []) s k fs
one_built k s {j} {fs} e =
    let b = (read_exact (k ∷ []) s j fs).0 e in
    subst (λ (i : Kind). Built (k ∷ []) s i fs) (among_one j k b.of-kind) b

module _ (k : Kind) (s : Bytes) (a : Answer) (e : a ≡ answer_of (read_of (k ∷ []) s)) (z : a.no ≡ 0) where
  pub one_read : read_of (k ∷ []) s ≡ accepted k (fields_in k s)
  one_read =
      let t = taken (Built (k ∷ []) s) (read_of (k ∷ []) s) a (read_says (k ∷ []) s) e z in
      let b = one_built k s t.is in
      (read_exact (k ∷ []) s k t.fields).1 b ∙ ap (λ (fs : List Bytes). accepted k fs) (sym (its_fields b))

  built : Built (k ∷ []) s k (fields_in k s)
  built = one_built k s one_read

  pub one_permitted : Permitted k (fields_in k s)
  one_permitted = built.permitted

  pub one_field : (n : ℕ) → field_at s a.starts a.lens n ≡ field_no (fields_in k s) n
  one_field n =
      ap (λ (x : Answer). field_at s x.starts x.lens n) (e ∙ ap answer_of one_read) ∙ record-field k s (fields_in k s) (its_few built) (its_parts built) n

-- ---- its fields go into a text

pub permitted_suited : (fs : List Bytes) → Permitted REQ fs → Suited fs
unfolding all_below Fits
permitted_suited fs p =
    record { short = each; point = point_hex (get_or fs 5 []) (fit_at IsIdentity (fields_of REQ) fs p.fit 5 (omega arith)) }
  where
    each : (n : ℕ) → length (field_no fs n) ≤ 255
    each zero = omega arith
    each (suc n) =
        let t : ℕ → Field = λ m. get_or (fields_of REQ) m (Text Ident) in
        less_or n 7
        (λ h.
        le_trans (field_short IsIdentity identity_tame (t n) (get_or fs n []) (below 7 (λ m. bounded (t m)) tt n h) (fit_at IsIdentity (fields_of REQ) fs p.fit n h))
        (leb→le (longest_of (t n)) 255 (below 7 (λ m. leb (longest_of (t m)) 255) tt n h)))
        (λ h. rw (get_or-eq_default fs [] {n = n} (omega (arith, fit_length IsIdentity (fields_of REQ) fs p.fit))) (omega arith))

module _ (s : Bytes) (a : Answer) (e : a ≡ answer_of (read_of (REQ ∷ []) s)) (z : a.no ≡ 0) where
  pub request_read : read_of (REQ ∷ []) s ≡ accepted REQ (fields_in REQ s)
  request_read = one_read REQ s a e z

  pub request_suited : Suited (fields_in REQ s)
  request_suited = permitted_suited (fields_in REQ s) (one_permitted REQ s a e z)

  pub request_places : Places s a.starts a.lens
  request_places = record { field = one_field REQ s a e z }
