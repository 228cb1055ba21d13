-- Numbers 2 to 4, by the row that was found.
-- Assumes nothing.
use Prim.Native.Nat.{ℕ, zero, suc}
use mathlib.Core.Logic.{◌⊎◌, inl, inr, ⊎_elim}
use mathlib.Core.Bool.{Bool, true, false, true≢false, false≢true, cond}
use Rattle.std.specs.Prelude.{Ok, Err, is_ok}
use mathlib.Core.Path.{◌≡◌, refl, ap, sym, ◌∙◌}
use mathlib.Core.Option.{Option, none, some}
use native.Mathlib.Omega.{arith}
use lib.ListN.{length}
use Rattle.text.proofs.Tests.{true_T}
use lib.Dec.{eqb, eqb→eq}
use borrow.Author.Tests.{eq-eqb, ne_eqb}
use Rattle.text.specs.Text.{Bytes}
use Rattle.numbers.specs.Numbers.{wrong_count}
use Rattle.format.specs.Kinds.{Kind, mark, fields_of}
use Rattle.format.specs.Read.{Outcome, accepted, provided, passing, of_kind, check_no, body, fields_in, judged, read_as}
use Rattle.format.specs.declared.Rules.{Rules}
use Rattle.table.specs.Table.{row_of, missing_row, row_for, mark_of, count_of}
use Rattle.places.specs.Places.{places_of}
use Rattle.places.specs.declared.Places.{Places}
use Rattle.table.proofs.Rows.{row_small, of-kind}
use Rattle.reading.specs.Steps.{unless, form_no, first_of, places_in}
use Rattle.reading.proofs.Outcomes.{unless_ok, unless_err}

-- ---- the tests in a row

pub form_none : (row : ℕ) (s : Bytes) → row ≡ missing_row → form_no row s ≡ 2
unfolding form_no
form_none row s e = rw (eq-eqb row missing_row e)

-- m is the mark as the code has it
pub form_check : (row : ℕ) (s : Bytes) → (row ≡ missing_row → ⊥) → (m : ℕ) → m ≡ mark_of row → check_no m s ≡ form_no row s
unfolding form_no
form_check row s h m em = ap (λ (x : ℕ). check_no x s) em ∙ rw (ne_eqb row missing_row h)

-- a form without a number: a row was found
pub form_found : (row : ℕ) (s : Bytes) → form_no row s ≡ 0 → row ≡ missing_row → ⊥
form_found row s e h = omega (arith, form_none row s h)

-- ---- what is left is the number of the fields, and then the fields

module _ (rules : Rules) (ask : Bytes → Outcome) (s : Bytes) where
  abbrev pub from_fields : Kind → Outcome
  from_fields k = judged rules ask k (fields_in k s) (accepted k (fields_in k s))

  abbrev pub from_count : Kind → Outcome
  from_count k = provided (eqb (length (fields_in k s)) (length (fields_of k))) wrong_count (from_fields k)

  as_form : (k : Kind) → read_as rules ask s k ≡ passing (form_no (row_of k) s) 0 (from_count k)
  unfolding read_as form_no
  as_form k = rw (ne_eqb (row_of k) missing_row (λ e. omega (arith, row_small k)), of-kind mark 0 k)

  pub of_form : (o : Option Kind) (row : ℕ) → row ≡ row_for o → of_kind o (read_as rules ask s) ≡ passing (form_no row s) 0 (of_kind o from_count)
  of_form none row e = rw (form_none row s e)
  of_form (some k) row e = rw e (as_form k)

-- ---- the places of the fields, where numbers 2 to 5 are not said

first_none : (m n : ℕ) → first_of m n ≡ 0 → (m ≡ 0) × (n ≡ 0)
first_none zero n e = (refl, e)
first_none (suc m) n e = absurd (omega (arith, e))

first_one : (m n : ℕ) → (first_of m n ≡ 0 → ⊥) → ((first_of m n ≡ m) × (m ≡ 0 → ⊥)) ⊎ ((m ≡ 0) × (first_of m n ≡ n))
first_one zero n e = inr (refl, refl)
first_one (suc m) n e = inl (refl, e)

by_count : (b : Bool) → ((◌≡◌ {A = ℕ} (cond b 0 5) 0) × (b ≡ true)) ⊎ ((◌≡◌ {A = ℕ} (cond b 0 5) 5) × (b ≡ false))
by_count true = inl (refl, refl)
by_count false = inr (refl, refl)

module _ (row : ℕ) (s : Bytes) where
  abbrev its_places : Places
  its_places = places_of (mark_of row) (body s)

  pub record Placed (p : Places) : Type 0 where
    pub formed : form_no row s ≡ 0
    pub is : p ≡ places_of (mark_of row) (body s)
    pub counted : p.count ≡ count_of row

  pub placed : (p : Places) → Ok p ≡ places_in row s → Placed p
  unfolding places_in
  placed p e =
      let u = unless_ok _ p its_places e in
      let f = first_none _ _ u.0 in
      record {
        formed = f.0;
        is = u.1;
        counted =
            ap (λ (x : Places). x.count) u.1
            ∙ ⊎_elim (λ t. eqb→eq its_places.count (count_of row) (true_T _ t.1)) (λ t. absurd (omega (arith, f.1, t.0))) (by_count (eqb its_places.count (count_of row)));
      }

  pub unplaced : (n : ℕ) → Err n ≡ places_in row s
      → ((n ≡ form_no row s) × (form_no row s ≡ 0 → ⊥)) ⊎ ((form_no row s ≡ 0) × (n ≡ 5) × (its_places.count ≡ count_of row → ⊥))
  unfolding places_in
  unplaced n e =
      let u = unless_err _ n its_places e in
      ⊎_elim (λ t. inl (u.0 ∙ t.0, t.1))
      (λ t. ⊎_elim (λ w. absurd (u.1 (t.1 ∙ w.0))) (λ w. inr (t.0, u.0 ∙ t.1 ∙ w.0, λ z. true≢false (sym (eq-eqb _ _ z) ∙ w.1))) (by_count (eqb its_places.count (count_of row))))
      (first_one _ _ u.1)

  -- the steps of the code, with the mark and the body as it has them

  pub formed_not : (n : ℕ) → Err n ≡ unless {A = Unit {0}} (form_no row s) tt → Err n ≡ places_in row s
  unfolding places_in
  formed_not n e = go (form_no row s) _ e
    where
      go : (v k : ℕ) → Err n ≡ unless {A = Unit {0}} v tt → Err n ≡ unless (first_of v k) its_places
      go zero k z = absurd (false≢true (ap is_ok z))
      go (suc m) k z = let w : n ≡ suc m = search z in rw w

  module _ (z : form_no row s ≡ 0) (m : ℕ) (em : m ≡ mark_of row) (d : Bytes) (ed : d ≡ body s) (p : Places) (ep : p ≡ places_of m d) where
    here : p ≡ its_places
    here = ep ∙ rw (em, ed)

    pub counted_not : (p.count ≡ count_of row → ⊥) → Err 5 ≡ places_in row s
    unfolding places_in
    counted_not h = rw (z, ne_eqb its_places.count (count_of row) (λ w. h (ap (λ (x : Places). x.count) here ∙ w)))

    pub counted_so : p.count ≡ count_of row → Ok p ≡ places_in row s
    unfolding places_in
    counted_so h = rw (z, eq-eqb its_places.count (count_of row) (sym (ap (λ (x : Places). x.count) here) ∙ h), here)
