-- What an answer tells of the outcome: its numbers; with no number it is accepted, of the answer's row, and with a number it is
-- that refusal.
-- Assumes nothing.
use Rattle.std.specs.Prelude.{Result, Ok, Err, is_ok}
use mathlib.Core.Bool.{true≢false, false≢true}
use Prim.Native.Nat.{ℕ, zero, suc}
use mathlib.Core.Path.{◌≡◌, refl, sym, ap, ap₂, ◌∙◌}
use mathlib.Core.Logic.{◌⊎◌, inl, inr}
use mathlib.Core.List.{List, [], ◌∷◌}
use native.Mathlib.Omega.{arith}
use Rattle.text.specs.Text.{Bytes}
use Rattle.format.specs.Kinds.{Kind, Field, fields_of}
use Rattle.format.specs.Read.{Outcome, accepted, refused, answer, place, passing, each, field_answer, whole_answer, judged, read_identity}
use Rattle.format.specs.declared.Rules.{Rules}
use Rattle.format.proofs.Outcomes.{Honest}
use Rattle.table.specs.Table.{row_of}
use Rattle.places.specs.Places.{starts_of, lens_of}
use Rattle.reading.specs.Reading.{kinds_of, answer_of, judged_said}
use Rattle.reading.specs.declared.Answer.{Answer}
use Rattle.reading.specs.declared.Judged.{Judged}
use Rattle.reading.specs.declared.Refused.{Refused}
use Rattle.reading.specs.Steps.{kinds_or}

pub told : (o : Outcome) (a : Answer) → a ≡ answer_of o → (a.no ≡ answer o) × (a.field ≡ place o)
told (accepted k fs) a e = (ap (λ (x : Answer). x.no) e, ap (λ (x : Answer). x.field) e)
told (refused n i) a e = (ap (λ (x : Answer). x.no) e, ap (λ (x : Answer). x.field) e)

pub record Taken (P : Kind → List Bytes → Type 0) (o : Outcome) (row : ℕ) : Type 0 where
  pub kind : Kind
  pub fields : List Bytes
  pub is : o ≡ accepted kind fields
  pub at : row ≡ row_of kind
  pub holds : P kind fields

pub taken : (P : Kind → List Bytes → Type 0) (o : Outcome) (a : Answer) → Honest P o → a ≡ answer_of o → a.no ≡ 0 → Taken P o a.kind
taken P (accepted k fs) a h e z = record { kind = k; fields = fs; is = refl; at = ap (λ (x : Answer). x.kind) e; holds = h }
taken P (refused zero i) a h e z = absurd h
taken P (refused (suc n) i) a h e z = absurd (omega (arith, (told (refused (suc n) i) a e).0))

pub untaken : (o : Outcome) (a : Answer) → a ≡ answer_of o → (a.no ≡ 0 → ⊥) → o ≡ refused a.no a.field
untaken (accepted k fs) a e z = absurd (z (told (accepted k fs) a e).0)
untaken (refused n i) a e z = let t = told (refused n i) a e in ap₂ {C = Outcome} refused (sym t.0) (sym t.1)

-- ---- an accepted answer by its pieces

pub taken_so : (k : Kind) (fs : List Bytes) (row : ℕ) (starts lens kinds : List ℕ) → row ≡ row_of k → starts ≡ starts_of k fs → lens ≡ lens_of fs → kinds ≡ kinds_of k fs
    → record { no = 0; field = 0; kind = row; starts = starts; lens = lens; kinds = kinds } ≡ answer_of (accepted k fs)
taken_so k fs row starts lens kinds e a b c =
    ap (λ (x : ℕ). made x starts lens kinds) e
    ∙ ap (λ (x : List ℕ). made (row_of k) x lens kinds) a
    ∙ ap (λ (x : List ℕ). made (row_of k) (starts_of k fs) x kinds) b
    ∙ ap (λ (x : List ℕ). made (row_of k) (starts_of k fs) (lens_of fs) x) c
  where
    made : ℕ → List ℕ → List ℕ → List ℕ → Answer
    made w x y z = record { no = 0; field = 0; kind = w; starts = x; lens = y; kinds = z }

-- ---- what is told of a record's fields: they pass whatever comes behind them, or are refused whatever that is

abbrev Either : (Outcome → Outcome) → Type 0
Either f = ((o : Outcome) → f o ≡ o) ⊎ ((n : ℕ) × (i : ℕ) × ((o : Outcome) → f o ≡ refused (suc n) i))

passing_either : (n i : ℕ) (f : Outcome → Outcome) → Either f → Either (λ o. passing n i (f o))
passing_either zero i f e = e
passing_either (suc n) i f e = inr (n, i, λ o. refl)

each_either : (ask : Bytes → Outcome) (i : ℕ) (ts : List Field) (fs : List Bytes) (f : Outcome → Outcome) → Either f → Either (λ o. each ask i ts fs (f o))
each_either ask i [] fs f e = e
each_either ask i (t ∷ ts) [] f e = e
each_either ask i (t ∷ ts) (b ∷ fs) f e = passing_either (field_answer ask t b) i (λ o. each ask (suc i) ts fs (f o)) (each_either ask (suc i) ts fs f e)

module _ (rules : Rules) (k : Kind) (fs : List Bytes) where
  either : Either (judged rules read_identity k fs)
  unfolding judged
  either = each_either read_identity 1 (fields_of k) fs (passing (whole_answer rules k fs) 0) (passing_either (whole_answer rules k fs) 0 (λ o. o) (inl (λ o. refl)))

  -- in what `judge` answers

  module _ (j : Judged) (q : j ≡ judged_said (judged rules read_identity k fs (accepted k fs))) where
    its_number : {o : Outcome} → judged rules read_identity k fs (accepted k fs) ≡ o → j.no ≡ answer o
    its_number {o} e = ap (λ (x : Judged). x.no) (q ∙ ap judged_said e) ∙ go o
      where
        go : (p : Outcome) → (judged_said p).no ≡ answer p
        go (accepted i gs) = refl
        go (refused n i) = refl

    -- with another number than 0 they are refused
    pub denied : (j.no ≡ 0 → ⊥) → (o : Outcome) → judged rules read_identity k fs o ≡ refused j.no j.field
    denied z o = go either
      where
        go : Either (judged rules read_identity k fs) → judged rules read_identity k fs o ≡ refused j.no j.field
        go (inl f) = absurd (z (its_number (f (accepted k fs))))
        go (inr (n, i, f)) = f o ∙ sym (ap₂ {C = Outcome} refused (its_number (f (accepted k fs))) (ap (λ (x : Judged). x.field) (q ∙ ap judged_said (f (accepted k fs)))))

    -- with 0 they pass
    pub agreed : j.no ≡ 0 → (o : Outcome) → judged rules read_identity k fs o ≡ o
    agreed z o = go either
      where
        go : Either (judged rules read_identity k fs) → judged rules read_identity k fs o ≡ o
        go (inl f) = f o
        go (inr (n, i, f)) = absurd (omega (arith, its_number (f (accepted k fs))))

  -- in what `judge_under` answers

  module _ {r : Result (List ℕ) Refused} (q : r ≡ kinds_or (judged rules read_identity k fs (accepted k fs))) where
    its : {o : Outcome} → judged rules read_identity k fs (accepted k fs) ≡ o → r ≡ kinds_or o
    its e = q ∙ ap kinds_or e

    pub denied_so : (d : Refused) → Err d ≡ r → (o : Outcome) → judged rules read_identity k fs o ≡ refused d.no d.field
    denied_so d z o = go either
      where
        go : Either (judged rules read_identity k fs) → judged rules read_identity k fs o ≡ refused d.no d.field
        go (inl f) = absurd (false≢true (ap is_ok (z ∙ its (f (accepted k fs)))))
        go (inr (n, i, f)) = let e : d ≡ record { no = suc n; field = i } = search (z ∙ its (f (accepted k fs))) in rw e (f o)

    pub agreed_so : (kinds : List ℕ) → Ok kinds ≡ r → (o : Outcome) → judged rules read_identity k fs o ≡ o
    agreed_so kinds z o = go either
      where
        go : Either (judged rules read_identity k fs) → judged rules read_identity k fs o ≡ o
        go (inl f) = f o
        go (inr (n, i, f)) = absurd (true≢false (ap is_ok (z ∙ its (f (accepted k fs)))))

    pub agreed_kinds : (kinds : List ℕ) → Ok kinds ≡ r → kinds ≡ kinds_of k fs
    agreed_kinds kinds z = search (z ∙ its (agreed_so kinds z (accepted k fs)))
