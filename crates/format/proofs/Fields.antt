-- The fields of a record: they are answered 0 exactly if they fit, no mark stands in them, and they are no longer than the table
-- says.
-- Assumes nothing.
use Prim.Native.Nat.{ℕ, zero, suc, ◌+◌, ◌≤◌, ◌<◌}
use mathlib.Core.Path.{◌≡◌, refl, sym, ap, ◌∙◌}
use mathlib.Core.Logic.{inl, inr}
use mathlib.Core.Bool.{Bool, true, false, cond, not}
use mathlib.Core.List.{List, [], ◌∷◌, map}
use native.Mathlib.Omega.{arith}
use lib.Dec.{T}
use lib.ListN.{length, get_or, length-append}
use mir.Facts.{and_yes}
use Rattle.text.specs.Text.{Bytes, Ident, without, all_of, printable, is_printable, is_of, shortest, longest}
use Rattle.text.proofs.Tests.{by_test, cond_yes, cond_no, between_high}
use Rattle.text.proofs.Types.{plain, plain_without, every_without, printable_characters, lengths}
use Rattle.numbers.specs.Numbers.{wrong_text, wrong_identity, wrong_kind, unpaired, wrong_attributes, module_unsigned}
use Rattle.format.specs.Kinds.{Kind, Field, Text, Printable, Identity, OrEmpty, name, mark, fields_of, key_kinds, among}
use Rattle.format.specs.Build.{joined, WithoutAll, record_of, empty, Fits, FitAll, paired, attributed, signed, PermittedOver}
use Rattle.format.specs.Read.{Outcome, accepted, refused, passing, identity_answer, field_answer, each, whole_answer, judged}
use Rattle.format.specs.declared.Rules.{Rules}
use Rattle.format.proofs.Table.{alien, absent, bounded, bounded_fields, longest_identity, longest_of, field_room, mark_absent}
use Rattle.format.proofs.Parts.{record_length}
use Rattle.format.proofs.Outcomes.{passing_law}

-- ---- as many fields as the table has

pub fit_length : (I : Kind → Bytes → Type 0) (ts : List Field) (fs : List Bytes) → FitAll I ts fs → length fs ≡ length ts
unfolding FitAll
fit_length I [] [] h = refl
fit_length I [] (f ∷ fs) h = absurd h
fit_length I (t ∷ ts) [] h = absurd h
fit_length I (t ∷ ts) (f ∷ fs) h = ap suc (fit_length I ts fs h.1)

-- each field is as the table says
pub fit_at : (I : Kind → Bytes → Type 0) (ts : List Field) (fs : List Bytes) → FitAll I ts fs → (j : ℕ) → j < length ts
    → Fits I (get_or ts j (Text Ident)) (get_or fs j [])
unfolding FitAll
fit_at I [] fs h j l = absurd (omega arith)
fit_at I (t ∷ ts) [] h j l = absurd h
fit_at I (t ∷ ts) (f ∷ fs) h zero l = h.0
fit_at I (t ∷ ts) (f ∷ fs) h (suc j) l = fit_at I ts fs h.1 j (omega arith)

-- ---- answered 0 exactly if they fit

-- `ask` accepts exactly the identities I
pub record Exact (ask : Bytes → Outcome) (I : Kind → Bytes → Type 0) : Type 0 where
  pub sound : (k : Kind) (fs : List Bytes) (f : Bytes) → ask f ≡ accepted k fs → I k f
  pub complete : (k : Kind) (f : Bytes) → I k f → (fs : List Bytes) × (ask f ≡ accepted k fs)

zero_yes : (b : Bool) (n : ℕ) → cond b 0 (suc n) ≡ 0 → T b
zero_yes true n e = tt
zero_yes false n e = absurd (omega arith)

whole_zero : (a b c : Bool) → cond a (cond b (cond c 0 module_unsigned) wrong_attributes) unpaired ≡ 0 → T a × T b × T c
whole_zero true true c e = (tt, tt, zero_yes c _ e)
whole_zero true false c e = absurd (omega arith)
whole_zero false b c e = absurd (omega arith)

module _ (ask : Bytes → Outcome) (I : Kind → Bytes → Type 0) (x : Exact ask I) where
  field_fits : (t : Field) (f : Bytes) → field_answer ask t f ≡ 0 → Fits I t f
  unfolding field_answer identity_answer Fits
  field_fits (Text t) f e = zero_yes (is_of t f) _ e
  field_fits Printable f e = zero_yes (is_printable f) _ e
  field_fits (Identity ks) f e = go (ask f) refl
    where
      go : (o : Outcome) → ask f ≡ o → (k : Kind) × T (among k ks) × I k f
      go (accepted k fs) h = (k, zero_yes (among k ks) _ (rw h at e), x.sound k fs f h)
      go (refused n i) h = absurd (let z : wrong_identity ≡ 0 = rw h at e in omega arith)
  field_fits (OrEmpty t) f e =
      by_test (empty f) (λ h. inl h) (λ h. inr (field_fits t f (sym (cond_no (empty f) 0 (field_answer ask t f) h) ∙ e)))

  fits_field : (t : Field) (f : Bytes) → Fits I t f → field_answer ask t f ≡ 0
  unfolding field_answer identity_answer Fits
  fits_field (Text t) f h = cond_yes (is_of t f) 0 wrong_text h
  fits_field Printable f h = cond_yes (is_printable f) 0 wrong_text h
  fits_field (Identity ks) f h = ap (identity_answer ks) (x.complete h.0 f h.2).1 ∙ cond_yes (among h.0 ks) 0 wrong_kind h.1
  fits_field (OrEmpty t) f (inl h) = cond_yes (empty f) 0 (field_answer ask t f) h
  fits_field (OrEmpty t) f (inr h) = rw (fits_field t f h) (by_test (empty f) (cond_yes (empty f) 0 0) (cond_no (empty f) 0 0))

  pub fits_each : (i : ℕ) (ts : List Field) (fs : List Bytes) (o : Outcome) → FitAll I ts fs → each ask i ts fs o ≡ o
  unfolding FitAll
  fits_each i [] fs o h = refl
  fits_each i (t ∷ ts) [] o h = refl
  fits_each i (t ∷ ts) (f ∷ fs) o h = rw (fits_field t f h.0) (fits_each (suc i) ts fs o h.1)

  pub fits_judged : (rules : Rules) (k : Kind) (fs : List Bytes) (o : Outcome) → PermittedOver rules I k fs → judged rules ask k fs o ≡ o
  unfolding judged whole_answer
  fits_judged rules k fs o p =
      fits_each 1 (fields_of k) fs (passing (whole_answer rules k fs) 0 o) p.fit
      ∙ ap (λ (n : ℕ). passing n 0 o)
      (cond_yes (paired k fs) _ unpaired p.both ∙ cond_yes (attributed k fs) _ wrong_attributes p.attributes ∙ cond_yes (signed rules k fs) 0 module_unsigned p.signs)

  -- what holds of refusals, and of o if the fields fit, holds of the call
  module _ (S : Outcome → Type 0) (r : (n i : ℕ) → S (refused (suc n) i)) where
    pub each_law : (i : ℕ) (ts : List Field) (fs : List Bytes) (o : Outcome) → length fs ≡ length ts → (FitAll I ts fs → S o)
        → S (each ask i ts fs o)
    unfolding FitAll
    each_law i [] [] o l g = g tt
    each_law i [] (f ∷ fs) o l g = absurd (omega arith)
    each_law i (t ∷ ts) [] o l g = absurd (omega arith)
    each_law i (t ∷ ts) (f ∷ fs) o l g =
        passing_law S (field_answer ask t f) i (each ask (suc i) ts fs o) (λ n. r n i)
        (λ z. each_law (suc i) ts fs o (omega arith) (λ h. g (field_fits t f z, h)))

    -- all but the length of the record, which a reader asks first and a builder last
    pub judged_law : (rules : Rules) (k : Kind) (fs : List Bytes) (o : Outcome) → length fs ≡ length (fields_of k)
        → (FitAll I (fields_of k) fs → T (paired k fs) → T (attributed k fs) → T (signed rules k fs) → S o) → S (judged rules ask k fs o)
    unfolding judged whole_answer
    judged_law rules k fs o l g =
        each_law 1 (fields_of k) fs (passing (whole_answer rules k fs) 0 o) l
        (λ h. passing_law S (whole_answer rules k fs) 0 o (λ n. r n 0) (λ z. let w = whole_zero (paired k fs) (attributed k fs) (signed rules k fs) z in g h w.0 w.1 w.2))

-- ---- no mark in a field, and its length

-- the identities I have no alien byte, and are not longer than the longest
abbrev pub Tame : (Kind → Bytes → Type 0) → Type 0
Tame I = (m : ℕ) → T (alien m) → (k : Kind) (f : Bytes) → I k f → T (without m f) × (length f ≤ longest_identity)

module _ (I : Kind → Bytes → Type 0) (tame : Tame I) where
  field_clean : (m : ℕ) (t : Field) (f : Bytes) → T (absent m t) → Fits I t f → T (without m f)
  unfolding Fits
  field_clean m (Text t) f u h = plain_without m u f (plain t f h)
  field_clean m Printable f u h = every_without printable m u f (printable_characters f h)
  field_clean m (Identity ks) f u h = (tame m u h.0 f h.2).0
  field_clean m (OrEmpty t) [] u h = tt
  field_clean m (OrEmpty t) (c ∷ f) u (inl h) = absurd h
  field_clean m (OrEmpty t) (c ∷ f) u (inr h) = field_clean m t (c ∷ f) u h

  pub field_short : (t : Field) (f : Bytes) → T (bounded t) → Fits I t f → length f ≤ longest_of t
  unfolding Fits
  field_short (Text t) f u h = between_high (shortest t) (longest t) (length f) (lengths t f h)
  field_short Printable f u h = absurd u
  field_short (Identity ks) f u h = (tame 0 tt h.0 f h.2).1
  field_short (OrEmpty t) [] u h = omega arith
  field_short (OrEmpty t) (c ∷ f) u (inl h) = absurd h
  field_short (OrEmpty t) (c ∷ f) u (inr h) = field_short t (c ∷ f) u h

  pub fields_clean : (m : ℕ) (ts : List Field) (fs : List Bytes) → T (all_of (map (absent m) ts)) → FitAll I ts fs → WithoutAll m fs
  unfolding FitAll
  fields_clean m [] [] u h = tt
  fields_clean m [] (f ∷ fs) u h = absurd h
  fields_clean m (t ∷ ts) [] u h = absurd h
  fields_clean m (t ∷ ts) (f ∷ fs) u h =
      let u' = and_yes (absent m t) (all_of (map (absent m) ts)) u in
      (field_clean m t f u'.0 h.0, fields_clean m ts fs u'.1 h.1)

  fields_short : (m : ℕ) (ts : List Field) (fs : List Bytes) → T (all_of (map bounded ts)) → FitAll I ts fs → length (joined m fs) ≤ field_room ts
  unfolding FitAll
  fields_short m [] [] u h = omega arith
  fields_short m [] (f ∷ fs) u h = absurd h
  fields_short m (t ∷ ts) [] u h = absurd h
  fields_short m (t ∷ ts) (f ∷ fs) u h =
      let u' = and_yes (bounded t) (all_of (map bounded ts)) u in
      omega (arith, field_short t f u'.0 h.0, fields_short m ts fs u'.1 h.1, length-append f (m ∷ joined m fs))

  pub record_clean : (k : Kind) (fs : List Bytes) → FitAll I (fields_of k) fs → WithoutAll (mark k) fs
  record_clean k fs h = fields_clean (mark k) (fields_of k) fs (mark_absent k) h

  -- every kind but the wrapped key, whose Attributes have no longest text
  pub record_short : (k : Kind) (fs : List Bytes) → T (not (among k key_kinds)) → FitAll I (fields_of k) fs
      → length (record_of k fs) ≤ length (name k) + field_room (fields_of k) + 5
  record_short k fs other h = omega (arith, record_length k fs, fields_short (mark k) (fields_of k) fs (bounded_fields k other) h)
