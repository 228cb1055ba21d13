-- The two rule sets: today's rules answer as those up to E10 do, but for the unsigned key of a module, to which they answer 28.
-- Assumes nothing.
use Prim.Native.Nat.{ℕ, zero, suc}
use mathlib.Core.Path.{◌≡◌, refl, sym, ap, ◌∙◌, subst}
use mathlib.Core.Logic.{◌↔◌}
use mathlib.Core.Option.{Option, none, some}
use mathlib.Core.Bool.{Bool, true, false, cond, not}
use mathlib.Core.List.{List, [], ◌∷◌}
use native.Mathlib.Omega.{arith}
use lib.Dec.{T, eqb, leb}
use lib.ListN.{length, get_or}
use Rattle.text.specs.Text.{Bytes, same, one_of}
use Rattle.text.proofs.Tests.{by_test, T_true, T_false, same→eq}
use mir.Facts.{and_yes, yes_and}
use Rattle.numbers.specs.Numbers.{too_long, wrong_count, module_unsigned}
use Rattle.format.specs.Kinds.{Kind, SMID, ECDH, Field, name, mark, fields_of, among, title}
use Rattle.format.specs.Build.{paired, attributed, unsigned_module, signed, longest_record, empty, Fits, FitAll, IsIdentity, PermittedUnder}
use Rattle.format.specs.Read.{Outcome, accepted, refused, provided, passing, of_kind, answer, mark_after, kind_in, check_no, fields_in, field_answer, each, whole_answer, judged, read_as, read_over, read_identity, read_under, read_of}
use Rattle.format.specs.declared.Rules.{Rules}
use Rattle.format.specs.declared.Rules.TheVariants.{UpToE10, Today}
use Rattle.format.proofs.Table.{every_kind, all-of, name_inj, among_one}
use Rattle.format.proofs.Parts.{built_title}
use Rattle.format.proofs.Outcomes.{never}
use Rattle.format.proofs.Fields.{fit_at}
use Rattle.format.proofs.Refusals.{Gives, covers, over_given}

-- what has no module's key in it is signed, whatever the rules
pub other_signed : (rules : Rules) (k : Kind) (fs : List Bytes) → T (not (among k (ECDH ∷ []))) → signed rules k fs ≡ true
other_signed UpToE10 k fs h = refl
other_signed Today k fs h = rw (T_false (among k (ECDH ∷ [])) h)

-- ---- today's answer, by that of the rules up to E10

abbrev today : Outcome → Outcome
today (accepted k fs) = passing (cond (signed Today k fs) 0 module_unsigned) 0 (accepted k fs)
today (refused n i) = refused n i

today_provided : (b : Bool) (n : ℕ) (o p : Outcome) → o ≡ today p → provided b n o ≡ today (provided b n p)
today_provided true n o p e = e
today_provided false n o p e = refl

today_passing : (n i : ℕ) (o p : Outcome) → o ≡ today p → passing n i o ≡ today (passing n i p)
today_passing zero i o p e = e
today_passing (suc n) i o p e = refl

today_kind : (k : Option Kind) (f g : Kind → Outcome) → ((j : Kind) → f j ≡ today (g j)) → of_kind k f ≡ today (of_kind k g)
today_kind none f g e = refl
today_kind (some j) f g e = e j

today_each : (ask : Bytes → Outcome) (i : ℕ) (ts : List Field) (fs : List Bytes) (o p : Outcome) → o ≡ today p → each ask i ts fs o ≡ today (each ask i ts fs p)
today_each ask i [] fs o p e = e
today_each ask i (t ∷ ts) [] o p e = e
today_each ask i (t ∷ ts) (f ∷ fs) o p e = today_passing (field_answer ask t f) i (each ask (suc i) ts fs o) (each ask (suc i) ts fs p) (today_each ask (suc i) ts fs o p e)

-- 28 stands last
today_whole : (k : Kind) (fs : List Bytes) → passing (whole_answer Today k fs) 0 (accepted k fs) ≡ today (passing (whole_answer UpToE10 k fs) 0 (accepted k fs))
unfolding whole_answer
today_whole k fs = go (paired k fs) (attributed k fs)
  where
    go : (a b : Bool) → passing (cond a (cond b (cond (signed Today k fs) 0 module_unsigned) 14) 8) 0 (accepted k fs) ≡ today (passing (cond a (cond b 0 14) 8) 0 (accepted k fs))
    go true true = refl
    go true false = refl
    go false b = refl

pub today_read : (ks : List Kind) (s : Bytes) → read_of ks s ≡ today (read_under UpToE10 ks s)
unfolding read_under read_over read_as judged
today_read ks s =
    today_provided (leb (length s) longest_record) too_long _ _
    (today_kind (kind_in ks (title s) (mark_after s)) (read_as Today read_identity s) (read_as UpToE10 read_identity s)
    (λ k. today_passing (check_no (mark k) s) 0 _ _
    (today_provided (eqb (length (fields_in k s)) (length (fields_of k))) wrong_count _ _
    (today_each read_identity 1 (fields_of k) (fields_in k s) _ _ (today_whole k (fields_in k s))))))

-- ---- so what today's rules accept the earlier ones accept with the same fields, and a refusal of the earlier ones stays

abbrev Signed : Outcome → Type 0
Signed (accepted k fs) = T (signed Today k fs)
Signed (refused n i) = ⊥

today_accepts : (o : Outcome) (k : Kind) (fs : List Bytes) → today o ≡ accepted k fs → (o ≡ accepted k fs) × T (signed Today k fs)
today_accepts (refused n i) k fs e = absurd (never e)
today_accepts (accepted j gs) k fs e =
    by_test (signed Today j gs)
    (λ t. let f = sym (ap passed (T_true (signed Today j gs) t)) ∙ e in (f, subst Signed f t))
    (λ t. absurd (never (sym (ap passed (T_false (signed Today j gs) t)) ∙ e)))
  where
    passed : Bool → Outcome
    passed b = passing (cond b 0 module_unsigned) 0 (accepted j gs)

module _ (ks : List Kind) (s : Bytes) (k : Kind) (fs : List Bytes) where
  pub earlier_accepts : read_of ks s ≡ accepted k fs → (read_under UpToE10 ks s ≡ accepted k fs) × T (signed Today k fs)
  earlier_accepts e = today_accepts (read_under UpToE10 ks s) k fs (sym (today_read ks s) ∙ e)

  pub no_more_accepts : read_under UpToE10 ks s ≡ accepted k fs → T (unsigned_module k fs) → read_of ks s ≡ refused module_unsigned 0
  no_more_accepts e t = today_read ks s ∙ ap today e ∙ rw (T_true (unsigned_module k fs) t)

pub still_refuses : (ks : List Kind) (s : Bytes) (n i : ℕ) → read_under UpToE10 ks s ≡ refused n i → read_of ks s ≡ refused n i
still_refuses ks s n i e = today_read ks s ∙ ap today e

-- ---- 28 is answered to nothing else

-- what the rules up to E10 can answer
abbrev of_earlier : List ℕ
of_earlier = 0 ∷ 1 ∷ 2 ∷ 3 ∷ 4 ∷ 5 ∷ 6 ∷ 7 ∷ 8 ∷ 9 ∷ 14 ∷ []

earlier_gives : (ks : List Kind) (s : Bytes) → Gives of_earlier (read_under UpToE10 ks s)
unfolding read_under
earlier_gives ks s = over_given of_earlier tt read_identity UpToE10 (tt, tt, tt, tt, tt) ks (all-of _ (every_kind (covers UpToE10 of_earlier) tt) ks) s

pub unsigned_ended : (ks : List Kind) (s : Bytes) → answer (read_of ks s) ≡ module_unsigned
    → (k : Kind) × (fs : List Bytes) × (read_under UpToE10 ks s ≡ accepted k fs) × T (unsigned_module k fs)
unsigned_ended ks s e = go (read_under UpToE10 ks s) refl (ap answer (sym (today_read ks s)) ∙ e) (earlier_gives ks s)
  where
    go : (o : Outcome) → read_under UpToE10 ks s ≡ o → answer (today o) ≡ module_unsigned → Gives of_earlier o
        → (k : Kind) × (fs : List Bytes) × (read_under UpToE10 ks s ≡ accepted k fs) × T (unsigned_module k fs)
    go (refused n i) h f g = absurd (subst (λ (m : ℕ). T (one_of of_earlier m)) f g)
    go (accepted k fs) h f g =
        (k, fs, h, by_test (unsigned_module k fs) (λ t. t) (λ t. absurd (let z : 0 ≡ 28 = sym (ap said (T_true (signed Today k fs) t)) ∙ f in omega arith)))
      where
        said : Bool → ℕ
        said b = answer (passing (cond b 0 module_unsigned) 0 (accepted k fs))

-- ---- what the test of the two fields asks

-- the title of an identity is its kind's name
identity_title : (k : Kind) (f : Bytes) → IsIdentity k f → title f ≡ name k
unfolding IsIdentity
identity_title k f (fs, b) = ap title b.built ∙ (built_title k fs).0

pub unsigned_is : {rules : Rules} (k : Kind) (fs : List Bytes) → PermittedUnder rules k fs
    → T (unsigned_module k fs) ↔ ((k ≡ ECDH) × IsIdentity SMID (get_or fs 0 []) × (get_or fs 4 [] ≡ []))
unfolding Fits
unsigned_is k fs p = (
  λ t.
      let of-kind = and_yes (among k (ECDH ∷ [])) _ t in
      let fields = and_yes (same (title (get_or fs 0 [])) (name SMID)) (empty (get_or fs 4 [])) of-kind.1 in
      let one : k ≡ ECDH = among_one k ECDH of-kind.0 in
      let who = fit_at IsIdentity (fields_of ECDH) fs (subst (λ (j : Kind). FitAll IsIdentity (fields_of j) fs) one p.fit) 0 (omega arith) in
      let same_kind = name_inj who.0 SMID (sym (identity_title who.0 (get_or fs 0 []) who.2) ∙ same→eq (title (get_or fs 0 [])) (name SMID) fields.0) in
      (one, subst (λ (j : Kind). IsIdentity j (get_or fs 0 [])) same_kind who.2, nothing (get_or fs 4 []) fields.1),
  λ (one, who, bare).
      yes_and (among k (ECDH ∷ [])) _ (rw one tt)
      (yes_and (same (title (get_or fs 0 [])) (name SMID)) (empty (get_or fs 4 [])) (rw (identity_title SMID (get_or fs 0 []) who) tt) (rw bare tt)),
)
  where
    nothing : (f : Bytes) → T (empty f) → f ≡ []
    nothing [] h = refl
    nothing (c ∷ f) h = absurd h
