-- Which numbers a call can give: those of the form, those that the types of a kind's fields can be refused with, 8 where the kind has
-- Issuer and Signature, 14 where it has Attributes, and today 28 where a module's key is of that kind. And that a field is named exactly with 6, 7 and 9.
-- Assumes nothing.
use Prim.Native.Nat.{ℕ, zero, suc}
use mathlib.Core.Path.{◌≡◌, refl}
use mathlib.Core.Logic.{⊎_elim}
use mathlib.Core.Bool.{Bool, true, false, cond, not, ◌&&◌, ◌||◌, beq}
use mathlib.Core.List.{List, [], ◌∷◌, map}
use native.Mathlib.Omega.{arith}
use borrow.Author.Tests.{lt-ltb}
use lib.Dec.{T, leb, ltb, eqb, eqb→eq}
use lib.ListN.{length}
use mir.Facts.{and_yes, yes_and, or_yes}
use Rattle.crc16.specs.Crc.{crc_of}
use Rattle.text.specs.Text.{Bytes, all_of, one_of, every, same, is_hex, is_of, is_printable}
use Rattle.text.specs.Base16.{check_text}
use Rattle.text.proofs.Tests.{or_right, one-of}
use Rattle.numbers.specs.Numbers.{too_long, unknown_kind, missing_check, wrong_check, wrong_count, wrong_text, wrong_identity, unpaired, wrong_kind, wrong_attributes, module_unsigned}
use Rattle.format.specs.Kinds.{Kind, ECDH, Field, Text, Printable, Identity, OrEmpty, mark, fields_of, pubkey_kinds, key_kinds, among}
use Rattle.format.specs.Build.{empty, signed, longest_record}
use Rattle.format.specs.Read.{Outcome, accepted, refused, answer, place, provided, passing, title, mark_after, kind_in, body, check, ends_in, check_no, fields_in, identity_answer, field_answer, each, whole_answer, judged, read_as, read_over}
use Rattle.format.specs.declared.Rules.{Rules}
use Rattle.format.specs.declared.Rules.TheVariants.{UpToE10, Today}
use Rattle.format.proofs.Table.{All, all_among, kind_in_some}
use Rattle.format.proofs.Outcomes.{provided_law, of_kind_law}

abbrev pub Gives : List ℕ → Outcome → Type 0
Gives ns o = T (one_of ns (answer o))

-- the numbers that a field of this type can be refused with are among ns
abbrev covered : List ℕ → Field → Bool
covered ns (Text t) = one_of ns wrong_text
covered ns Printable = one_of ns wrong_text
covered ns (Identity ks) = one_of ns wrong_identity && one_of ns wrong_kind
covered ns (OrEmpty t) = covered ns t

-- those of the fields of this kind together
abbrev covers_unsigned : Rules → List ℕ → Kind → Bool
covers_unsigned UpToE10 ns k = true
covers_unsigned Today ns k = not (among k (ECDH ∷ [])) || one_of ns module_unsigned

abbrev covers_whole : Rules → List ℕ → Kind → Bool
covers_whole rules ns k = (not (among k pubkey_kinds) || one_of ns unpaired) && ((not (among k key_kinds) || one_of ns wrong_attributes) && covers_unsigned rules ns k)

-- and each and together
abbrev pub covers : Rules → List ℕ → Kind → Bool
covers rules ns k = all_of (map (covered ns) (fields_of k)) && covers_whole rules ns k

module _ (ns : List ℕ) (z : T (one_of ns 0)) where
  pub either_given : (b : Bool) (n m : ℕ) → T (one_of ns n) → T (one_of ns m) → T (one_of ns (cond b n m))
  either_given true n m h k = h
  either_given false n m h k = k

  pub provided_given : (b : Bool) (n : ℕ) (o : Outcome) → T (one_of ns n) → Gives ns o → Gives ns (provided b n o)
  provided_given true n o h g = g
  provided_given false n o h g = h

  passing_given : (n i : ℕ) (o : Outcome) → T (one_of ns n) → Gives ns o → Gives ns (passing n i o)
  passing_given zero i o h g = g
  passing_given (suc n) i o h g = h

  pub check_given : (m : ℕ) (s : Bytes) → T (one_of ns missing_check) → T (one_of ns wrong_check) → T (one_of ns (check_no m s))
  unfolding check_no
  check_given m s missing wrong =
      either_given (is_hex 4 (check s) && ends_in m (body s)) _ missing_check
      (either_given (same (check s) (check_text (crc_of (body s)))) 0 wrong_check z wrong) missing

  -- ---- the fields

  identity_given : (ks : List Kind) (o : Outcome) → T (one_of ns wrong_identity) → T (one_of ns wrong_kind) → T (one_of ns (identity_answer ks o))
  unfolding identity_answer
  identity_given ks (accepted k fs) h g = either_given (among k ks) 0 wrong_kind z g
  identity_given ks (refused n i) h g = h

  module _ (ask : Bytes → Outcome) where
    field_given : (t : Field) (f : Bytes) → T (covered ns t) → T (one_of ns (field_answer ask t f))
    unfolding field_answer
    field_given (Text t) f h = either_given (is_of t f) 0 wrong_text z h
    field_given Printable f h = either_given (is_printable f) 0 wrong_text z h
    field_given (Identity ks) f h =
        let both = and_yes (one_of ns wrong_identity) (one_of ns wrong_kind) h in
        identity_given ks (ask f) both.0 both.1
    field_given (OrEmpty t) f h = either_given (empty f) 0 (field_answer ask t f) z (field_given t f h)

    each_given : (i : ℕ) (ts : List Field) (fs : List Bytes) (o : Outcome) → T (all_of (map (covered ns) ts)) → Gives ns o → Gives ns (each ask i ts fs o)
    each_given i [] fs o h g = g
    each_given i (t ∷ ts) [] o h g = g
    each_given i (t ∷ ts) (f ∷ fs) o h g =
        let both = and_yes (covered ns t) (all_of (map (covered ns) ts)) h in
        passing_given (field_answer ask t f) i (each ask (suc i) ts fs o) (field_given t f both.0) (each_given (suc i) ts fs o both.1 g)

    -- a test of some kinds only: the others pass it, and for those its number is among ns
    test_given : (other test : Bool) (n m : ℕ) → T (other || one_of ns m) → T (one_of ns n) → T (one_of ns (cond (other || test) n m))
    test_given true test n m h k = k
    test_given false test n m h k = either_given test n m k h

    -- a test that those of one kind fail which fail another one, too
    both_given : (kind test : Bool) (m : ℕ) → T (not kind || one_of ns m) → T (one_of ns (cond (not (kind && test)) 0 m))
    both_given true test m h = either_given (not test) 0 m z h
    both_given false test m h = z

    unsigned_given : (rules : Rules) (k : Kind) (fs : List Bytes) → T (covers_unsigned rules ns k) → T (one_of ns (cond (signed rules k fs) 0 module_unsigned))
    unsigned_given UpToE10 k fs h = z
    unsigned_given Today k fs h = both_given (among k (ECDH ∷ [])) _ module_unsigned h

    whole_given : (rules : Rules) (k : Kind) (fs : List Bytes) → T (covers_whole rules ns k) → T (one_of ns (whole_answer rules k fs))
    unfolding whole_answer
    whole_given rules k fs h =
        let first = and_yes (not (among k pubkey_kinds) || one_of ns unpaired) _ h in
        let others = and_yes (not (among k key_kinds) || one_of ns wrong_attributes) (covers_unsigned rules ns k) first.1 in
        test_given (not (among k pubkey_kinds)) _ _ unpaired first.0
        (test_given (not (among k key_kinds)) _ _ wrong_attributes others.0 (unsigned_given rules k fs others.1))

    pub judged_given : (rules : Rules) (k : Kind) (fs : List Bytes) (o : Outcome) → T (covers rules ns k) → Gives ns o → Gives ns (judged rules ask k fs o)
    unfolding judged
    judged_given rules k fs o h g =
        let both = and_yes (all_of (map (covered ns) (fields_of k))) _ h in
        each_given 1 (fields_of k) fs (passing (whole_answer rules k fs) 0 o) both.0 (passing_given (whole_answer rules k fs) 0 o (whole_given rules k fs both.1) g)

    -- ---- a call that reads the kinds ks

    -- numbers 1 to 5 are among ns
    abbrev pub Form : Type 0
    Form = T (one_of ns too_long) × T (one_of ns unknown_kind) × T (one_of ns missing_check) × T (one_of ns wrong_check) × T (one_of ns wrong_count)

    pub over_given : (rules : Rules) → Form → (ks : List Kind) → All (λ k. T (covers rules ns k)) ks → (s : Bytes) → Gives ns (read_over rules ask ks s)
    unfolding read_over read_as
    over_given rules (long, kind, missing, wrong, count) ks h s =
        provided_given (leb (length s) longest_record) too_long _ long
        (of_kind_law (Gives ns) (kind_in ks (title s) (mark_after s)) (read_as rules ask s) kind
        (λ k e.
        let fs : List Bytes = fields_in k s in
        passing_given (check_no (mark k) s) 0 _ (check_given (mark k) s missing wrong)
        (provided_given (eqb (length fs) (length (fields_of k))) wrong_count _ count
        (judged_given rules k fs (accepted k fs) (all_among (λ k. T (covers rules ns k)) ks h k (kind_in_some ks (title s) (mark_after s) k e).0) z))))

-- ---- a field is named exactly with 6, 7 and 9

abbrev pub naming : List ℕ
naming = wrong_text ∷ wrong_identity ∷ wrong_kind ∷ []

abbrev pub Names : Outcome → Type 0
Names o = one_of naming (answer o) ≡ ltb 0 (place o)

beq_eq : (a b : Bool) → T (beq a b) → a ≡ b
beq_eq true true h = refl
beq_eq true false h = absurd h
beq_eq false true h = absurd h
beq_eq false false h = refl

-- a number of ns is 0, or it names a field where i does
passing_names : (ns : List ℕ) (n i : ℕ) (o : Outcome) → T (one_of ns n) → T (every (λ m. eqb m 0 || beq (one_of naming m) (ltb 0 i)) ns) → Names o → Names (passing n i o)
passing_names ns zero i o h e s = s
passing_names ns (suc n) i o h e s =
    ⊎_elim (λ z. absurd (omega (arith, eqb→eq (suc n) 0 z))) (beq_eq (one_of naming (suc n)) (ltb 0 i))
    (or_yes (eqb (suc n) 0) _ (one-of (λ m. eqb m 0 || beq (one_of naming m) (ltb 0 i)) ns e (suc n) h))

abbrev of_fields : List ℕ
of_fields = 0 ∷ 6 ∷ 7 ∷ 9 ∷ []

-- what any field can be answered
any_covered : (t : Field) → T (covered of_fields t)
any_covered (Text t) = tt
any_covered Printable = tt
any_covered (Identity ks) = tt
any_covered (OrEmpty t) = any_covered t

-- what all fields together can be answered
abbrev of_whole : List ℕ
of_whole = 0 ∷ 8 ∷ 14 ∷ 28 ∷ []

any_unsigned : (rules : Rules) (k : Kind) → T (covers_unsigned rules of_whole k)
any_unsigned UpToE10 k = tt
any_unsigned Today k = or_right (not (among k (ECDH ∷ []))) true tt

any_whole : (rules : Rules) (k : Kind) → T (covers_whole rules of_whole k)
any_whole rules k =
    yes_and (not (among k pubkey_kinds) || true) _ (or_right (not (among k pubkey_kinds)) true tt)
    (yes_and (not (among k key_kinds) || true) (covers_unsigned rules of_whole k) (or_right (not (among k key_kinds)) true tt) (any_unsigned rules k))

module _ (rules : Rules) (ask : Bytes → Outcome) where
  each_names : (i : ℕ) (ts : List Field) (fs : List Bytes) (o : Outcome) → Names o → Names (each ask (suc i) ts fs o)
  each_names i [] fs o s = s
  each_names i (t ∷ ts) [] o s = s
  each_names i (t ∷ ts) (f ∷ fs) o s =
      passing_names of_fields (field_answer ask t f) (suc i) (each ask (suc (suc i)) ts fs o) (field_given of_fields tt ask t f (any_covered t)) (rw (lt-ltb 0 (suc i) (omega arith)) tt) (each_names (suc i) ts fs o s)

  pub judged_names : (k : Kind) (fs : List Bytes) (o : Outcome) → Names o → Names (judged rules ask k fs o)
  unfolding judged
  judged_names k fs o s =
      each_names 0 (fields_of k) fs (passing (whole_answer rules k fs) 0 o)
      (passing_names of_whole (whole_answer rules k fs) 0 o (whole_given of_whole tt ask rules k fs (any_whole rules k)) tt s)

  pub over_names : (ks : List Kind) (s : Bytes) → Names (read_over rules ask ks s)
  unfolding read_over read_as
  over_names ks s =
      provided_law Names (leb (length s) longest_record) too_long _ refl
      (λ _. of_kind_law Names (kind_in ks (title s) (mark_after s)) (read_as rules ask s) refl
      (λ k e.
      let fs : List Bytes = fields_in k s in
      passing_names (0 ∷ 3 ∷ 4 ∷ []) (check_no (mark k) s) 0 _ (check_given (0 ∷ 3 ∷ 4 ∷ []) tt (mark k) s tt tt) tt
      (provided_law Names (eqb (length fs) (length (fields_of k))) wrong_count _ refl (λ _. judged_names k fs (accepted k fs) refl))))
