-- What each call accepts, exactly: the records that may be built of the kinds that it reads, with the fields that they were
-- built from. No refusal has the number 0; a record has one kind, one list of fields and a known length.
-- Assumes nothing.
use Prim.Native.Nat.{ℕ, ◌+◌, ◌≤◌}
use Prim.Native.Char.{code}
use mathlib.Core.Path.{◌≡◌, sym, ap, ap₂, ◌∙◌, subst}
use mathlib.Core.Logic.{◌↔◌, ⊎_elim}
use mathlib.Core.Bool.{Bool, true, false, cond, not, ◌&&◌}
use mathlib.Core.List.{List, [], ◌∷◌}
use native.Mathlib.Omega.{arith}
use native.Mathlib.Nat.{le_trans}
use lib.Dec.{T, T_not, eqb, leb, eqb→eq, leb→le}
use lib.ListN.{length, drop, length-append}
use mir.Facts.{and_yes, yes_and, yes_eqb}
use Rattle.crc16.specs.Crc.{crc_of}
use Rattle.text.specs.Text.{Bytes, same, ident_character, is_hex}
use Rattle.text.specs.Base16.{check_text}
use Rattle.text.proofs.Tests.{T_true, same→eq, same_refl}
use Rattle.text.proofs.Types.{hex_length, timestamp_length, point_hex}
use Rattle.text.proofs.Hexadecimal.{check_hex}
use Rattle.numbers.specs.Numbers.{too_long, missing_check, wrong_check, wrong_count}
use Rattle.format.specs.Kinds.{Kind, KEY, Field, name, mark, fields_of, identity_fields, identity_kinds, record_kinds, pubkey_kinds, key_kinds, among}
use Rattle.format.specs.Build.{WithoutAll, record_of, empty, Fits, FitAll, longest_record, PermittedOver, BuiltOver, NeverIdentity, IsIdentity, PermittedUnder, BuiltUnder, Permitted, Built}
use Rattle.format.specs.Read.{Outcome, accepted, answer, title, mark_after, kind_in, body, check, ends_in, check_no, cut, fields_in, judged, read_as, read_over, nobody, read_identity, read_under, read_of, read_record}
use Rattle.format.specs.declared.Rules.{Rules}
use Rattle.format.specs.declared.Rules.TheVariants.{Today}
use Rattle.format.proofs.Table.{name_inj, All, kind_in_some, kind_in_known, longest_bounded, record_room, identity_row, pubkey_row, seven_fields}
use Rattle.format.proofs.Parts.{record_length, ends_last, built_title, built_ends, built_check, built_parts, record_without, found_built}
use Rattle.format.proofs.Outcomes.{never, provided_law, passing_law, of_kind_law, Honest, honest_map, honest_zero}
use Rattle.format.proofs.Fields.{fit_length, Exact, fits_judged, judged_law, Tame, fields_clean, record_clean, record_short}

-- ---- a check without a number

two_right : (a b : Bool) → ◌≡◌ {A = ℕ} (cond a (cond b 0 wrong_check) missing_check) 0 → T a × T b
two_right true true e = (tt, tt)
two_right true false e = absurd (omega arith)
two_right false b e = absurd (omega arith)

check_right : (m : ℕ) (s : Bytes) → check_no m s ≡ 0 → T (ends_in m (body s)) × T (same (check s) (check_text (crc_of (body s))))
unfolding check_no
check_right m s e =
    let both = two_right (is_hex 4 (check s) && ends_in m (body s)) (same (check s) (check_text (crc_of (body s)))) e in
    ((and_yes (is_hex 4 (check s)) (ends_in m (body s)) both.0).1, both.1)

built_right : (k : Kind) (fs : List Bytes) → check_no (mark k) (record_of k fs) ≡ 0
unfolding check_no
built_right k fs =
    let s : Bytes = record_of k fs in
    let hex : T (is_hex 4 (check s)) = rw (built_check k fs) (check_hex (crc_of (body s))) in
    rw (
      T_true (is_hex 4 (check s) && ends_in (mark k) (body s)) (yes_and (is_hex 4 (check s)) (ends_in (mark k) (body s)) hex (built_ends k fs)),
      T_true (same (check s) (check_text (crc_of (body s)))) (rw (built_check k fs) (same_refl (check_text (crc_of (body s))))),
    )

-- ---- a call that asks `ask` of identities, which accepts exactly the identities I

module _ (rules : Rules) (ask : Bytes → Outcome) (I : Kind → Bytes → Type 0) (x : Exact ask I) where
  over_says : (ks : List Kind) (s : Bytes) → Honest (BuiltOver rules I ks s) (read_over rules ask ks s)
  unfolding read_over read_as
  over_says ks s =
      let P : Outcome → Type 0 = Honest (BuiltOver rules I ks s) in
      provided_law P (leb (length s) longest_record) too_long _ tt
      (λ short. of_kind_law P (kind_in ks (title s) (mark_after s)) (read_as rules ask s) tt
      (λ k e.
      let fs : List Bytes = fields_in k s in
      let known = kind_in_some ks (title s) (mark_after s) k e in
      passing_law P (check_no (mark k) s) 0 _ (λ n. tt)
      (λ right. provided_law P (eqb (length fs) (length (fields_of k))) wrong_count _ tt
      (λ count. judged_law ask I x P (λ n i. tt) rules k fs (accepted k fs) (eqb→eq (length fs) (length (fields_of k)) count)
      (λ fit both attributes signs.
      let checked = check_right (mark k) s right in
      let built =
      found_built k s known.1 known.2 (ends_last (mark k) (body s) checked.0)
      (same→eq (check s) (check_text (crc_of (body s))) checked.1) in
      record {
        of-kind = known.0;
        permitted =
            record { fit = fit; both = both; attributes = attributes; signs = signs; short = subst (λ (x : Bytes). T (leb (length x) longest_record)) built short };
        built = built;
      })))))

  as_accepts : (k : Kind) (fs : List Bytes) → WithoutAll (mark k) fs → PermittedOver rules I k fs → read_as rules ask (record_of k fs) k ≡ accepted k fs
  unfolding read_as
  as_accepts k fs w p =
      rw (
        ap (drop 1) (built_parts k fs w),
        built_right k fs,
        T_true (eqb (length fs) (length (fields_of k))) (yes_eqb (fit_length I (fields_of k) fs p.fit)),
      ) (fits_judged ask I x rules k fs (accepted k fs) p)

  over_exact : Tame I → (ks : List Kind) (s : Bytes) (k : Kind) (fs : List Bytes) → (read_over rules ask ks s ≡ accepted k fs) ↔ BuiltOver rules I ks s k fs
  unfolding read_over
  over_exact tame ks s k fs = (
    λ e. subst (Honest (BuiltOver rules I ks s)) e (over_says ks s),
    λ b.
        let known = built_title k fs in
        rw (
          b.built,
          T_true (leb (length (record_of k fs)) longest_record) b.permitted.short,
          known.0,
          known.1,
          kind_in_known ks k b.of-kind,
        ) (as_accepts k fs (record_clean I tame k fs b.permitted.fit) b.permitted),
  )

-- ---- the identity call, which asks nobody

never_exact : Exact nobody NeverIdentity
never_exact = record { sound = λ k fs f e. never e; complete = λ k f i. absurd i }

never_tame : Tame NeverIdentity
never_tame m u k f i = absurd i

identity_over : (s : Bytes) (k : Kind) (fs : List Bytes) → (read_identity s ≡ accepted k fs) ↔ BuiltOver Today NeverIdentity identity_kinds s k fs
unfolding read_identity
identity_over s k fs = over_exact Today nobody NeverIdentity never_exact never_tame identity_kinds s k fs

pub ask_sound : (k : Kind) (fs : List Bytes) (f : Bytes) → read_identity f ≡ accepted k fs → IsIdentity k f
unfolding IsIdentity
ask_sound k fs f e = (fs, (identity_over f k fs).0 e)

pub ask_complete : (k : Kind) (f : Bytes) → IsIdentity k f → (fs : List Bytes) × (read_identity f ≡ accepted k fs)
unfolding IsIdentity
ask_complete k f (fs, b) = (fs, (identity_over f k fs).1 b)

pub ask_exact : Exact read_identity IsIdentity
ask_exact = record { sound = ask_sound; complete = ask_complete }

-- the fields of an identity are texts, so that they fit whatever identities are
refit : (I J : Kind → Bytes → Type 0) (ts : List Field) → All (λ t. (f : Bytes) → Fits I t f → Fits J t f) ts
    → (fs : List Bytes) → FitAll I ts fs → FitAll J ts fs
unfolding FitAll
refit I J [] g [] h = h
refit I J [] g (f ∷ fs) h = h
refit I J (t ∷ ts) g [] h = h
refit I J (t ∷ ts) g (f ∷ fs) h = (g.0 f h.0, refit I J ts g.1 fs h.1)

built_over : (I J : Kind → Bytes → Type 0) (s : Bytes) (k : Kind) (fs : List Bytes) → BuiltOver Today I identity_kinds s k fs → BuiltOver Today J identity_kinds s k fs
unfolding Fits
built_over I J s k fs b =
    let row = (identity_row k b.of-kind).1 in
    let fit = refit I J identity_fields (λ f h. h, (λ f h. h, (λ f h. h, (λ f h. h, tt)))) fs (rw row at b.permitted.fit) in
    let p = b.permitted in
    record {
      of-kind = b.of-kind;
      permitted = record { fit = rw row fit; both = p.both; attributes = p.attributes; signs = p.signs; short = p.short };
      built = b.built;
    }

pub identity_says : (s : Bytes) → Honest (Built identity_kinds s) (read_identity s)
unfolding read_identity
identity_says s = honest_map (built_over NeverIdentity IsIdentity s) (read_identity s) (over_says Today nobody NeverIdentity never_exact identity_kinds s)

pub identity_exact : (s : Bytes) (k : Kind) (fs : List Bytes) → (read_identity s ≡ accepted k fs) ↔ Built identity_kinds s k fs
identity_exact s k fs = (
  λ e. built_over NeverIdentity IsIdentity s k fs ((identity_over s k fs).0 e),
  λ b. (identity_over s k fs).1 (built_over IsIdentity NeverIdentity s k fs b),
)

-- ---- the calls that read records

pub identity_tame : Tame IsIdentity
unfolding IsIdentity
identity_tame m u k f (fs, b) =
    let fit = b.permitted.fit in
    let row = identity_row k b.of-kind in
    let u' = and_yes (not (ident_character m)) (not (eqb (code ":") m)) u in
    let clean = fields_clean NeverIdentity never_tame m (fields_of k) fs (rw (row.1, T_true (not (ident_character m)) u'.0) tt) fit in
    let short = record_short NeverIdentity never_tame k fs row.3 fit in
    rw b.built (record_without m u'.0 k fs (rw row.0 u'.1) clean, omega arith)

-- whatever rules it reads by, and whatever kinds: the fields of an identity are texts
pub under_exact : (rules : Rules) (ks : List Kind) (s : Bytes) (k : Kind) (fs : List Bytes) → (read_under rules ks s ≡ accepted k fs) ↔ BuiltUnder rules ks s k fs
unfolding read_under
under_exact rules ks s k fs = over_exact rules read_identity IsIdentity ask_exact identity_tame ks s k fs

pub read_exact : (ks : List Kind) (s : Bytes) (k : Kind) (fs : List Bytes) → (read_of ks s ≡ accepted k fs) ↔ Built ks s k fs
read_exact = under_exact Today

pub record_exact : (s : Bytes) (k : Kind) (fs : List Bytes) → (read_record s ≡ accepted k fs) ↔ Built record_kinds s k fs
unfolding read_record
record_exact s k fs = read_exact record_kinds s k fs

pub under_says : (rules : Rules) (ks : List Kind) (s : Bytes) → Honest (BuiltUnder rules ks s) (read_under rules ks s)
unfolding read_under
under_says rules ks s = over_says rules read_identity IsIdentity ask_exact ks s

pub read_says : (ks : List Kind) (s : Bytes) → Honest (Built ks s) (read_of ks s)
read_says = under_says Today

pub under_honest : (rules : Rules) (ks : List Kind) (s : Bytes) → answer (read_under rules ks s) ≡ 0 → (k : Kind) × (fs : List Bytes) × (read_under rules ks s ≡ accepted k fs)
under_honest rules ks s = honest_zero (BuiltUnder rules ks s) (read_under rules ks s) (under_says rules ks s)

pub read_honest : (ks : List Kind) (s : Bytes) → answer (read_of ks s) ≡ 0 → (k : Kind) × (fs : List Bytes) × (read_of ks s ≡ accepted k fs)
read_honest = under_honest Today

pub record_says : (s : Bytes) → Honest (Built record_kinds s) (read_record s)
unfolding read_record
record_says s = read_says record_kinds s

-- ---- one kind and one list of fields

-- the first part of the body is the kind's name, and the fields are the others
permitted_parts : {rules : Rules} (k : Kind) (fs : List Bytes) → PermittedUnder rules k fs → cut (mark k) (body (record_of k fs)) ≡ name k ∷ fs
permitted_parts k fs p = built_parts k fs (record_clean IsIdentity identity_tame k fs p.fit)

module _ {rules : Rules} {ks : List Kind} {s : Bytes} {k : Kind} {fs : List Bytes} (b : BuiltUnder rules ks s k fs) where
  pub its_title : title s ≡ name k
  its_title = ap title b.built ∙ (built_title k fs).0

  pub its_parts : cut (mark k) (body s) ≡ name k ∷ fs
  its_parts = rw b.built (permitted_parts k fs b.permitted)

  pub its_fields : fields_in k s ≡ fs
  its_fields = ap (drop 1) its_parts

  pub its_count : length fs ≡ length (fields_of k)
  its_count = fit_length IsIdentity (fields_of k) fs b.permitted.fit

  pub its_few : length fs ≤ 7
  its_few = omega (arith, its_count, seven_fields k)

pub built_unique : {rules others : Rules} (s : Bytes) (j k : Kind) (fs gs : List Bytes) → PermittedUnder rules j fs → PermittedUnder others k gs → s ≡ record_of j fs → s ≡ record_of k gs
    → (j ≡ k) × (fs ≡ gs)
built_unique s j k fs gs p q d e =
    let one : j ≡ k = name_inj j k (sym (built_title j fs).0 ∙ ap title (sym d ∙ e) ∙ (built_title k gs).0) in
    (one, ap (drop 1) (sym (permitted_parts j fs p)) ∙ ap₂ fields_in one (sym d ∙ e) ∙ ap (drop 1) (permitted_parts k gs q))

-- ---- lengths

pub built_length : {rules : Rules} (k : Kind) (fs : List Bytes) → PermittedUnder rules k fs → length (record_of k fs) ≤ longest_record
built_length k fs p = leb→le (length (record_of k fs)) longest_record p.short

-- every kind but the wrapped key
pub built_shorter : {rules : Rules} (k : Kind) (fs : List Bytes) → T (not (among k key_kinds)) → PermittedUnder rules k fs → length (record_of k fs) ≤ longest_bounded
built_shorter k fs other p = le_trans (record_short IsIdentity identity_tame k fs other p.fit) (record_room k other)

-- a wrapped key has 37 bytes beside its Attributes and its ProtectedKey
pub key_length : (n a p : Bytes) → Permitted KEY (n ∷ a ∷ p ∷ []) → length (record_of KEY (n ∷ a ∷ p ∷ [])) ≡ 37 + length a + length p
unfolding FitAll Fits
key_length n a p h = record_length KEY (n ∷ a ∷ p ∷ []) ∙ simp length-append (omega (arith, hex_length 24 n h.fit.0))

pub identity_length : (k : Kind) (a b c d : Bytes) → T (among k identity_kinds) → Permitted k (a ∷ b ∷ c ∷ d ∷ [])
    → length (record_of k (a ∷ b ∷ c ∷ d ∷ [])) ≡ length (name k) + length a + length b + 41
unfolding FitAll Fits
identity_length k a b c d h p =
    let fit = rw (identity_row k h).1 at p.fit in
    record_length k (a ∷ b ∷ c ∷ d ∷ []) ∙ simp length-append (omega (arith, timestamp_length c fit.1.1.0, hex_length 16 d fit.1.1.1.0))

pubkey_length : (k : Kind) (s q e i g : Bytes) → T (among k pubkey_kinds) → Permitted k (s ∷ q ∷ e ∷ i ∷ g ∷ [])
    → (length (record_of k (s ∷ q ∷ e ∷ i ∷ g ∷ [])) ≡ length (name k) + length s + 220 + length i + length g)
    × (T (not (empty g)) → length g ≡ 192)
unfolding FitAll Fits
pubkey_length k s q e i g h p =
    let fit = rw (pubkey_row k h).1 at p.fit in (
      record_length k (s ∷ q ∷ e ∷ i ∷ g ∷ [])
          ∙ simp length-append (omega (arith, hex_length 194 q (point_hex q fit.1.0), timestamp_length e fit.1.1.0)),
      λ n. hex_length 192 g (⊎_elim (λ t. absurd (T_not (empty g) n t)) (λ t. t) fit.1.1.1.1.0),
    )

pub unsigned_length : (k : Kind) (s q e : Bytes) → T (among k pubkey_kinds) → Permitted k (s ∷ q ∷ e ∷ [] ∷ [] ∷ [])
    → length (record_of k (s ∷ q ∷ e ∷ [] ∷ [] ∷ [])) ≡ length (name k) + length s + 220
unsigned_length k s q e h p = omega (arith, (pubkey_length k s q e [] [] h p).0)

pub signed_length : (k : Kind) (s q e i g : Bytes) → T (among k pubkey_kinds) → Permitted k (s ∷ q ∷ e ∷ i ∷ g ∷ []) → T (not (empty g))
    → length (record_of k (s ∷ q ∷ e ∷ i ∷ g ∷ [])) ≡ length (name k) + length s + 220 + length i + 192
signed_length k s q e i g h p n = let l = pubkey_length k s q e i g h p in omega (arith, l.0, l.1 n)

-- ---- the fields that a builder is given

pub permitted_judged : (rules : Rules) (k : Kind) (fs : List Bytes) (o : Outcome) → PermittedUnder rules k fs → judged rules read_identity k fs o ≡ o
permitted_judged = fits_judged read_identity IsIdentity ask_exact
