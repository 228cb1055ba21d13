-- What is read from a public key that is accepted: its Subject's names and GNT. A record that the rules up to E10 accept may stand in a place: it is no longer than one, not
-- empty, and has no zero byte; and so one that today's accept, which is not old. And a reading that is declined has a number of the reading calls.
-- Assumes nothing.
use Prim.Native.Nat.{ℕ, zero, suc, ◌<◌}
use mathlib.Core.Path.{◌≡◌, refl, sym, ap, ◌∙◌}
use mathlib.Core.Logic.{◌≢◌, ⊎_elim}
use mathlib.Core.Bool.{true, false, not, true≢false}
use mathlib.Core.List.{List, [], ◌∷◌, map}
use native.Mathlib.Omega.{arith}
use lib.ListN.{length}
use lib.Dec.{T, eqb, eqb→eq}
use mir.Facts.{or_yes}
use Rattle.text.specs.Text.{Bytes, one_of, all_of, without, is_timestamp}
use Rattle.format.specs.Kinds.{Kind, SMID, REQ, name, mark, fields_of, among, pubkey_kinds, key_kinds, identity_kinds}
use Rattle.format.specs.Requests.{id_sm, tvp}
use Rattle.format.specs.Build.{Built, IsIdentity}
use Rattle.format.specs.Read.{Outcome, accepted, refused, nobody, read_identity, read_under, read_of}
use Rattle.format.specs.declared.Rules.{Rules}
use Rattle.format.specs.declared.Rules.TheVariants.{UpToE10, Today}
use Rattle.format.proofs.Table.{every_kind, all_among, absent}
use Rattle.format.proofs.Parts.{record_length, record_without}
use Rattle.format.proofs.Fields.{fields_clean}
use Rattle.format.proofs.Exactly.{identity_tame, identity_says, under_exact, read_says, built_shorter}
use Rattle.format.proofs.Outcomes.{Honest}
use Rattle.format.proofs.Refusals.{over_given}
use Rattle.subjects.specs.Subjects.{manufacturer, mid, gnt}
use Rattle.subjects.specs.Keys.{subject, KeyUnder, Key}
use Rattle.subjects.specs.Requests.{Request}
use Rattle.subjects.proofs.Keys.{key_under, key, earlier_key}
use Rattle.subjects.proofs.Requests.{request, request_tvp}
use Rattle.subjects.proofs.Subjects.{identity_gnt}
use Rattle.shelf.specs.Places.{Names, named}
use Rattle.shelf.specs.Cabinet.{tvp_at, about, declined, asked_by, asks, read_by, reads_under, stands, reads, dated, requests, is_old}
use Rattle.shelf.proofs.Places.{clash}

-- ---- of an identity

-- i is accepted, and its names are k and its GNT is g
pub record Asked (i : Bytes) (k : Names) (g : Bytes) : Type 0 where
  pub who : Kind
  pub fields : List Bytes
  pub known : read_identity i ≡ accepted who fields
  pub names_so : k ≡ named (name who) (manufacturer fields) (mid fields)
  pub gnt_so : g ≡ gnt fields

pub asked : (i : Bytes) (k : Names) (g : Bytes) → asks i ≡ about k g → Asked i k g
unfolding asks
asked i k g e = go (read_identity i) refl e
  where
    go : (o : Outcome) → read_identity i ≡ o → asked_by o ≡ about k g → Asked i k g
    go (accepted who fs) h f =
        record { who = who; fields = fs; known = h; names_so = cc; gnt_so = cc }
    go (refused n j) h f = let z : ◌≡◌ {A = ℕ} 0 1 = cc in absurd (omega arith)

pub asks_accepted : (i : Bytes) {who : Kind} {fs : List Bytes} → read_identity i ≡ accepted who fs → asks i ≡ about (named (name who) (manufacturer fs) (mid fs)) (gnt fs)
unfolding asks
asks_accepted i e = rw e

pub asks_refused : (i : Bytes) (n j : ℕ) → read_identity i ≡ refused n j → asks i ≡ declined n j
unfolding asks
asks_refused i n j e = rw e

pub asked_gnt : {i : Bytes} {k : Names} {g : Bytes} → Asked i k g → T (is_timestamp g)
asked_gnt {i} a = rw a.gnt_so (identity_gnt i a.known)

-- ---- of a public key

-- the rules accept r, and its Subject is such an identity
pub record Held (rules : Rules) (r : Bytes) (k : Names) (g : Bytes) : Type 0 where
  pub key : KeyUnder rules r
  pub subject_so : Asked (subject key.fields) k g

pub held_of : (rules : Rules) (r : Bytes) (k : Names) (g : Bytes) → reads_under rules r ≡ about k g → Held rules r k g
unfolding reads_under
held_of rules r k g e = go (read_under rules pubkey_kinds r) refl e
  where
    go : (o : Outcome) → read_under rules pubkey_kinds r ≡ o → read_by o ≡ about k g → Held rules r k g
    go (accepted kind fs) h f =
        let q = key_under rules r kind fs h in
        let i = q.is in
        let same-fields : fs ≡ q.fields = cc in
        record { key = q; subject_so = asked (subject q.fields) k g (rw same-fields at f) }
    go (refused n j) h f = let z : ◌≡◌ {A = ℕ} 0 1 = cc in absurd (omega arith)

pub reads_accepted : {rules : Rules} (r : Bytes) (q : KeyUnder rules r) → reads_under rules r ≡ about (named (name q.who) (manufacturer q.names) (mid q.names)) (gnt q.names)
unfolding reads_under
reads_accepted r q = rw q.is (asks_accepted (subject q.fields) q.known)

pub reads_refused : (rules : Rules) (r : Bytes) (n j : ℕ) → read_under rules pubkey_kinds r ≡ refused n j → reads_under rules r ≡ declined n j
unfolding reads_under
reads_refused rules r n j e = rw e

-- ---- what today's rules accept those up to E10 accept, so it may be put, and it is not old

pub goes_in : (r : Bytes) (k : Names) (g : Bytes) → reads r ≡ about k g → stands r ≡ about k g
unfolding reads_under
goes_in r k g e =
    let q = (held_of Today r k g e).key in
    ap read_by ((earlier_key q).is ∙ sym q.is) ∙ e

pub key_current : {r : Bytes} → Key r → is_old r ≡ false
unfolding is_old
key_current q = rw q.is

pub reads_current : (r : Bytes) (k : Names) (g : Bytes) → reads r ≡ about k g → is_old r ≡ false
reads_current r k g e = key_current (held_of Today r k g e).key

pub current_key : (r : Bytes) → is_old r ≡ false → Key r
unfolding is_old
current_key r e = go (read_of pubkey_kinds r) refl
  where
    go : (o : Outcome) → read_of pubkey_kinds r ≡ o → Key r
    go (accepted k fs) h = key r k fs h
    go (refused n i) h = let f : true ≡ false = rw h at e in absurd (true≢false f)

-- ---- of a load request

-- q is accepted, its ID_SM is such an identity, and its TVP is t
pub record Requested (q : Bytes) (k : Names) (t : Bytes) : Type 0 where
  pub request : Request q
  pub names_so : k ≡ named (name SMID) (manufacturer request.names) (mid request.names)
  pub tvp_so : t ≡ tvp request.fields

pub requests_accepted : (s : Bytes) (q : Request s) → requests s ≡ about (named (name SMID) (manufacturer q.names) (mid q.names)) (tvp q.fields)
unfolding requests
requests_accepted s q = rw q.is (ap (dated (tvp q.fields)) (asks_accepted (id_sm q.fields) q.known))

pub requests_refused : (s : Bytes) (n j : ℕ) → read_of (REQ ∷ []) s ≡ refused n j → requests s ≡ declined n j
unfolding requests
requests_refused s n j e = rw e

pub requested : (s : Bytes) (k : Names) (t : Bytes) → requests s ≡ about k t → Requested s k t
requested s k t e = go (read_of (REQ ∷ []) s) refl
  where
    go : (o : Outcome) → read_of (REQ ∷ []) s ≡ o → Requested s k t
    go (accepted kind fs) h =
        let q = request s kind fs h in
        let f = sym (requests_accepted s q) ∙ e in
        record { request = q; names_so = cc; tvp_so = cc }
    go (refused n j) h =
        let f = sym (requests_refused s n j h) ∙ e in
        let z : ◌≡◌ {A = ℕ} 0 1 = cc in absurd (omega arith)

pub requested_tvp : {s : Bytes} {k : Names} {t : Bytes} → Requested s k t → T (is_timestamp t)
requested_tvp r = rw r.tvp_so (request_tvp r.request)

-- ---- it may stand in a place

zero_absent : (k : Kind) → T (all_of (map (absent 0) (fields_of k)))
zero_absent = every_kind (λ k. all_of (map (absent 0) (fields_of k))) tt

mark_no_zero : (k : Kind) → T (not (eqb (mark k) 0))
mark_no_zero = every_kind (λ k. not (eqb (mark k) 0)) tt

no_wrapped_key : (k : Kind) → T (among k pubkey_kinds) → T (not (among k key_kinds))
no_wrapped_key = all_among (λ k. T (not (among k key_kinds))) pubkey_kinds (tt, (tt, tt))

pub record Fitting (r : Bytes) : Type 0 where
  -- before the TVP, with a zero between
  pub long : length r < tvp_at
  pub some_byte : length r ≢ 0
  pub no_zero : T (without 0 r)

pub fitting : (r : Bytes) (k : Names) (g : Bytes) → stands r ≡ about k g → Fitting r
unfolding tvp_at
fitting r k g e =
    let q = (held_of UpToE10 r k g e).key in
    let b = (under_exact UpToE10 pubkey_kinds r q.kind q.fields).0 q.is in
    record {
      long = rw b.built (omega (arith, built_shorter q.kind q.fields (no_wrapped_key q.kind b.of-kind) b.permitted));
      some_byte = λ z. omega (arith, record_length q.kind q.fields, ap length b.built);
      no_zero = rw b.built (record_without 0 tt q.kind q.fields (mark_no_zero q.kind) (fields_clean IsIdentity identity_tame 0 (fields_of q.kind) q.fields (zero_absent q.kind) b.permitted.fit));
    }

-- ---- the numbers

-- those of reading a public key, and an identity
abbrev pub own_numbers : List ℕ
own_numbers = 1 ∷ 2 ∷ 3 ∷ 4 ∷ 5 ∷ 6 ∷ 7 ∷ 8 ∷ 9 ∷ 28 ∷ []

positive : (P : Kind → List Bytes → Type 0) (n i : ℕ) → Honest P (refused n i) → T (one_of (0 ∷ own_numbers) n) → T (one_of own_numbers n)
positive P zero i h t = absurd h
positive P (suc n) i h t = ⊎_elim (λ e. let z = eqb→eq (suc n) 0 e in absurd (omega arith)) (λ u. u) (or_yes (eqb (suc n) 0) (one_of own_numbers (suc n)) t)

identity_own : (i : Bytes) (n j : ℕ) → read_identity i ≡ refused n j → T (one_of own_numbers n)
unfolding read_identity
identity_own i n j e =
    positive (Built identity_kinds i) n j (rw e at (identity_says i))
    (rw e at (over_given (0 ∷ own_numbers) tt nobody Today (tt, tt, tt, tt, tt) identity_kinds (tt, (tt, (tt, tt))) i))

record_own : (r : Bytes) (n j : ℕ) → read_of pubkey_kinds r ≡ refused n j → T (one_of own_numbers n)
unfolding read_under
record_own r n j e =
    positive (Built pubkey_kinds r) n j (rw e at (read_says pubkey_kinds r))
    (rw e at (over_given (0 ∷ own_numbers) tt read_identity Today (tt, tt, tt, tt, tt) pubkey_kinds (tt, (tt, tt)) r))

pub asks_own : (i : Bytes) (n j : ℕ) → asks i ≡ declined n j → (read_identity i ≡ refused n j) × T (one_of own_numbers n)
unfolding asks
asks_own i n j e = go (read_identity i) refl e
  where
    go : (o : Outcome) → read_identity i ≡ o → asked_by o ≡ declined n j → (read_identity i ≡ refused n j) × T (one_of own_numbers n)
    go (accepted who fs) h f = let z : ◌≡◌ {A = ℕ} 0 1 = cc in absurd (omega arith)
    go (refused m l) h f = let g : read_identity i ≡ refused n j = cc in (g, identity_own i n j g)

pub reads_own : (r : Bytes) (n j : ℕ) → reads r ≡ declined n j → (read_of pubkey_kinds r ≡ refused n j) × T (one_of own_numbers n)
unfolding reads_under
reads_own r n j e = go (read_of pubkey_kinds r) refl e
  where
    go : (o : Outcome) → read_of pubkey_kinds r ≡ o → read_by o ≡ declined n j → (read_of pubkey_kinds r ≡ refused n j) × T (one_of own_numbers n)
    go (accepted k fs) h f =
        let q = key r k fs h in
        let i = q.is in
        let same-fields : fs ≡ q.fields = cc in
        let g = sym (asks_accepted (subject q.fields) q.known) ∙ rw same-fields at f in
        let z : ◌≡◌ {A = ℕ} 0 1 = cc in absurd (omega arith)
    go (refused m l) h f = let g : read_of pubkey_kinds r ≡ refused n j = cc in (g, record_own r n j g)

request_own : (s : Bytes) (n j : ℕ) → read_of (REQ ∷ []) s ≡ refused n j → T (one_of own_numbers n)
unfolding read_under
request_own s n j e =
    positive (Built (REQ ∷ []) s) n j (rw e at (read_says (REQ ∷ []) s))
    (rw e at (over_given (0 ∷ own_numbers) tt read_identity Today (tt, tt, tt, tt, tt) (REQ ∷ []) (tt, tt) s))

pub requests_own : (s : Bytes) (n j : ℕ) → requests s ≡ declined n j → (read_of (REQ ∷ []) s ≡ refused n j) × T (one_of own_numbers n)
requests_own s n j e = go (read_of (REQ ∷ []) s) refl
  where
    go : (o : Outcome) → read_of (REQ ∷ []) s ≡ o → (read_of (REQ ∷ []) s ≡ refused n j) × T (one_of own_numbers n)
    go (accepted k fs) h =
        let f = sym (requests_accepted s (request s k fs h)) ∙ e in
        let z : ◌≡◌ {A = ℕ} 0 1 = cc in absurd (omega arith)
    go (refused m l) h =
        let f = sym (requests_refused s m l h) ∙ e in
        let g : read_of (REQ ∷ []) s ≡ refused n j = cc in (g, request_own s n j g)

-- a number of the cabinet's own is none of them, and 0 neither
pub not_own : (n m : ℕ) → T (one_of own_numbers n) → T (not (one_of own_numbers m)) → n ≢ m
not_own n m t u e = clash (one_of own_numbers m) (rw e at t) u
