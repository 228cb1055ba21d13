-- The promises about confirmation tags, from the definitions of hmac and confirm.
-- Assumes nothing.
use Prim.Native.Nat.{ℕ, zero, suc, ◌≤◌, ◌<◌}
use mathlib.Core.Path.{◌≡◌, refl, sym, ap, ◌∙◌}
use mathlib.Core.Logic.{◌⊎◌, inl, inr, ◌≢◌}
use mathlib.Core.Bool.{Bool, true, false, not, cond, ◌&&◌, and-false}
use mathlib.Core.List.{List, [], ◌∷◌, ◌++◌}
use native.Mathlib.Omega.{arith}
use native.Mathlib.Nat.{le_trans}
use lib.ListN.{length, take, get_or, set, take-append-drop, length-drop}
use lib.Seq.{length-take-le, get_or-take, get_or-set_same, get_or-set_other}
use lib.Dec.{T, leb, eqb, eqb→eq, leb→le, le→leb, lit≤}
use mir.Facts.{and_yes}
use borrow.Author.Tests.{eq-eqb, ne_eqb, le-leb, lt-leb}
use Rattle.text.specs.Text.{Bytes, same, is_mac, Ident}
use Rattle.text.specs.Base16.{base16}
use Rattle.text.proofs.Tests.{T_true, same→eq, same_true, same_false}
use Rattle.put.specs.Made.{leaves}
use Rattle.put.proofs.Hex.{base16_hex}
use Rattle.sha384.specs.Sha384.{sha384}
use Rattle.hashing.specs.State as states
use Rattle.sha384.specs.State.{begun, added, added_all, together, ended}
use Rattle.sha384.proofs.Digest.{digest_size}
use Rattle.sha384.proofs.Pieces.{ended_all}
use Rattle.format.specs.Kinds.{Kind, REQ, RESP, Field, Text, fields_of}
use Rattle.format.specs.Requests.{id_sm, id_kmc, tvp}
use Rattle.format.specs.Build.{FitAll, Fits, IsIdentity, Permitted, Built, record_of}
use Rattle.format.specs.Read.{Outcome, accepted, refused, answer, read_of}
use Rattle.format.proofs.Fields.{fit_length, fit_at, record_short}
use Rattle.format.proofs.Exactly.{identity_tame, read_exact, read_honest}
use Rattle.format.proofs.Refusals.{Gives}
use Rattle.items.specs.Items.{lv_concat}
use Rattle.agreement.specs.Texts.{shared_items, module_items, centre_items}
use Rattle.agreement.proofs.Request.{one_built}
use Rattle.hmac.specs.Hmac.{mixed, ipad, mac, hmac}
use Rattle.hmac.specs.State.{hmac_begun, hmac_ended}
use Rattle.hmac.proofs.Tags.{tag_size, tag_bytes}
use Rattle.confirm.specs.Confirm.{kdf, derived, mac_key, kek, module_tag, centre_tag, request_tag, response_tag, answers, Confirmation, keys, denies, says_of, mac_key_of, kek_of, request_by, response_by, Confirms, confirm_request, confirm_response}
use Rattle.confirm.specs.declared.Confirmed.{Confirmed}
use Rattle.promises.proofs.Statements.Refusals.{of_loads}
use Rattle.promises.proofs.Statements.Confirmation.{plain, Asked, RequestSaid, Answered, ResponseSaid, SameButTag, Confirmations}
use Rattle.promises.proofs.Refusals.{load_given}

-- ---- three tests in a row, as both calls have them: 16, then y, which is 10 or 17, then 18

abbrev number : ℕ → Bool → Bool → Bool → ℕ
number y a b c = cond a (cond b (cond c 0 18) y) 16

module _ (y : ℕ) (nonzero : y ≢ 0) (other : y ≢ 18) where
  zero_all : (a b c : Bool) → number y a b c ≡ 0 → T a × T b × T c
  zero_all true true true e = (tt, tt, tt)
  zero_all true true false e = absurd (omega arith)
  zero_all true false c e = absurd (nonzero e)
  zero_all false b c e = absurd (omega arith)

  tag_alone : (a b c : Bool) → number y a b c ≡ 18 → T a × T b × T (not c)
  tag_alone true true true e = absurd (omega arith)
  tag_alone true true false e = (tt, tt, tt)
  tag_alone true false c e = absurd (other e)
  tag_alone false b c e = absurd (omega arith)

  -- the third test shows in 0 or 18 alone
  third : (a b c d : Bool) → SameButTag (plain (number y a b c)) (plain (number y a b d))
  third true true true true = inl refl
  third true true true false = inr (inl refl, inr refl)
  third true true false true = inr (inr refl, inl refl)
  third true true false false = inl refl
  third true false c d = inl refl
  third false b c d = inl refl

same_no : (x y : Bytes) → T (not (same x y)) → x ≢ y
same_no x y t e = rw (same_true x y e) at t

-- ---- an accepted record that was to be of one kind

module _ (k : Kind) (s : Bytes) where
  one_zero : answer (read_of (k ∷ []) s) ≡ 0 → (fs : List Bytes) × Built (k ∷ []) s k fs
  one_zero z = let (j, fs, e) = read_honest (k ∷ []) s z in (fs, one_built k s e)

  built_read : (fs : List Bytes) → Built (k ∷ []) s k fs → read_of (k ∷ []) s ≡ accepted k fs
  built_read fs b = (read_exact (k ∷ []) s k fs).1 b

-- ---- a request

module _ (z request : Bytes) (m k : ℕ) where
  abbrev tests : List Bytes → ℕ
  tests fs = number 10 (eqb (length z) 96) (leb 24 m && leb 24 k) (same (request_tag fs) (module_tag z fs))

  says_so : (j : Kind) (fs : List Bytes) → says_of (request_by z m k (accepted j fs)) ≡ plain (tests fs)
  says_so j fs = go (eqb (length z) 96) (leb 24 m && leb 24 k) (same (request_tag fs) (module_tag z fs))
    where
      go : (a b c : Bool)
          → says_of (cond a (cond b (cond c (keys (mac_key z fs) (kek z fs)) (denies 18 0 0)) (denies 10 0 0)) (denies 16 0 0)) ≡ plain (number 10 a b c)
      go true true true = refl
      go true true false = refl
      go true false c = refl
      go false b c = refl

  request_so : (fs : List Bytes) → Built (REQ ∷ []) request REQ fs → says_of (confirm_request z request m k) ≡ plain (tests fs)
  unfolding confirm_request
  request_so fs b = rw (built_read REQ request fs b) (says_so REQ fs)

  -- 0 and 18 are given to an accepted request alone
  request_zero : (o : Outcome) → (says_of (request_by z m k o)).no ≡ 0 → answer o ≡ 0
  request_zero (accepted j fs) h = refl
  request_zero (refused n i) h = h

  request-tag : (o : Outcome) → Gives of_loads o → (says_of (request_by z m k o)).no ≡ 18 → answer o ≡ 0
  request-tag (accepted j fs) g h = refl
  request-tag (refused n i) g h = absurd (rw h at g)

-- with another number than 0 nothing is written
kept : (c : Confirmation) (m k : Bytes) → (says_of c).no ≢ 0 → (leaves (mac_key_of c) m ≡ m) × (leaves (kek_of c) k ≡ k)
kept (keys a b) m k n = absurd (n refl)
kept (denies n i w) m k h = (refl, refl)

key_sizes : (z : Bytes) (fs : List Bytes) → (length (mac_key z fs) ≡ 24) × (length (kek z fs) ≡ 24)
unfolding kdf
key_sizes z fs =
    let l = digest_size (z ++ (0 ∷ 0 ∷ 0 ∷ 1 ∷ []) ++ lv_concat (shared_items fs)) in
    (length-take-le 24 (derived z fs) (omega (arith, l)), length-drop 24 (derived z fs) ∙ omega (arith, l))

-- of an answer by three tests
no_of : {r : Confirmed} {n : ℕ} → r ≡ plain n → r.no ≡ n
no_of e = ap (λ (c : Confirmed). c.no) e

module _ (z request m k m' k' : Bytes) (r : Confirmed) (p : Confirms (confirm_request z request (length m) (length k)) m k m' k' r) where
  abbrev found : Confirmation
  found = confirm_request z request (length m) (length k)

  of : (fs : List Bytes) → Built (REQ ∷ []) request REQ fs → r ≡ plain (tests z request (length m) (length k) fs)
  of fs b = p.said ∙ request_so z request (length m) (length k) fs b

  abbrev no_so : r.no ≡ (says_of found).no
  no_so = ap (λ (c : Confirmed). c.no) p.said

  asked_so : (fs : List Bytes) → Built (REQ ∷ []) request REQ fs → T (eqb (length z) 96) → T (leb 24 (length m) && leb 24 (length k)) → Asked z request m k fs
  asked_so fs b t u =
      let v = and_yes (leb 24 (length m)) (leb 24 (length k)) u in
      record { built = b; z_long = eqb→eq (length z) 96 t; mac_room = leb→le 24 (length m) v.0; key_room = leb→le 24 (length k) v.1 }

  asked_no : (fs : List Bytes) → Asked z request m k fs → r.no ≡ cond (same (request_tag fs) (module_tag z fs)) 0 18
  asked_no fs a = no_of (of fs a.built) ∙ rw (eq-eqb (length z) 96 a.z_long, le-leb 24 (length m) a.mac_room, le-leb 24 (length k) a.key_room)

  zero_built : r.no ≡ 0 → (fs : List Bytes) × Built (REQ ∷ []) request REQ fs
  unfolding confirm_request
  zero_built h = one_zero REQ request (request_zero z request (length m) (length k) (read_of (REQ ∷ []) request) (sym no_so ∙ h))

  tag_built : r.no ≡ 18 → (fs : List Bytes) × Built (REQ ∷ []) request REQ fs
  unfolding confirm_request
  tag_built h =
      one_zero REQ request (request-tag z request (length m) (length k) (read_of (REQ ∷ []) request) (load_given request of_loads tt).0 (sym no_so ∙ h))

  keys_left : (fs : List Bytes) → Built (REQ ∷ []) request REQ fs → r.no ≡ 0 → found ≡ keys (mac_key z fs) (kek z fs)
  unfolding confirm_request
  keys_left fs b h =
      let (t, u, v) = zero_all 10 (λ e. absurd (omega arith)) (λ e. absurd (omega arith)) (eqb (length z) 96) (leb 24 (length m) && leb 24 (length k)) (same (request_tag fs) (module_tag z fs)) (sym (no_of (of fs b)) ∙ h) in
      rw (built_read REQ request fs b, T_true (eqb (length z) 96) t, T_true (leb 24 (length m) && leb 24 (length k)) u, T_true (same (request_tag fs) (module_tag z fs)) v)

  request_said : RequestSaid z request m k m' k' r
  unfolding confirm_request
  request_said = record {
    own = λ n i h. p.said ∙ rw h;
    wrong-z = λ fs b n. of fs b ∙ rw (ne_eqb (length z) 96 n);
    short = λ fs b l s. of fs b ∙ ap plain (short_no (same (request_tag fs) (module_tag z fs)) l s);
    agrees = (
      λ h.
          let (fs, b) = zero_built h in
          let (t, u, v) = zero_all 10 (λ e. absurd (omega arith)) (λ e. absurd (omega arith)) (eqb (length z) 96) (leb 24 (length m) && leb 24 (length k)) (same (request_tag fs) (module_tag z fs)) (sym (no_of (of fs b)) ∙ h) in
          (fs, asked_so fs b t u, same→eq (request_tag fs) (module_tag z fs) v),
      λ (fs, a, e). asked_no fs a ∙ rw (same_true (request_tag fs) (module_tag z fs) e),
    );
    differs = (
      λ h.
          let (fs, b) = tag_built h in
          let (t, u, v) = tag_alone 10 (λ e. absurd (omega arith)) (λ e. absurd (omega arith)) (eqb (length z) 96) (leb 24 (length m) && leb 24 (length k)) (same (request_tag fs) (module_tag z fs)) (sym (no_of (of fs b)) ∙ h) in
          (fs, asked_so fs b t u, same_no (request_tag fs) (module_tag z fs) v),
      λ (fs, a, e). asked_no fs a ∙ rw (same_false (request_tag fs) (module_tag z fs) e),
    );
    written = λ fs b h.
        let c = keys_left fs b h in
        let s = key_sizes z fs in
        (p.mac_key_left ∙ rw (c, s.0), p.kek_left ∙ rw (c, s.1));
    untouched = λ h. let (a, b) = kept found m k (λ e. h (no_so ∙ e)) in (p.mac_key_left ∙ a, p.kek_left ∙ b);
  }
    where
      short_no : (c : Bool) → length z ≡ 96 → (length m < 24) ⊎ (length k < 24) → number 10 (eqb (length z) 96) (leb 24 (length m) && leb 24 (length k)) c ≡ 10
      short_no c l (inl h) = rw (eq-eqb (length z) 96 l, lt-leb 24 (length m) h)
      short_no c l (inr h) = rw (eq-eqb (length z) 96 l, lt-leb 24 (length k) h, and-false (leb 24 (length m)))

-- ---- a response

module _ (z request response : Bytes) where
  abbrev both : List Bytes → List Bytes → ℕ
  both fs gs = number 17 (eqb (length z) 96) (answers fs gs) (same (response_tag gs) (centre_tag z fs))

  response_so : (fs gs : List Bytes) → Built (REQ ∷ []) request REQ fs → Built (RESP ∷ []) response RESP gs → confirm_response z request response ≡ plain (both fs gs)
  unfolding confirm_response
  response_so fs gs b c = rw (built_read REQ request fs b, built_read RESP response gs c)

  -- 0 and 18 are given to an accepted request alone, and with it to an accepted response alone
  asked_zero : (o p : Outcome) → (response_by z o p).no ≡ 0 → answer o ≡ 0
  asked_zero (accepted j fs) p h = refl
  asked_zero (refused n i) p h = h

  answered_zero : (j : Kind) (fs : List Bytes) (p : Outcome) → (response_by z (accepted j fs) p).no ≡ 0 → answer p ≡ 0
  answered_zero j fs (accepted k gs) h = refl
  answered_zero j fs (refused n i) h = h

  asked_tag : (o p : Outcome) → Gives of_loads o → (response_by z o p).no ≡ 18 → answer o ≡ 0
  asked_tag (accepted j fs) p g h = refl
  asked_tag (refused n i) p g h = absurd (rw h at g)

  answered_tag : (j : Kind) (fs : List Bytes) (p : Outcome) → Gives of_loads p → (response_by z (accepted j fs) p).no ≡ 18 → answer p ≡ 0
  answered_tag j fs (accepted k gs) g h = refl
  answered_tag j fs (refused n i) g h = absurd (rw h at g)

  module _ (r : Confirmed) (p : r ≡ confirm_response z request response) where
    abbrev its_no : r.no ≡ (confirm_response z request response).no
    its_no = ap (λ (c : Confirmed). c.no) p

    so : (fs gs : List Bytes) → Built (REQ ∷ []) request REQ fs → Built (RESP ∷ []) response RESP gs → r ≡ plain (both fs gs)
    so fs gs b c = p ∙ response_so fs gs b c

    zero_both : r.no ≡ 0 → (fs gs : List Bytes) × Built (REQ ∷ []) request REQ fs × Built (RESP ∷ []) response RESP gs
    unfolding confirm_response
    zero_both h =
        let (fs, b) = one_zero REQ request (asked_zero (read_of (REQ ∷ []) request) (read_of (RESP ∷ []) response) (sym its_no ∙ h)) in
        let e : (response_by z (accepted REQ fs) (read_of (RESP ∷ []) response)).no ≡ 0 = rw (built_read REQ request fs b) at (sym its_no ∙ h) in
        let (gs, c) = one_zero RESP response (answered_zero REQ fs (read_of (RESP ∷ []) response) e) in
        (fs, gs, b, c)

    tag_both : r.no ≡ 18 → (fs gs : List Bytes) × Built (REQ ∷ []) request REQ fs × Built (RESP ∷ []) response RESP gs
    unfolding confirm_response
    tag_both h =
        let (fs, b) = one_zero REQ request (asked_tag (read_of (REQ ∷ []) request) (read_of (RESP ∷ []) response) (load_given request of_loads tt).0 (sym its_no ∙ h)) in
        let e : (response_by z (accepted REQ fs) (read_of (RESP ∷ []) response)).no ≡ 18 = rw (built_read REQ request fs b) at (sym its_no ∙ h) in
        let (gs, c) = one_zero RESP response (answered_tag REQ fs (read_of (RESP ∷ []) response) (load_given response of_loads tt).1 e) in
        (fs, gs, b, c)

    answered_so : (fs gs : List Bytes) → Built (REQ ∷ []) request REQ fs → Built (RESP ∷ []) response RESP gs → T (eqb (length z) 96) → T (answers fs gs) → Answered z request response fs gs
    answered_so fs gs b c t u =
        let v = and_yes (same (id_kmc fs) (get_or gs 0 []) && same (id_sm fs) (get_or gs 1 [])) (same (tvp fs) (get_or gs 2 [])) u in
        let w = and_yes (same (id_kmc fs) (get_or gs 0 [])) (same (id_sm fs) (get_or gs 1 [])) v.0 in
        record {
          asked = b;
          built = c;
          z_long = eqb→eq (length z) 96 t;
          same_kmc = same→eq (id_kmc fs) (get_or gs 0 []) w.0;
          same_sm = same→eq (id_sm fs) (get_or gs 1 []) w.1;
          same_tvp = same→eq (tvp fs) (get_or gs 2 []) v.1;
        }

    answers_yes : (fs gs : List Bytes) → Answered z request response fs gs → answers fs gs ≡ true
    answers_yes fs gs a =
        rw (
          same_true (id_kmc fs) (get_or gs 0 []) a.same_kmc,
          same_true (id_sm fs) (get_or gs 1 []) a.same_sm,
          same_true (tvp fs) (get_or gs 2 []) a.same_tvp,
        )

    answers_no : (fs gs : List Bytes) → (id_kmc fs ≢ get_or gs 0 []) ⊎ (id_sm fs ≢ get_or gs 1 []) ⊎ (tvp fs ≢ get_or gs 2 []) → answers fs gs ≡ false
    answers_no fs gs (inl n) = rw (same_false (id_kmc fs) (get_or gs 0 []) n)
    answers_no fs gs (inr (inl n)) =
        rw (same_false (id_sm fs) (get_or gs 1 []) n, and-false (same (id_kmc fs) (get_or gs 0 [])))
    answers_no fs gs (inr (inr n)) =
        rw (same_false (tvp fs) (get_or gs 2 []) n) (and-false (same (id_kmc fs) (get_or gs 0 []) && same (id_sm fs) (get_or gs 1 [])))

    answered_no : (fs gs : List Bytes) → Answered z request response fs gs → r.no ≡ cond (same (response_tag gs) (centre_tag z fs)) 0 18
    answered_no fs gs a = no_of (so fs gs a.asked a.built) ∙ rw (eq-eqb (length z) 96 a.z_long, answers_yes fs gs a)

    response_said : ResponseSaid z request response r
    unfolding confirm_response
    response_said = record {
      own_request = λ n i h. p ∙ rw h;
      own_response = λ fs n i b h. p ∙ rw (built_read REQ request fs b, h);
      wrong-z = λ fs gs b c n. so fs gs b c ∙ rw (ne_eqb (length z) 96 n);
      other = λ fs gs b c l n. so fs gs b c ∙ rw (eq-eqb (length z) 96 l, answers_no fs gs n);
      agrees = (
        λ h.
            let (fs, gs, b, c) = zero_both h in
            let (t, u, v) = zero_all 17 (λ e. absurd (omega arith)) (λ e. absurd (omega arith)) (eqb (length z) 96) (answers fs gs) (same (response_tag gs) (centre_tag z fs)) (sym (no_of (so fs gs b c)) ∙ h) in
            (fs, gs, answered_so fs gs b c t u, same→eq (response_tag gs) (centre_tag z fs) v),
        λ (fs, gs, a, e). answered_no fs gs a ∙ rw (same_true (response_tag gs) (centre_tag z fs) e),
      );
      differs = (
        λ h.
            let (fs, gs, b, c) = tag_both h in
            let (t, u, v) = tag_alone 17 (λ e. absurd (omega arith)) (λ e. absurd (omega arith)) (eqb (length z) 96) (answers fs gs) (same (response_tag gs) (centre_tag z fs)) (sym (no_of (so fs gs b c)) ∙ h) in
            (fs, gs, answered_so fs gs b c t u, same_no (response_tag gs) (centre_tag z fs) v),
        λ (fs, gs, a, e). answered_no fs gs a ∙ rw (same_false (response_tag gs) (centre_tag z fs) e),
      );
    }

-- ---- two Zs of the same length

request_z : (z z' request : Bytes) (m k : ℕ) → length z ≡ length z' → SameButTag (says_of (confirm_request z request m k)) (says_of (confirm_request z' request m k))
unfolding confirm_request
request_z z z' request m k l = go (read_of (REQ ∷ []) request)
  where
    go : (o : Outcome) → SameButTag (says_of (request_by z m k o)) (says_of (request_by z' m k o))
    go (accepted j fs) =
        rw (says_so z request m k j fs, says_so z' request m k j fs, l)
        (third 10 (λ e. absurd (omega arith)) (λ e. absurd (omega arith)) (eqb (length z') 96) (leb 24 m && leb 24 k) (same (request_tag fs) (module_tag z fs)) (same (request_tag fs) (module_tag z' fs)))
    go (refused n i) = inl refl

response_z : (z z' request response : Bytes) → length z ≡ length z' → SameButTag (confirm_response z request response) (confirm_response z' request response)
unfolding confirm_response
response_z z z' request response l = go (read_of (REQ ∷ []) request) (read_of (RESP ∷ []) response)
  where
    go : (o p : Outcome) → SameButTag (response_by z o p) (response_by z' o p)
    go (accepted j fs) (accepted k gs) =
        rw l (third 17 (λ e. absurd (omega arith)) (λ e. absurd (omega arith)) (eqb (length z') 96) (answers fs gs) (same (response_tag gs) (centre_tag z fs)) (same (response_tag gs) (centre_tag z' fs)))
    go (accepted j fs) (refused n i) = inl refl
    go (refused n i) p = inl refl

-- ---- the first six fields are what the texts are made of

module _ (fs gs : List Bytes) (h : (i : ℕ) → i < 6 → get_or fs i [] ≡ get_or gs i []) where
  module_tag_so : (z : Bytes) → module_tag z fs ≡ module_tag z gs
  module_tag_so z = rw (h 0 (omega arith), h 1 (omega arith), h 2 (omega arith), h 3 (omega arith), h 4 (omega arith), h 5 (omega arith))

  response_by_so : (z : Bytes) (j : Kind) (o : Outcome) → response_by z (accepted j fs) o ≡ response_by z (accepted j gs) o
  response_by_so z j (accepted k ks) = rw (h 0 (omega arith), h 1 (omega arith), h 2 (omega arith), h 5 (omega arith))
  response_by_so z j (refused n i) = refl

other_tag : (z request request' response : Bytes) (fs fs' : List Bytes) → Built (REQ ∷ []) request REQ fs → Built (REQ ∷ []) request' REQ fs' → take 6 fs ≡ take 6 fs'
    → confirm_response z request response ≡ confirm_response z request' response
unfolding confirm_response
other_tag z request request' response fs fs' b c e =
    rw (built_read REQ request fs b, built_read REQ request' fs' c)
    (response_by_so fs fs' (λ i l. sym (get_or-take 6 fs i [] l) ∙ ap (λ (x : List Bytes). get_or x i []) e ∙ get_or-take 6 fs' i [] l) z REQ (read_of (RESP ∷ []) response))

-- ---- a request that has the right tag

fit_set : (ts : List Field) (fs : List Bytes) (j : ℕ) (t : Bytes) → FitAll IsIdentity ts fs → Fits IsIdentity (get_or ts j (Text Ident)) t → FitAll IsIdentity ts (set fs j t)
unfolding FitAll
fit_set [] [] j t h f = tt
fit_set [] (x ∷ fs) j t h f = absurd h
fit_set (s ∷ ts) [] j t h f = absurd h
fit_set (s ∷ ts) (x ∷ fs) zero t h f = (f, h.1)
fit_set (s ∷ ts) (x ∷ fs) (suc j) t h f = (h.0, fit_set ts fs j t h.1 f)

is-mac : (k text : Bytes) → T (is_mac (base16 (hmac k text)))
is-mac k text = base16_hex 48 (hmac k text) (tag_bytes k text) (omega (arith, tag_size k text))

module _ (z : Bytes) (fs : List Bytes) (p : Permitted REQ fs) where
  abbrev right : List Bytes
  right = set fs 6 (module_tag z fs)

  right_fit : FitAll IsIdentity (fields_of REQ) right
  unfolding Fits
  right_fit = fit_set (fields_of REQ) fs 6 (module_tag z fs) p.fit (is-mac (mac_key z fs) (lv_concat (module_items fs)))

  right_built : Built (REQ ∷ []) (record_of REQ right) REQ right
  right_built = record {
    of-kind = tt;
    permitted = record {
      fit = right_fit;
      both = tt;
      attributes = tt;
      signs = tt;
      short = le→leb (length (record_of REQ right)) 1024 (le_trans (record_short IsIdentity identity_tame REQ right tt right_fit) (lit≤ tt));
    };
    built = refl;
  }

  right_tag : request_tag right ≡ module_tag z right
  right_tag =
      let l = fit_length IsIdentity (fields_of REQ) fs p.fit in
      get_or-set_same fs 6 (module_tag z fs) [] (omega (arith, l))
      ∙ module_tag_so fs right (λ i h. sym (get_or-set_other fs 6 i (module_tag z fs) [] (λ e. absurd (omega arith)))) z

  confirmed : (m k : ℕ) → length z ≡ 96 → 24 ≤ m → 24 ≤ k → says_of (confirm_request z (record_of REQ right) m k) ≡ plain 0
  confirmed m k l hm hk =
      request_so z (record_of REQ right) m k right right_built
      ∙ ap plain (rw (eq-eqb (length z) 96 l, le-leb 24 m hm, le-leb 24 k hk, same_true (request_tag right) (module_tag z right) right_tag))

  -- and its response

  abbrev its_response : List Bytes
  its_response = id_kmc fs ∷ id_sm fs ∷ tvp fs ∷ centre_tag z fs ∷ []

  response_fit : FitAll IsIdentity (fields_of RESP) its_response
  unfolding FitAll Fits
  response_fit =
      let at : (j : ℕ) → j < 7 → Fits IsIdentity (get_or (fields_of REQ) j (Text Ident)) (get_or fs j []) = λ j h. fit_at IsIdentity (fields_of REQ) fs p.fit j h in
      (at 1 (omega arith), (at 0 (omega arith), (at 2 (omega arith), (is-mac (mac_key z fs) (lv_concat (centre_items fs)), tt))))

  request_built : Built (REQ ∷ []) (record_of REQ fs) REQ fs
  request_built = record { of-kind = tt; permitted = p; built = refl }

  response_built : Built (RESP ∷ []) (record_of RESP its_response) RESP its_response
  response_built = record {
    of-kind = tt;
    permitted = record {
      fit = response_fit;
      both = tt;
      attributes = tt;
      signs = tt;
      short = le→leb (length (record_of RESP its_response)) 1024 (le_trans (record_short IsIdentity identity_tame RESP its_response tt response_fit) (lit≤ tt));
    };
    built = refl;
  }

  answered : length z ≡ 96 → confirm_response z (record_of REQ fs) (record_of RESP its_response) ≡ plain 0
  answered l =
      response_so z (record_of REQ fs) (record_of RESP its_response) fs its_response request_built response_built
      ∙ ap plain (rw (eq-eqb (length z) 96 l, same_true (id_kmc fs) (id_kmc fs) refl, same_true (id_sm fs) (id_sm fs) refl, same_true (tvp fs) (tvp fs) refl, same_true (centre_tag z fs) (centre_tag z fs) refl))

-- ---- HMAC in slices

slices : (x : Bytes) (ms : List Bytes) → ended (added_all (added begun x) ms) ≡ sha384 (x ++ together ms)
unfolding states.added_all together
slices x ms = ended_all (x ∷ ms)

in_slices : (k : Bytes) (ms : List Bytes) → hmac_ended k (added_all (hmac_begun k) ms) ≡ hmac k (together ms)
unfolding hmac_begun hmac_ended hmac mac
in_slices k ms = rw (slices (mixed ipad k) ms)

halves : (z : Bytes) (fs : List Bytes) → mac_key z fs ++ kek z fs ≡ sha384 (z ++ (0 ∷ 0 ∷ 0 ∷ 1 ∷ []) ++ lv_concat (shared_items fs))
unfolding kdf
halves z fs = take-append-drop 24 (derived z fs)

pub confirmations : Confirmations
confirmations = record {
  hmac-of = λ κs a r s p. p;
  in_slices = in_slices;
  size = tag_size;
  are_bytes = tag_bytes;
  keys = halves;
  key_sizes = key_sizes;
  requests = λ κs a r s p. request_said _ _ _ _ _ _ r p;
  responses = λ κs a r s p. response_said _ _ _ r p;
  request_z = request_z;
  response_z = response_z;
  other_tag = other_tag;
  confirmed = λ z fs m k p. confirmed z fs p m k;
  answered = λ z fs p. answered z fs p;
}
