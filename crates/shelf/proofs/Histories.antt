-- After any list of calls the lent bytes are a cabinet whose look-ups and whose number of records are what the accepted calls say.
-- Assumes nothing.
use Prim.Native.Nat.{ℕ, zero, suc, ◌+◌, ◌*◌}
use mathlib.Core.Path.{◌≡◌, refl, sym, ap, ap₂, ◌∙◌, subst}
use mathlib.Core.Logic.{◌≢◌}
use mathlib.Core.Bool.{Bool, true, false, cond, true≢false}
use mathlib.Core.Option.{Option, none, some}
use mathlib.Core.List.{List, [], ◌∷◌, ◌++◌}
use native.Mathlib.Omega.{arith}
use native.Mathlib.Nat.{suc-mul, zero-mul, add_comm}
use lib.ListN.{length, replicate, length-replicate, replicate-append-replicate}
use lib.Dec.{T, eqb, eqb_refl}
use mir.Facts.{no_eqb}
use Rattle.text.specs.Text.{Bytes}
use Rattle.text.specs.Seconds.{start}
use Rattle.text.specs.Later.{later}
use Rattle.text.proofs.Tests.{T_true, T_false, by_test, cond_yes, cond_no}
use Rattle.shelf.specs.Places.{Names, same_names, Held, Place, free, held, is_free, holds, lookup, change, occupied, any_free, distinct}
use Rattle.shelf.specs.Cabinet.{places, width, Reading, about, declined, asks, reads, requests, zeros, encode, entry, shelf, image, Change, done, refuse, put_at, put_read, remove_at, remove_read, is_old, unless_old, admit_at, admit_read, Result, told, on_places, make_cabinet, put_key, remove_key, admit}
use Rattle.shelf.specs.History.{Event, stored, removed, admitted, nowhere, held_in, text_of, tvp_of, last_put, is_nothing, first_puts, removals, or_start, last_tvp, unless_first, admitted_of, Call, putting, removing, finding, admitting, checking, counting, Moment, put_event, remove_event, admit_event, noted, after_call, run}
use Rattle.shelf.proofs.Places.{names_eq, found-at, lookup_change, lookup_fill, distinct_change, distinct_fill, occupied_fill, occupied_replace, occupied_remove, length_change}
use Rattle.shelf.proofs.Tvps.{start_tvp, later_tvp, Rising, Under, under_none, rising_more}
use Rattle.shelf.proofs.Readings.{goes_in, reads_current, requested, requested_tvp, reads_own, asks_own, requests_own, not_own}
use Rattle.shelf.proofs.Images.{Good, AllGood, Shelved, shelf_image, shelf_some, lookup_good}

-- ---- one accepted call

some_not_none : {o : Option Held} {h : Held} → o ≡ some h → o ≢ none
some_not_none e f = let z : ◌≡◌ {A = ℕ} 0 1 = cc in omega arith

good_change : (t : Place → Bool) (q : Place) (ps : List Place) → Good q → AllGood ps → AllGood (change t q ps)
good_change t q [] g a = tt
good_change t q (p ∷ ps) g a =
    by_test (t p)
    (λ u. rw (cond_yes (t p) (q ∷ ps) (p ∷ change t q ps) u) (g, a.1))
    (λ u. rw (cond_no (t p) (q ∷ ps) (p ∷ change t q ps) u) (a.0, good_change t q ps g a.1))

-- what is not old is what is there
pub not_old : (o : Option Held) (h : Held) → unless_old o ≡ some h → (o ≡ some h) × (is_old h.text ≡ false)
not_old none h e = let z : ◌≡◌ {A = ℕ} 0 1 = cc in absurd (omega arith)
not_old (some g) h e =
    by_test (is_old g.text)
    (λ t.
    let f : none ≡ some h = sym (cond_yes (is_old g.text) none (some g) t) ∙ e in
    let z : ◌≡◌ {A = ℕ} 0 1 = cc in absurd (omega arith))
    (λ t.
    let f : some g ≡ some h = sym (cond_no (is_old g.text) none (some g) t) ∙ e in
    let same : g ≡ h = cc in
    (f, ap (λ (x : Held). is_old x.text) (sym same) ∙ T_false (is_old g.text) t))

of_cond : (f : Option Held → Option Bytes) (b : Bool) (x y : Option Held) → f (cond b x y) ≡ cond b (f x) (f y)
of_cond f true x y = refl
of_cond f false x y = refl

-- what is put is not old, and a request is admitted with a TVP that is later than the one which is there
abbrev pub Allowed : List Place → Event → Type 0
Allowed ps (stored k r) = is_old r ≡ false
Allowed ps (removed k) = Unit {0}
Allowed ps (admitted k t) = (u : Bytes) × (tvp_of (held_in ps k) ≡ some u) × (later t u ≡ true)

-- the places ps become qs by the event
pub record Moves (ps qs : List Place) (e : Event) : Type 0 where
  pub shelved : Shelved qs
  pub looks : (l : Names) → text_of (held_in qs l) ≡ last_put (held_in ps) l (e ∷ [])
  pub tvps : (l : Names) → tvp_of (held_in qs l) ≡ last_tvp (held_in ps) l (e ∷ [])
  pub counts : occupied qs + removals (e ∷ []) ≡ occupied ps + first_puts (held_in ps) (e ∷ [])
  pub allowed : Allowed ps e

-- what a change says of the places, where the call is to make the event v
abbrev pub Does : List Place → Option Event → Change → Type 0
Does ps v (done qs) = (e : Event) × (v ≡ some e) × Moves ps qs e
Does ps v (refuse n i) = n ≢ 0

module _ (ps : List Place) (S : Shelved ps) where
  first_put : (k : Names) (g r : Bytes) → reads r ≡ about k g → lookup k ps ≡ none → T (any_free ps) → Moves ps (change is_free (entry k g r start) ps) (stored k r)
  first_put k g r a e f =
      let h : Held = record { names = k; gnt = g; text = r; tvp = start } in
      record {
        shelved = record {
          good = good_change is_free (held h) ps (goes_in r k g a, start_tvp) S.good;
          apart = distinct_fill h ps S.apart e f;
          number = length_change is_free (held h) ps ∙ S.number;
        };
        looks = λ l. ap text_of (lookup_fill h l ps e f) ∙ of_cond text_of (same_names l k) (some h) (lookup l ps);
        tvps = λ l. ap tvp_of (lookup_fill h l ps e f) ∙ of_cond tvp_of (same_names l k) (some h) (lookup l ps) ∙ rw e;
        counts = rw e (omega (arith, occupied_fill h ps f));
        allowed = reads_current r k g a;
      }

  replacement : (k : Names) (g r : Bytes) (h : Held) → reads r ≡ about k g → lookup k ps ≡ some h → Moves ps (change (holds k) (entry k g r h.tvp) ps) (stored k r)
  replacement k g r h a e =
      let q : Held = record { names = k; gnt = g; text = r; tvp = h.tvp } in
      record {
        shelved = record {
          good = good_change (holds k) (held q) ps (goes_in r k g a, (lookup_good k ps h S.good e).1) S.good;
          apart = distinct_change k (held q) refl ps S.apart (some_not_none e);
          number = length_change (holds k) (held q) ps ∙ S.number;
        };
        looks = λ l. ap text_of (lookup_change k (held q) refl l ps S.apart (some_not_none e)) ∙ of_cond text_of (same_names l k) (some q) (lookup l ps);
        tvps = λ l. ap tvp_of (lookup_change k (held q) refl l ps S.apart (some_not_none e)) ∙ of_cond tvp_of (same_names l k) (some q) (lookup l ps) ∙ rw e;
        counts = rw e (omega (arith, occupied_replace k q ps));
        allowed = reads_current r k g a;
      }

  put-at : (k : Names) (g r : Bytes) → reads r ≡ about k g → (o : Option Held) → lookup k ps ≡ o → Does ps (some (stored k r)) (put_at k g r ps o)
  unfolding put_at
  put-at k g r a none e =
      by_test (any_free ps)
      (λ t. rw (T_true (any_free ps) t) (stored k r, refl, first_put k g r a e t))
      (λ t. rw (T_false (any_free ps) t) (omega arith))
  put-at k g r a (some h) e =
      by_test (later g h.gnt)
      (λ t. rw (T_true (later g h.gnt) t) (stored k r, refl, replacement k g r h a e))
      (λ t. rw (T_false (later g h.gnt) t) (omega arith))

  pub put_does : (r : Bytes) (x : Reading) → reads r ≡ x → Does ps (put_event r x) (put_read r ps x)
  put_does r (declined n i) a = not_own n 0 (reads_own r n i a).1 tt
  put_does r (about k g) a = put-at k g r a (lookup k ps) refl

  removal : (k : Names) (h : Held) → lookup k ps ≡ some h → Moves ps (change (holds k) free ps) (removed k)
  removal k h e = record {
    shelved = record {
      good = good_change (holds k) free ps tt S.good;
      apart = distinct_change k free tt ps S.apart (some_not_none e);
      number = length_change (holds k) free ps ∙ S.number;
    };
    looks = λ l. ap text_of (lookup_change k free tt l ps S.apart (some_not_none e)) ∙ of_cond text_of (same_names l k) none (lookup l ps);
    tvps = λ l. ap tvp_of (lookup_change k free tt l ps S.apart (some_not_none e)) ∙ of_cond tvp_of (same_names l k) none (lookup l ps);
    counts = omega (arith, occupied_remove k ps (some_not_none e));
    allowed = tt;
  }

  remove-at : (k : Names) (o : Option Held) → lookup k ps ≡ o → Does ps (some (removed k)) (remove_at k ps o)
  unfolding remove_at
  remove-at k none e = omega arith
  remove-at k (some h) e = (removed k, refl, removal k h e)

  pub remove_does : (i : Bytes) (x : Reading) → asks i ≡ x → Does ps (remove_event x) (remove_read ps x)
  remove_does i (declined n j) a = not_own n 0 (asks_own i n j a).1 tt
  remove_does i (about k g) a = remove-at k (lookup k ps) refl

  -- a TVP takes the place of the one before it, and nothing else changes
  admission : (q : Bytes) (k : Names) (t : Bytes) (h : Held) → requests q ≡ about k t → lookup k ps ≡ some h → later t h.tvp ≡ true
      → Moves ps (change (holds k) (entry h.names h.gnt h.text t) ps) (admitted k t)
  admission q k t h a e l =
      let p : Held = record { names = h.names; gnt = h.gnt; text = h.text; tvp = t } in
      let g = lookup_good k ps h S.good e in
      let o : h.names ≡ k = (found-at k ps h e).3 in
      record {
        shelved = record {
          good = good_change (holds k) (held p) ps (g.0, later_tvp t h.tvp (requested_tvp (requested q k t a)) g.1 l) S.good;
          apart = distinct_change k (held p) o ps S.apart (some_not_none e);
          number = length_change (holds k) (held p) ps ∙ S.number;
        };
        looks = λ n. ap text_of (lookup_change k (held p) o n ps S.apart (some_not_none e)) ∙ of_cond text_of (same_names n k) (some p) (lookup n ps) ∙ its n;
        tvps = λ n. ap tvp_of (lookup_change k (held p) o n ps S.apart (some_not_none e)) ∙ of_cond tvp_of (same_names n k) (some p) (lookup n ps);
        counts = omega (arith, occupied_replace k p ps);
        allowed = (h.tvp, rw e, l);
      }
    where
      -- its text is the one that was there
      its : (n : Names) → cond (same_names n k) (some h.text) (text_of (lookup n ps)) ≡ text_of (lookup n ps)
      its n =
          by_test (same_names n k)
          (λ u. cond_yes (same_names n k) (some h.text) (text_of (lookup n ps)) u ∙ sym (ap text_of (ap (λ (x : Names). lookup x ps) (names_eq n k u) ∙ e)))
          (λ u. cond_no (same_names n k) (some h.text) (text_of (lookup n ps)) u)

  admit-at : (q : Bytes) (k : Names) (t : Bytes) → requests q ≡ about k t → (o : Option Held) → unless_old (lookup k ps) ≡ o → Does ps (some (admitted k t)) (admit_at k t ps o)
  unfolding admit_at
  admit-at q k t a none e = omega arith
  admit-at q k t a (some h) e =
      by_test (later t h.tvp)
      (λ u. rw (T_true (later t h.tvp) u) (admitted k t, refl, admission q k t h a (not_old (lookup k ps) h e).0 (T_true (later t h.tvp) u)))
      (λ u. rw (T_false (later t h.tvp) u) (omega arith))

  pub admit_does : (q : Bytes) (x : Reading) → requests q ≡ x → Does ps (admit_event x) (admit_read ps x)
  admit_does q (declined n i) a = not_own n 0 (requests_own q n i a).1 tt
  admit_does q (about k t) a = admit-at q k t a (unless_old (lookup k ps)) refl

-- ---- any list of calls

-- `before` says what was there, of so many records
module _ (before : Names → Option Held) (many : ℕ) where
  -- the lent bytes are a cabinet, its look-ups are what the accepted calls say, and its number of records too; the TVPs that were admitted rise, and an old record was there
  -- before
  pub record Kept (m : Moment) : Type 0 where
    pub its_places : List Place
    pub shelved : Shelved its_places
    pub bytes_are : m.bytes ≡ image its_places
    pub looks : (k : Names) → text_of (held_in its_places k) ≡ last_put before k m.events
    pub tvps : (k : Names) → tvp_of (held_in its_places k) ≡ last_tvp before k m.events
    pub counts : occupied its_places + removals m.events ≡ many + first_puts before m.events
    pub rises : (k : Names) → Rising (admitted_of before k m.events) × Under (last_tvp before k m.events) (admitted_of before k m.events)
    pub olds : (k : Names) (r : Bytes) → last_put before k m.events ≡ some r → is_old r ≡ true → text_of (before k) ≡ some r

  module _ (m : Moment) (H : Kept m) where
    abbrev es : List Event
    es = m.events

    abbrev ps : List Place
    ps = H.its_places

    -- one event after those of m
    last-put : (e : Event) (k : Names) → last_put (held_in ps) k (e ∷ []) ≡ last_put before k (e ∷ es)
    last-put (stored l r) k = ap (λ (o : Option Bytes). cond (same_names k l) (some r) o) (H.looks k)
    last-put (removed l) k = ap (λ (o : Option Bytes). cond (same_names k l) none o) (H.looks k)
    last-put (admitted l t) k = H.looks k

    last-tvp : (e : Event) (k : Names) → last_tvp (held_in ps) k (e ∷ []) ≡ last_tvp before k (e ∷ es)
    last-tvp (stored l r) k = ap₂ (λ (o p : Option Bytes). cond (same_names k l) (some (or_start o)) p) (H.tvps l) (H.tvps k)
    last-tvp (removed l) k = ap (λ (o : Option Bytes). cond (same_names k l) none o) (H.tvps k)
    last-tvp (admitted l t) k = ap (λ (o : Option Bytes). cond (same_names k l) (some t) o) (H.tvps k)

    counted : (e : Event) (qs : List Place) → occupied qs + removals (e ∷ []) ≡ occupied ps + first_puts (held_in ps) (e ∷ []) → occupied qs + removals (e ∷ es) ≡ many + first_puts before (e ∷ es)
    counted (stored l r) qs a = let b = ap (λ (o : Option Bytes). cond {A = ℕ} (is_nothing o) 1 0) (H.looks l) in omega (arith, H.counts)
    counted (removed l) qs a = omega (arith, H.counts)
    counted (admitted l t) qs a = omega (arith, H.counts)

    -- a first put begins anew, a replacement goes on
    stored_rises : (o : Option Held) (x y : Option Bytes) (ts : List Bytes) → text_of o ≡ x → tvp_of o ≡ y → Rising ts × Under y ts
        → Rising (unless_first x ts) × Under (some (or_start y)) (unless_first x ts)
    stored_rises none x y ts e f r = rw (← e, ← f) (tt, λ t h. tt)
    stored_rises (some h) x y ts e f r = rw (← e, ← f) (r.0, rw (← f) at r.1)

    go_on : (e : Event) → Allowed ps e → (k : Names) → Rising (admitted_of before k (e ∷ es)) × Under (last_tvp before k (e ∷ es)) (admitted_of before k (e ∷ es))
    go_on (stored l r) a k =
        by_test (same_names k l)
        (λ u. rw (T_true (same_names k l) u) (stored_rises (held_in ps l) (last_put before l es) (last_tvp before l es) (admitted_of before l es) (H.looks l) (H.tvps l) (H.rises l)))
        (λ u. rw (T_false (same_names k l) u) (H.rises k))
    go_on (removed l) a k = by_test (same_names k l) (λ u. rw (T_true (same_names k l) u) ((H.rises k).0, tt)) (λ u. rw (T_false (same_names k l) u) (H.rises k))
    go_on (admitted l t) (v, e, h) k =
        by_test (same_names k l)
        (λ u. rw (T_true (same_names k l) u) (rising_more t v (last_tvp before l es) (admitted_of before l es) (sym (H.tvps l) ∙ e) h (H.rises l)))
        (λ u. rw (T_false (same_names k l) u) (H.rises k))

    -- no call puts an old record in
    still_old : (e : Event) → Allowed ps e → (k : Names) (r : Bytes) → last_put before k (e ∷ es) ≡ some r → is_old r ≡ true → text_of (before k) ≡ some r
    still_old (stored l q) a k r f o =
        by_test (same_names k l)
        (λ u.
        let g : some q ≡ some r = sym (cond_yes (same_names k l) (some q) (last_put before k es) u) ∙ f in
        let same : q ≡ r = cc in absurd (true≢false (sym o ∙ ap is_old (sym same) ∙ a)))
        (λ u. H.olds k r (sym (cond_no (same_names k l) (some q) (last_put before k es) u) ∙ f) o)
    still_old (removed l) a k r f o =
        by_test (same_names k l)
        (λ u.
        let g : none ≡ some r = sym (cond_yes (same_names k l) none (last_put before k es) u) ∙ f in
        let z : ◌≡◌ {A = ℕ} 0 1 = cc in absurd (omega arith))
        (λ u. H.olds k r (sym (cond_no (same_names k l) none (last_put before k es) u) ∙ f) o)
    still_old (admitted l t) a k r f o = H.olds k r f o

    kept_moves : (qs : List Place) (e : Event) → Moves ps qs e → Kept (record { bytes = image qs; events = e ∷ es })
    kept_moves qs e M =
        record {
          its_places = qs;
          shelved = M.shelved;
          bytes_are = refl;
          looks = λ k. M.looks k ∙ last-put e k;
          tvps = λ k. M.tvps k ∙ last-tvp e k;
          counts = counted e qs M.counts;
          rises = go_on e M.allowed;
          olds = still_old e M.allowed;
        }

  kept_call : (m : Moment) → Kept m → (v : Option Event) (f : List Place → Change) → ((ps : List Place) → Shelved ps → Does ps v (f ps))
      → Kept (noted v (on_places f m.bytes (shelf m.bytes)) m.events)
  kept_call m H v f d = rw here (go (f H.its_places) (d H.its_places H.shelved))
    where
      here : shelf m.bytes ≡ some H.its_places
      here = ap shelf H.bytes_are ∙ shelf_image H.its_places H.shelved

      go : (o : Change) → Does H.its_places v o → Kept (noted v (told m.bytes o) m.events)
      go (done qs) (e, ev, M) = rw ev (kept_moves m H qs e M)
      go (refuse n i) w = rw (T_false (eqb n 0) (no_eqb w)) H

  kept_after : (c : Call) (m : Moment) → Kept m → Kept (after_call c m)
  unfolding after_call put_key remove_key admit
  kept_after (putting r) m H = kept_call m H (put_event r (reads r)) (λ ps. put_read r ps (reads r)) (λ ps S. put_does ps S r (reads r) refl)
  kept_after (removing i) m H = kept_call m H (remove_event (asks i)) (λ ps. remove_read ps (asks i)) (λ ps S. remove_does ps S i (asks i) refl)
  kept_after (finding i) m H = H
  kept_after (admitting q) m H = kept_call m H (admit_event (requests q)) (λ ps. admit_read ps (requests q)) (λ ps S. admit_does ps S q (requests q) refl)
  kept_after checking m H = H
  kept_after counting m H = H

  pub kept_run : (cs : List Call) (m : Moment) → Kept m → Kept (run cs m)
  unfolding run
  kept_run [] m H = H
  kept_run (c ∷ cs) m H = kept_run cs (after_call c m) (kept_after c m H)

-- ---- from an empty cabinet

pub lookup_empty : (n : ℕ) (k : Names) → lookup k (replicate n free) ≡ none
lookup_empty zero k = refl
lookup_empty (suc n) k = lookup_empty n k

pub occupied_empty : (n : ℕ) → occupied (replicate n free) ≡ 0
occupied_empty zero = refl
occupied_empty (suc n) = let h = occupied_empty n in omega arith

distinct_empty : (n : ℕ) → T (distinct (replicate n free))
distinct_empty zero = tt
distinct_empty (suc n) = distinct_empty n

pub good_empty : (n : ℕ) → AllGood (replicate n free)
good_empty zero = tt
good_empty (suc n) = (tt, good_empty n)

image_empty : (n : ℕ) → image (replicate n free) ≡ zeros (n * width)
unfolding encode
image_empty zero = sym (ap zeros (zero-mul width))
image_empty (suc n) =
    ap (λ (x : Bytes). zeros width ++ x) (image_empty n)
    ∙ replicate-append-replicate width (n * width) 0
    ∙ ap zeros (add_comm width (n * width) ∙ sym (suc-mul n width))

pub shelved_empty : Shelved (replicate places free)
shelved_empty = record { good = good_empty places; apart = distinct_empty places; number = length-replicate places free }

pub shelf_empty : shelf (zeros (places * width)) ≡ some (replicate places free)
shelf_empty = ap shelf (sym (image_empty places)) ∙ shelf_image (replicate places free) shelved_empty

pub made : (s : Bytes) → length s ≡ places * width → make_cabinet s ≡ record { no = 0; field = 0; bytes = image (replicate places free) }
unfolding make_cabinet
made s e =
    cond_yes (eqb (length s) (places * width)) _ _ (subst (λ (x : ℕ). T (eqb (length s) x)) e (eqb_refl (length s)))
    ∙ ap (λ (x : Bytes). record { no = 0; field = 0; bytes = x }) (sym (image_empty places))

pub since_made : (s : Bytes) → length s ≡ places * width → (cs : List Call) → Kept nowhere 0 (run cs (record { bytes = (make_cabinet s).bytes; events = [] }))
since_made s e cs =
    kept_run nowhere 0 cs _
    (record {
      its_places = replicate places free;
      shelved = shelved_empty;
      bytes_are = ap (λ (x : Result). x.bytes) (made s e);
      looks = λ k. ap text_of (lookup_empty places k);
      tvps = λ k. ap tvp_of (lookup_empty places k);
      counts = omega (arith, occupied_empty places);
      rises = λ k. (tt, tt);
      olds = λ k r f o. f;
    })

-- ---- and from any image that is a cabinet

pub since_image : (s : Bytes) (ps : List Place) → shelf s ≡ some ps → (cs : List Call) → Kept (held_in ps) (occupied ps) (run cs (record { bytes = s; events = [] }))
since_image s ps e cs =
    let h = shelf_some s ps e in
    kept_run (held_in ps) (occupied ps) cs _
    (record {
      its_places = ps;
      shelved = h.1;
      bytes_are = sym h.0;
      looks = λ k. refl;
      tvps = λ k. refl;
      counts = omega arith;
      rises = λ k. (tt, under_none (tvp_of (held_in ps k)));
      olds = λ k r f o. f;
    })
