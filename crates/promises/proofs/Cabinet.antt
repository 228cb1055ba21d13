-- The promises about the key cabinet, from the laws of shelf and cabinet.
-- Assumes nothing.
use Prim.Native.Nat.{ℕ, zero, suc, ◌+◌, ◌-◌, ◌*◌, ◌<◌}
use mathlib.Core.Path.{◌≡◌, refl, sym, ap, ap₂, ◌∙◌, subst}
use mathlib.Core.Logic.{◌↔◌, ◌⊎◌, inl, inr, ⊎_elim, ◌≢◌}
use mathlib.Core.Bool.{Bool, true, false, not, cond, true≢false}
use mathlib.Core.Option.{Option, none, some}
use mathlib.Core.List.{List, [], ◌∷◌, ◌++◌}
use native.Mathlib.Omega.{arith}
use lib.ListN.{length, get_or, replicate, length-replicate}
use lib.Dec.{T, eqb, eqb→eq}
use lib.IntN.{ℤ}
use mir.Facts.{T_not, yes_eqb}
use borrow.Author.Tests.{eq-eqb, ne_eqb}
use Rattle.text.specs.Text.{Bytes, one_of}
use Rattle.text.specs.Seconds.{start, seconds_bytes}
use Rattle.text.specs.Later.{later}
use Rattle.text.proofs.Tests.{T_true, T_false, by_test, cond_yes}
use Rattle.text.proofs.Types.{timestamp_length}
use Rattle.text.proofs.Later.{later_itself}
use Rattle.numbers.specs.Numbers.{not_cabinet, not_later, no_place, not_there, tvp_not_later}
use Rattle.format.specs.Kinds.{Kind, SMID, name, pubkey_kinds}
use Rattle.format.specs.Read.{accepted, refused, read_identity, read_of}
use Rattle.format.specs.declared.Rules.{Rules}
use Rattle.format.specs.declared.Rules.TheVariants.{UpToE10, Today}
use Rattle.format.proofs.Table.{name_inj}
use Rattle.fields.specs.declared.Place.{Place}
use Rattle.subjects.specs.Subjects.{manufacturer, mid, gnt}
use Rattle.subjects.specs.Keys.{KeyUnder, Key, gnt_of}
use Rattle.subjects.specs.Requests.{Request}
use Rattle.subjects.proofs.Keys.{earlier_key}
use Rattle.subjects.proofs.Requests.{request_tvp}
use Rattle.expiry.proofs.Expiries.{expiry_seconds}
use Rattle.shelf.specs.Places as shelves
use Rattle.shelf.specs.Places.{Names, named, same_names, Held, free, held, is_free, holds, lookup, lowest, occupied, distinct, others}
use Rattle.shelf.specs.Cabinet.{places, width, tvp_at, number_of, about, asks, reads_under, stands, reads, requests, encode, entry, is_old, unless_old, is_tvp, decode, shelf, image, Result, leaving, Finding, nothing, found_at, make_cabinet, put_key, remove_key, admit, find_key, count_in, count_keys, check_cabinet}
use Rattle.shelf.specs.History.{nowhere, held_in, text_of, tvp_of, last_put, removals, last_tvp, admitted_of, Call, putting, removing, finding, admitting, checking, counting, Moment, put_event, remove_event, admit_event, onto, noted, after_call, run}
use Rattle.shelf.proofs.Places.{names_refl, found-at, Once, distinct_once, once_distinct, lookup_at, lowest_there, lowest_free_at}
use Rattle.shelf.proofs.Tvps.{start_tvp, tvp_parts, parts_tvp, AllEarlier, Under, rising_at, rising_apart, earlier_at}
use Rattle.shelf.proofs.Readings.{asks_accepted, asks_refused, asked, reads_accepted, reads_refused, held_of, key_current, current_key, requests_accepted, requests_refused, requested}
use Rattle.shelf.proofs.Images.{Good, AllGood, lookup_good, decode_encode, shelf_image, shelf_some}
use Rattle.shelf.proofs.Stores.{stored_at, put_23, put_own, put_later, put_first, remove_23, remove_own, remove_some, admit_23, admit_own, admit_none, admit_later, admit_not_later, find_23, find_own, find_some, find_none}
use Rattle.shelf.proofs.Histories.{not_old, Kept, kept_run, good_empty, shelved_empty, lookup_empty, occupied_empty, shelf_empty, since_made, since_image}
use Rattle.shelf.proofs.Numbers.{others_all, all_others_so, put_numbers, find_numbers, admit_numbers, put_leaves, remove_leaves, admit_leaves, find_leaves, put_given, exactly_24, exactly_25, remove_given, find_given, remove_exactly_26, find_exactly_26, admit_given, admit_exactly_26, admit_exactly_27}
use Rattle.cabinet.specs.declared.Filed.{Filed}
use Rattle.cabinet.specs.declared.Counted.{Counted}
use Rattle.cabinet.specs.Cabinet.{Files}
use Rattle.cabinet.specs.Steps.{is_place, is_some, first, all_pass, is_place_at}
use Rattle.cabinet.proofs.Bridge.{first_none}
use Rattle.cabinet.proofs.Bytes.{tvp_alone}
use Rattle.cabinet.proofs.Calls.{dated_so}
use Rattle.cabinet.proofs.Cabinets.{places_are, width_is, Read, its, all_read, read_all, distinct_so, cabinet_so, none_there, some_there}
use Rattle.promises.proofs.Statements.Cabinet.{place_in, first_tvp, IsTvp, place_of, Filled, Old, Share, Shared, IsCabinet, with_place, with_tvp, PutSaid, There, RemoveSaid, Module, AdmitSaid, FindSaid, Step, Ran, Gives, answer_to, Answers, Remembers, begun, Cabinet}
use Rattle.promises.proofs.Statements.Cabinet as said

-- ---- a public key's names, and what a place holds

abbrev names_of : {rules : Rules} {r : Bytes} → KeyUnder rules r → Names
names_of q = named (name q.who) (manufacturer q.names) (mid q.names)

abbrev held_by : {b : Bytes} → Filled b → Held
held_by q = record { names = names_of q.key; gnt = gnt_of q.key; text = q.text; tvp = q.tvp }

share_names : (j k : Kind) (fs gs : List Bytes) → Share j fs k gs ↔ (named (name j) (manufacturer fs) (mid fs) ≡ named (name k) (manufacturer gs) (mid gs))
share_names j k fs gs = (λ (a, b, c). rw (a, b, c), λ e. (name_inj j k cc, cc, cc))

shared_names : {rules others : Rules} {a b : Bytes} (p : KeyUnder rules a) (q : KeyUnder others b) → Shared p q ↔ (names_of p ≡ names_of q)
shared_names p q = share_names p.who q.who p.names q.names

-- what is read from a key is its names and its GNT
key_reads : {rules : Rules} {r : Bytes} (p : KeyUnder rules r) {k : Names} {g : Bytes} → reads_under rules r ≡ about k g → (names_of p ≡ k) × (gnt_of p ≡ g)
key_reads {rules} {r} p e = let f = sym (reads_accepted r p) ∙ e in (cc, cc)

zeros_place : encode free ≡ replicate 1024 0
unfolding encode width
zeros_place = refl

-- the bytes of the place for a key with a TVP, whatever names and GNT are kept beside it
key-place : {r : Bytes} (p : KeyUnder UpToE10 r) (k : Names) (g t : Bytes) → encode (entry k g r t) ≡ place_of p t
unfolding encode tvp_at number_of
key-place {r} p k g t = ap (λ (z : ℤ). ((r ++ replicate (1000 - length r) 0) ++ t) ++ seconds_bytes z) (expiry_seconds p)

filled_encode : {b : Bytes} (q : Filled b) → encode (held (held_by q)) ≡ b
filled_encode q = key-place q.key (names_of q.key) (gnt_of q.key) q.tvp ∙ sym q.so

tvp_so : (t : Bytes) → T (is_tvp t) → IsTvp t
tvp_so t h = let (a, b) = tvp_parts t h in record { stamp = a; from_start = T_false (later start t) b }

so_tvp : {t : Bytes} → IsTvp t → T (is_tvp t)
so_tvp {t} h = parts_tvp t h.stamp (rw h.from_start tt)

filled_good : {b : Bytes} (q : Filled b) → Good (held (held_by q))
filled_good q = (reads_accepted q.text q.key, so_tvp q.is-tvp)

-- ---- bytes whose places are ps

module _ {s : Bytes} {ps : List shelves.Place} (R : Read s ps) (j : ℕ) (l : j < 64) where
  decodes : decode (place_in s j) ≡ some (get_or ps j free)
  decodes = let (e, g) = R.at j l in ap decode (sym e) ∙ decode_encode (get_or ps j free) g

  filled_place : (q : Filled (place_in s j)) → get_or ps j free ≡ held (held_by q)
  filled_place q =
      let e = sym decodes ∙ ap decode (sym (filled_encode q)) ∙ decode_encode (held (held_by q)) (filled_good q) in
      cc

  free_place : place_in s j ≡ replicate 1024 0 → get_or ps j free ≡ free
  free_place f = let e = sym decodes ∙ ap decode (f ∙ sym zeros_place) ∙ decode_encode free tt in cc

  place_filled : (h : Held) → get_or ps j free ≡ held h → (q : Filled (place_in s j)) × (held_by q ≡ h)
  unfolding encode width
  place_filled h e =
      let (b, g) = R.at j l in
      let g' : Good (held h) = subst Good e g in
      let k = (held_of UpToE10 h.text h.names h.gnt g'.0).key in
      let (n, m) = key_reads k g'.0 in (
        record { text = h.text; key = k; tvp = h.tvp; is-tvp = tvp_so h.tvp g'.1; so = sym b ∙ ap encode e ∙ key-place k h.names h.gnt h.tvp },
        ap₂ (λ (x : Names) (y : Bytes). record { names = x; gnt = y; text = h.text; tvp = h.tvp }) n m,
      )

  place_free : get_or ps j free ≡ free → place_in s j ≡ replicate 1024 0
  place_free e = sym (R.at j l).0 ∙ ap encode e ∙ zeros_place

is_cabinet : (s : Bytes) (ps : List shelves.Place) → shelf s ≡ some ps → Read s ps → IsCabinet s
is_cabinet s ps e R =
    record {
      long = R.long;
      each = λ j l. go j l (get_or ps j free) refl;
      apart = λ i j a b p q sh.
          distinct_once ps (shelf_some s ps e).1.apart i j (held_by p) (held_by q) (omega (arith, R.number)) (omega (arith, R.number)) (filled_place R i a p) (filled_place R j b q)
          ((shared_names p.key q.key).0 sh);
    }
  where
    go : (j : ℕ) → j < 64 → (p : shelves.Place) → get_or ps j free ≡ p → (place_in s j ≡ replicate 1024 0) ⊎ Filled (place_in s j)
    go j l free f = inl (place_free R j l f)
    go j l (held h) f = inr (place_filled R j l h f).0

pass_all : (t : ℕ → Bool) → ((i : ℕ) → i < 64 → t i ≡ true) → all_pass t ≡ true
pass_all t h = eq-eqb (first (λ i. not (t i)) 64 0) 64 (first_none (λ i. not (t i)) 64 0 (λ j a b. ap not (h j (omega arith))))

of_cabinet : (s : Bytes) → IsCabinet s → (ps : List shelves.Place) × (shelf s ≡ some ps) × Read s ps
of_cabinet s c = some_there s (read (its s) refl (sym all ∙ all_read s))
  where
    all : all_pass (is_place_at s) ≡ true
    all =
        pass_all (is_place_at s) (λ i l.
        ⊎_elim (λ z. ap is_place (ap decode (z ∙ sym zeros_place) ∙ decode_encode free tt)) (λ q. ap is_place (ap decode (sym (filled_encode q)) ∙ decode_encode (held (held_by q)) (filled_good q))) (c.each i l))

    once : (ps : List shelves.Place) → Read s ps → Once ps
    once ps R i j g h a b x y n =
        let i< : i < 64 = omega (arith, R.number) in
        let j< : j < 64 = omega (arith, R.number) in
        let (p, u) = place_filled R i i< g x in
        let (q, v) = place_filled R j j< h y in
        c.apart i j i< j< p q ((shared_names p.key q.key).1 (ap (λ (z : Held). z.names) u ∙ n ∙ sym (ap (λ (z : Held). z.names) v)))

    read : (o : Option (List shelves.Place)) → its s ≡ o → true ≡ is_some o → true ≡ is_some (shelf s)
    read none e f = let z : ◌≡◌ {A = ℕ} 0 1 = cc in absurd (omega arith)
    read (some ps) e f =
        let R = read_all s ps c.long e in
        sym (distinct_so R ∙ distinct_true ps (once_distinct ps (once ps R))) ∙ cabinet_so s c.long (sym all)
      where
        distinct_true : (qs : List shelves.Place) → T (distinct qs) → distinct qs ≡ true
        distinct_true qs t = T_true (distinct qs) t

-- bytes are one, or none
either : {X : Type 0} (s : Bytes) → ((ps : List shelves.Place) → shelf s ≡ some ps → Read s ps → IsCabinet s → X) → (shelf s ≡ none → (IsCabinet s → ⊥) → X) → X
either {X} s f g = go (is_some (shelf s)) refl
  where
    go : (b : Bool) → is_some (shelf s) ≡ b → X
    go true e = let (ps, q, R) = some_there s (sym e) in f ps q R (is_cabinet s ps q R)
    go false e =
        g (none_there s (sym e)) (λ c. let (ps, q, R) = of_cabinet s c in let z = sym (none_there s (sym e)) ∙ q in let w : ◌≡◌ {A = ℕ} 0 1 = cc in omega arith)

-- ---- 23, and what a refusal leaves

listed : (ns : List ℕ) (n m : ℕ) → T (one_of ns n) → T (not (one_of ns m)) → n ≢ m
listed ns n m t u e = T_not (one_of ns m) (rw e at t) u

exactly_23 : (s : Bytes) (n : ℕ) → (shelf s ≡ none → n ≡ not_cabinet) → ((ps : List shelves.Place) → shelf s ≡ some ps → n ≢ not_cabinet) → (n ≡ not_cabinet) ↔ (IsCabinet s → ⊥)
exactly_23 s n f g = (λ e c. let (ps, q, R) = of_cabinet s c in g ps q e, λ h. either s (λ ps q R c. absurd (h c)) (λ q c. f q))

number-of : {x : Result} {after : Bytes} {r : Filed} → Files x after r → r.no ≡ x.no
number-of w = ap (λ (y : Filed). y.no) w.said

result_so : {x y : Result} {after : Bytes} {r : Filed} → Files x after r → x ≡ y → (r ≡ record { no = y.no; field = y.field }) × (after ≡ y.bytes)
result_so w e = (w.said ∙ ap (λ (z : Result). record { no = z.no; field = z.field }) e, w.left ∙ ap (λ (z : Result). z.bytes) e)

done_so : {x : Result} {after out : Bytes} {r : Filed} → Files x after r → x ≡ record { no = 0; field = 0; bytes = out } → (r.no ≡ 0) × (after ≡ out)
done_so w e = let (a, b) = result_so w e in (ap (λ (y : Filed). y.no) a, b)

-- ---- put

-- the record that shares the three with a key, by its place
module _ {s : Bytes} {ps : List shelves.Place} (e : shelf s ≡ some ps) (R : Read s ps) where
  apart_so : T (distinct ps)
  apart_so = (shelf_some s ps e).1.apart

  -- what is in place j is found, and there
  at_place : (j : ℕ) (l : j < 64) (q : Filled (place_in s j)) (k : Names) → k ≡ names_of q.key → (lookup k ps ≡ some (held_by q)) × (lowest (holds k) ps ≡ j)
  at_place j l q k n =
      let (a, b) = lookup_at j ps (held_by q) apart_so (omega (arith, R.number)) (filled_place R j l q) in
      (ap (λ (x : Names). lookup x ps) n ∙ a, ap (λ (x : Names). lowest (holds x) ps) n ∙ b)

  -- what is found is in a place
  place-of : (k : Names) (h : Held) → lookup k ps ≡ some h → (j : ℕ) × (j < 64) × (q : Filled (place_in s j)) × (held_by q ≡ h) × (k ≡ names_of q.key)
  place-of k h f =
      let (j, l, g, n) = found-at k ps h f in
      let l' : j < 64 = omega (arith, R.number) in
      let (q, u) = place_filled R j l' h g in
      (j, l', q, u, sym (ap (λ (x : Held). x.names) u ∙ n))

  none_found : (k : Names) → ((j : ℕ) → j < 64 → (q : Filled (place_in s j)) → k ≡ names_of q.key → ⊥) → lookup k ps ≡ none
  none_found k f = go (lookup k ps) refl
    where
      go : (o : Option Held) → lookup k ps ≡ o → lookup k ps ≡ none
      go none g = g
      go (some h) g = let (j, l, q, u, n) = place-of k h g in absurd (f j l q n)

stored_place : (s : Bytes) (j : ℕ) {r : Bytes} (p : Key r) (t : Bytes) → stored_at s j (entry (names_of p) (gnt_of p) r t) ≡ with_place s j (place_of p t)
unfolding width
stored_place s j p t = ap (with_place s j) (key-place (earlier_key p) (names_of p) (gnt_of p) t)

emptied_place : (s : Bytes) (j : ℕ) → stored_at s j free ≡ with_place s j (replicate 1024 0)
unfolding encode width
emptied_place s j = refl

put_said : (s r after : Bytes) (x : Filed) → Files (put_key s r) after x → PutSaid s r after x
put_said s r after x w =
    record {
      refuses = record {
        no_cabinet =
            exactly_23 s x.no (λ q. number-of w ∙ ap (λ (y : Result). y.no) (put_23 s r q))
            (λ ps q n. listed put_numbers (put_key s r).no not_cabinet (put_given s r ps q) tt (sym (number-of w) ∙ n));
        untouched = λ n. w.left ∙ put_leaves s r (λ z. n (number-of w ∙ z));
      };
      own = λ c n i e. let (ps, q, R) = of_cabinet s c in (result_so w (put_own s ps q r n i (reads_refused Today r n i e))).0;
      not-later = λ c. let (ps, q, R) = of_cabinet s c in (later_to ps q R, later_from ps q R);
      no_place = λ c. let (ps, q, R) = of_cabinet s c in (place_to ps q R, place-from ps q R);
      replaces = λ c p j l f sh t.
          let (ps, q, R) = of_cabinet s c in
          let (a, b) = at_place q R j l f (names_of p) ((shared_names p f.key).0 sh) in
          done_so w
          (put_later s ps q r (names_of p) (gnt_of p) (reads_accepted r p) (held_by f) a t (lowest_there (names_of p) ps (held_by f) a)
          ∙ ap (λ (y : Bytes). record { no = 0; field = 0; bytes = y }) (ap (λ (i : ℕ). stored_at s i (entry (names_of p) (gnt_of p) r f.tvp)) b ∙ stored_place s j p f.tvp));
      first = λ c p f j l z low.
          let (ps, q, R) = of_cabinet s c in
          let b : lowest is_free ps ≡ j =
          lowest_free_at j ps (omega (arith, R.number)) (free_place R j l z) (λ i m. let i< : i < 64 = omega arith in (held_by (low i m), filled_place R i i< (low i m))) in
          done_so w
          (put_first s ps q r (names_of p) (gnt_of p) (reads_accepted r p) (none_found q R (names_of p) (λ i m g n. f i m g ((shared_names p g.key).1 n))) (omega (arith, b, R.number))
          ∙ ap (λ (y : Bytes). record { no = 0; field = 0; bytes = y }) (ap (λ (i : ℕ). stored_at s i (entry (names_of p) (gnt_of p) r first_tvp)) b ∙ stored_place s j p first_tvp));
    }
  where
    later_to : (ps : List shelves.Place) → shelf s ≡ some ps → Read s ps → x.no ≡ not_later
        → (p : Key r) × (j : ℕ) × (j < 64) × (q : Filled (place_in s j)) × Shared p q.key × (later (gnt_of p) (gnt_of q.key) ≡ false)
    later_to ps e R n =
        let (k, g, h, a, f, t) = (exactly_24 s r ps e).0 (sym (number-of w) ∙ n) in
        let p = (held_of Today r k g a).key in
        let (u, v) = key_reads p a in
        let (j, l, q, o, m) = place-of e R k h f in
        (p, j, l, q, (shared_names p q.key).1 (u ∙ m), ap₂ later v (ap (λ (y : Held). y.gnt) o) ∙ t)

    later_from : (ps : List shelves.Place) → shelf s ≡ some ps → Read s ps
        → (p : Key r) × (j : ℕ) × (j < 64) × (q : Filled (place_in s j)) × Shared p q.key × (later (gnt_of p) (gnt_of q.key) ≡ false) → x.no ≡ not_later
    later_from ps e R (p, j, l, q, sh, t) =
        let (a, b) = at_place e R j l q (names_of p) ((shared_names p q.key).0 sh) in
        number-of w ∙ (exactly_24 s r ps e).1 (names_of p, gnt_of p, held_by q, reads_accepted r p, a, t)

    place_to : (ps : List shelves.Place) → shelf s ≡ some ps → Read s ps → x.no ≡ no_place → (p : Key r) × ((j : ℕ) → j < 64 → (q : Filled (place_in s j)) × (Shared p q.key → ⊥))
    place_to ps e R n =
        let (k, g, a, o) = (exactly_25 s r ps e).0 (sym (number-of w) ∙ n) in
        let p = (held_of Today r k g a).key in
        let (u, v) = key_reads p a in (
          p,
          λ j l.
              let (h, y, d) = others_all k ps (o ∙ places_are ∙ sym R.number) j (omega (arith, R.number)) in
              let (q, z) = place_filled R j l h y in
              (q, λ sh. d (sym u ∙ (shared_names p q.key).0 sh ∙ ap (λ (b : Held). b.names) z)),
        )

    place-from : (ps : List shelves.Place) → shelf s ≡ some ps → Read s ps → (p : Key r) × ((j : ℕ) → j < 64 → (q : Filled (place_in s j)) × (Shared p q.key → ⊥)) → x.no ≡ no_place
    place-from ps e R (p, f) =
        let o : others (names_of p) ps ≡ length ps =
        all_others_so (names_of p) ps (λ j l.
        let l' : j < 64 = omega (arith, R.number) in
        let (q, d) = f j l' in
        (held_by q, filled_place R j l' q, λ n. d ((shared_names p q.key).1 n))) in
        number-of w ∙ (exactly_25 s r ps e).1 (names_of p, gnt_of p, reads_accepted r p, o ∙ R.number ∙ sym places_are)

-- ---- remove and find

abbrev asked_names : Kind → List Bytes → Names
asked_names who fs = named (name who) (manufacturer fs) (mid fs)

-- an accepted identity of which nothing is there, said in two ways
abbrev Nowhere : Bytes → Bytes → Type 0
Nowhere s i = (who : Kind) × (fs : List Bytes) × (read_identity i ≡ accepted who fs) × ((j : ℕ) → There s who fs j → ⊥)

module _ (s i : Bytes) {ps : List shelves.Place} (e : shelf s ≡ some ps) (R : Read s ps) where
  nowhere_so : (k : Names) (g : Bytes) → asks i ≡ about k g → lookup k ps ≡ none → Nowhere s i
  nowhere_so k g a f =
      let q = asked i k g a in (
        q.who,
        q.fields,
        q.known,
        λ j (l, p, sh).
            let n = (share_names q.who p.key.who q.fields p.key.names).0 sh in
            let (b, c) = at_place e R j l p k (q.names_so ∙ n) in
            let z = sym f ∙ b in
            let w : ◌≡◌ {A = ℕ} 0 1 = cc in omega arith,
      )

  nothing_so : (who : Kind) (fs : List Bytes) → ((j : ℕ) → There s who fs j → ⊥) → lookup (asked_names who fs) ps ≡ none
  nothing_so who fs f = none_found e R (asked_names who fs) (λ j l q n. f j (l, q, (share_names who q.key.who fs q.key.names).1 n))

  -- nothing is found of what is there exactly where it is old
  old_there : (who : Kind) (fs : List Bytes) → unless_old (lookup (asked_names who fs) ps) ≡ none → (j : ℕ) (t : There s who fs j) → Old t.1.text
  old_there who fs f j (l, q, sh) key =
      let (b, c) = at_place e R j l q (asked_names who fs) ((share_names who q.key.who fs q.key.names).0 sh) in
      let z : none ≡ some (held_by q) = sym f ∙ ap unless_old b ∙ rw (key_current key) in
      let w : ◌≡◌ {A = ℕ} 0 1 = cc in omega arith

  there_old : (who : Kind) (fs : List Bytes) → ((j : ℕ) (t : There s who fs j) → Old t.1.text) → unless_old (lookup (asked_names who fs) ps) ≡ none
  there_old who fs f = go (lookup (asked_names who fs) ps) refl
    where
      go : (o : Option Held) → lookup (asked_names who fs) ps ≡ o → unless_old o ≡ none
      go none g = refl
      go (some h) g =
          let (j, l, q, u, n) = place-of e R (asked_names who fs) h g in
          let gone = f j (l, q, (share_names who q.key.who fs q.key.names).1 n) in
          by_test (is_old h.text)
          (λ t. cond_yes (is_old h.text) none (some h) t)
          (λ t. absurd (gone (current_key q.text (ap (λ (x : Held). is_old x.text) u ∙ T_false (is_old h.text) t))))

  there_so : (who : Kind) (fs : List Bytes) (j : ℕ) (t : There s who fs j) → (lookup (asked_names who fs) ps ≡ some (held_by t.1)) × (lowest (holds (asked_names who fs)) ps ≡ j)
  there_so who fs j (l, q, sh) = at_place e R j l q (asked_names who fs) ((share_names who q.key.who fs q.key.names).0 sh)

remove_said : (s i after : Bytes) (x : Filed) → Files (remove_key s i) after x → RemoveSaid s i after x
remove_said s i after x w =
    record {
      refuses = record {
        no_cabinet =
            exactly_23 s x.no (λ q. number-of w ∙ ap (λ (y : Result). y.no) (remove_23 s i q))
            (λ ps q n. listed find_numbers (remove_key s i).no not_cabinet (remove_given s i ps q) tt (sym (number-of w) ∙ n));
        untouched = λ n. w.left ∙ remove_leaves s i (λ z. n (number-of w ∙ z));
      };
      own = λ c n j e. let (ps, q, R) = of_cabinet s c in (result_so w (remove_own s ps q i n j (asks_refused i n j e))).0;
      not_there = λ c.
          let (ps, q, R) = of_cabinet s c in (
            λ n. let (k, g, a, f) = (remove_exactly_26 s i ps q).0 (sym (number-of w) ∙ n) in nowhere_so s i q R k g a f,
            λ (who, fs, h, f). number-of w ∙ (remove_exactly_26 s i ps q).1 (asked_names who fs, gnt fs, asks_accepted i h, nothing_so s i q R who fs f),
          );
      removes = λ c who fs h j t.
          let (ps, q, R) = of_cabinet s c in
          let (a, b) = there_so s i q R who fs j t in
          done_so w
          (remove_some s ps q i (asked_names who fs) (gnt fs) (asks_accepted i h) (held_by t.1) a (lowest_there (asked_names who fs) ps (held_by t.1) a)
          ∙ ap (λ (y : Bytes). record { no = 0; field = 0; bytes = y }) (ap (λ (m : ℕ). stored_at s m free) b ∙ emptied_place s j));
    }

-- ---- admit

module _ (s q after : Bytes) (x : Filed) (w : Files (admit s q) after x) where
  module _ {ps : List shelves.Place} (e : shelf s ≡ some ps) (R : Read s ps) where
    there_to : x.no ≡ not_there → (r : Request q) × ((j : ℕ) (m : Module s r j) → Old m.1.text)
    there_to n =
        let (k, t, a, f) = (admit_exactly_26 s q ps e).0 (sym (number-of w) ∙ n) in
        let it = requested q k t a in
        (it.request, old_there s q e R SMID it.request.names (ap (λ (y : Names). unless_old (lookup y ps)) (sym it.names_so) ∙ f))

    later_to : x.no ≡ tvp_not_later → (r : Request q) × (j : ℕ) × (m : Module s r j) × Key m.1.text × (later (said.tvp_of r) m.1.tvp ≡ false)
    later_to n =
        let (k, t, h, a, f, l) = (admit_exactly_27 s q ps e).0 (sym (number-of w) ∙ n) in
        let it = requested q k t a in
        let r = it.request in
        let (g, new) = not_old (lookup k ps) h f in
        let (j, i, p, y, m) = place-of e R k h g in
        (r, j, (i, p, (share_names SMID p.key.who r.names p.key.names).1 (sym it.names_so ∙ m)), current_key p.text (ap (λ (z : Held). is_old z.text) y ∙ new), ap₂ later (sym it.tvp_so) (ap (λ (z : Held). z.tvp) y) ∙ l)

    module _ (r : Request q) (j : ℕ) (m : Module s r j) (new : Key m.1.text) where
      found : lookup (asked_names SMID r.names) ps ≡ some (held_by m.1)
      found = (there_so s q e R SMID r.names j m).0

      later_from : later (said.tvp_of r) m.1.tvp ≡ false → x.no ≡ tvp_not_later
      later_from l = number-of w ∙ (admit_exactly_27 s q ps e).1 (asked_names SMID r.names, said.tvp_of r, held_by m.1, requests_accepted q r, ap unless_old found ∙ rw (key_current new), l)

      -- the place, with the request's TVP
      dated_place : stored_at s j (entry (names_of m.1.key) (gnt_of m.1.key) m.1.text (said.tvp_of r)) ≡ with_tvp s j (said.tvp_of r)
      dated_place =
          let long = timestamp_length (said.tvp_of r) (request_tvp r) in
          dated_so s j (held_by m.1) (filled_good m.1) (sym (filled_encode m.1)) (said.tvp_of r) long
          ∙ tvp_alone (said.tvp_of r) (record { long = R.long; place = m.0 }) long

      admits_so : later (said.tvp_of r) m.1.tvp ≡ true → (x.no ≡ 0) × (after ≡ with_tvp s j (said.tvp_of r))
      admits_so l =
          done_so w
          (admit_later s ps e q (asked_names SMID r.names) (said.tvp_of r) (requests_accepted q r) (held_by m.1) found (key_current new) l (lowest_there (asked_names SMID r.names) ps (held_by m.1) found)
          ∙ ap (λ (y : Bytes). record { no = 0; field = 0; bytes = y })
          (ap (λ (i : ℕ). stored_at s i (entry (names_of m.1.key) (gnt_of m.1.key) m.1.text (said.tvp_of r))) (there_so s q e R SMID r.names j m).1 ∙ dated_place))

  admit_said : AdmitSaid s q after x
  admit_said =
      record {
        refuses = record {
          no_cabinet =
              exactly_23 s x.no (λ e. number-of w ∙ ap (λ (y : Result). y.no) (admit_23 s q e))
              (λ ps e n. listed admit_numbers (admit s q).no not_cabinet (admit_given s q ps e) tt (sym (number-of w) ∙ n));
          untouched = λ n. w.left ∙ admit_leaves s q (λ z. n (number-of w ∙ z));
        };
        own = λ c n i f. let (ps, e, R) = of_cabinet s c in (result_so w (admit_own s ps e q n i (requests_refused q n i f))).0;
        not_there = λ c.
            let (ps, e, R) = of_cabinet s c in (
              there_to e R,
              λ (r, f). number-of w ∙ ap (λ (y : Result). y.no) (admit_none s ps e q (asked_names SMID r.names) (said.tvp_of r) (requests_accepted q r) (there_old s q e R SMID r.names f)),
            );
        not-later = λ c. let (ps, e, R) = of_cabinet s c in (later_to e R, λ (r, j, m, new, l). later_from e R r j m new l);
        admits = λ c r j m new l. let (ps, e, R) = of_cabinet s c in admits_so e R r j m new l;
      }

-- of the definition, then of what a call answered
find_so : (s i : Bytes) → let x = find_key s i in FindSaid s i x.no x.field x.start x.text
find_so s i =
    record {
      no_cabinet = exactly_23 s (find_key s i).no (λ q. ap (λ (y : Finding). y.no) (find_23 s i q)) (λ ps q. listed find_numbers (find_key s i).no not_cabinet (find_given s i ps q) tt);
      own = λ c n j e.
          let (ps, q, R) = of_cabinet s c in
          let f = find_own s ps q i n j (asks_refused i n j e) in
          (ap (λ (y : Finding). y.no) f, ap (λ (y : Finding). y.field) f);
      not_there = λ c.
          let (ps, q, R) = of_cabinet s c in (
            λ n.
                let (k, g, a, f) = (find_exactly_26 s i ps q).0 n in
                let it = asked i k g a in
                (it.who, it.fields, it.known, old_there s i q R it.who it.fields (ap (λ (y : Names). unless_old (lookup y ps)) (sym it.names_so) ∙ f)),
            λ (who, fs, h, f). (find_exactly_26 s i ps q).1 (asked_names who fs, gnt fs, asks_accepted i h, there_old s i q R who fs f),
          );
      found = λ c who fs h j t new.
          let (ps, q, R) = of_cabinet s c in
          let (a, b) = there_so s i q R who fs j t in
          let f = find_some s ps q i (asked_names who fs) (gnt fs) (asks_accepted i h) (held_by t.1) a (key_current new) in
          (ap (λ (y : Finding). y.no) f, ap (λ (y : Finding). y.start) f ∙ ap₂ (λ (m n : ℕ). m * n) b width_is, ap (λ (y : Finding). y.text) f);
      nothing = find_leaves s i;
    }

-- ---- making, asking and counting

make_said : (s after : Bytes) (r : Filed) → Files (make_cabinet s) after r
    → (length s ≡ 65536 → (r.no ≡ 0) × (after ≡ replicate 65536 0)) × (length s ≢ 65536 → (r.no ≡ not_cabinet) × (after ≡ s))
unfolding make_cabinet places width
make_said s after r w = (
  λ l. done_so w (rw (eq-eqb (length s) 65536 l)),
  λ l. let (a, b) = result_so w (make_other l) in (ap (λ (y : Filed). y.no) a, b),
)
  where
    make_other : length s ≢ 65536 → make_cabinet s ≡ leaving s not_cabinet 0
    make_other l = rw (ne_eqb (length s) 65536 l)

check_so : (s : Bytes) → ((check_cabinet s ≡ 0) ↔ IsCabinet s) × ((check_cabinet s ≡ not_cabinet) ↔ (IsCabinet s → ⊥))
unfolding check_cabinet count_keys
check_so s = (
  (
    λ z. either s (λ ps q R c. c) (λ q c. absurd (let n = sym (ap (λ (o : Option (List shelves.Place)). (count_in o).no) q) ∙ z in omega arith)),
    λ c. let (ps, q, R) = of_cabinet s c in ap (λ (o : Option (List shelves.Place)). (count_in o).no) q,
  ),
  exactly_23 s (count_keys s).no (λ q. ap (λ (o : Option (List shelves.Place)). (count_in o).no) q)
      (λ ps q n. let m = sym (ap (λ (o : Option (List shelves.Place)). (count_in o).no) q) ∙ n in omega arith),
)

count_so : (s : Bytes) → (((count_keys s).no ≡ 0) ↔ IsCabinet s) × (((count_keys s).no ≡ not_cabinet) ↔ (IsCabinet s → ⊥)) × ((count_keys s).no ≢ 0 → (count_keys s).count ≡ 0)
unfolding check_cabinet count_keys
count_so s = let (a, b) = check_so s in (a, b, go (shelf s))
  where
    go : (o : Option (List shelves.Place)) → (count_in o).no ≢ 0 → (count_in o).count ≡ 0
    go none n = refl
    go (some ps) n = absurd (n refl)

-- ---- any list of calls

-- a call of the code is a call of the history
step_call : (m n : Moment) → Step m n → (c : Call) × (n ≡ after_call c m)
unfolding after_call
step_call m n (inl (κs, (a, (r, (s, (p, (e, f))))))) = (
  putting a.1.0.now,
  f ∙ ap₂ (λ (k : ℕ) (x : Bytes). record { bytes = x; events = cond (eqb k 0) (onto (put_event a.1.0.now (reads a.1.0.now)) m.events) m.events }) (number-of p) p.left
      ∙ ap (λ (x : Bytes). noted (put_event a.1.0.now (reads a.1.0.now)) (put_key x a.1.0.now) m.events) e,
)
step_call m n (inr (inl (κs, (a, (r, (s, (p, (e, f)))))))) = (
  removing a.1.0.now,
  f ∙ ap₂ (λ (k : ℕ) (x : Bytes). record { bytes = x; events = cond (eqb k 0) (onto (remove_event (asks a.1.0.now)) m.events) m.events }) (number-of p) p.left
      ∙ ap (λ (x : Bytes). noted (remove_event (asks a.1.0.now)) (remove_key x a.1.0.now) m.events) e,
)
step_call m n (inr (inr (inl (κs, (a, (r, (s, (p, (e, f))))))))) = (
  admitting a.1.0.now,
  f ∙ ap₂ (λ (k : ℕ) (x : Bytes). record { bytes = x; events = cond (eqb k 0) (onto (admit_event (requests a.1.0.now)) m.events) m.events }) (number-of p) p.left
      ∙ ap (λ (x : Bytes). noted (admit_event (requests a.1.0.now)) (admit x a.1.0.now) m.events) e,
)
step_call m n (inr (inr (inr (inl (κs, (a, (r, (s, (p, (e, f)))))))))) = (finding a.1.0.now, f)
step_call m n (inr (inr (inr (inr (inl (κs, (a, (r, (s, (p, (e, f))))))))))) = (finding a.1.0.now, f)
step_call m n (inr (inr (inr (inr (inr (inl (κs, (a, (r, (s, (p, (e, f)))))))))))) = (checking, f)
step_call m n (inr (inr (inr (inr (inr (inr (κs, (a, (r, (s, (p, (e, f)))))))))))) = (counting, f)

ran_calls : (k : ℕ) (m n : Moment) → Ran k m n → (cs : List Call) × (n ≡ run cs m)
unfolding run
ran_calls zero m n e = ([], e)
ran_calls (suc k) m n (l, s, r) =
    let (c, e) = step_call m l s in
    let (cs, f) = ran_calls k l n r in
    (c ∷ cs, f ∙ ap (run cs) e)

is-old : (r : Bytes) → Old r → is_old r ≡ true
is-old r old = by_test (is_old r) (T_true (is_old r)) (λ t. absurd (old (current_key r (T_false (is_old r) t))))

-- what is answered to a request, where `o` is held under the names of its module
answer_so : (s q : Bytes) (ps : List shelves.Place) → shelf s ≡ some ps → (k : Names) (t : Bytes) → requests q ≡ about k t → (o : Option Held) → lookup k ps ≡ o → Answers (text_of o) (tvp_of o) t (admit s q).no
answer_so s q ps e k t a none f = ap (λ (y : Result). y.no) (admit_none s ps e q k t a (ap unless_old f))
answer_so s q ps e k t a (some h) f = (
  λ key.
      let new = key_current key in
      by_test (later t h.tvp)
      (λ u. let l = T_true (later t h.tvp) u in rw l (ap (λ (y : Result). y.no) (admit_later s ps e q k t a h f new l (lowest_there k ps h f))))
      (λ u. let l = T_false (later t h.tvp) u in rw l (ap (λ (y : Result). y.no) (admit_not_later s ps e q k t a h f new l))),
  λ old. ap (λ (y : Result). y.no) (admit_none s ps e q k t a (ap unless_old f ∙ rw (is-old h.text old))),
)

-- a request that is admitted is one of a module whose record is there and not old
answered_zero : (o u : Option Bytes) (t : Bytes) (n : ℕ) → Answers o u t n → n ≡ 0 → answer_to u t ≡ 0
answered_zero none u t n a z = absurd (omega (arith, a))
answered_zero (some r) u t n a z =
    by_test (is_old r)
    (λ o. absurd (omega (arith, a.1 (λ key. true≢false (sym (T_true (is_old r) o) ∙ key_current key)))))
    (λ o. sym (a.0 (current_key r (T_false (is_old r) o))) ∙ z)

-- it has a later TVP than all that were admitted before
admitted_later : (o : Option Bytes) (t : Bytes) (ts : List Bytes) → Under o ts → answer_to o t ≡ 0 → AllEarlier t ts
admitted_later none t ts u z = absurd (omega arith)
admitted_later (some v) t ts u z =
    by_test (later t v) (λ l. u t (T_true (later t v) l)) (λ l. absurd (omega (arith, ap (λ (b : Bool). cond {A = ℕ} b 0 tvp_not_later) (sym (T_false (later t v) l)) ∙ z)))

kept_remembers : (before : Names → Option Held) (many : ℕ) (m : Moment) → Kept before many m → Remembers before many m
unfolding count_keys find_key
kept_remembers before many m H =
    record {
      number = λ κs a r s p e.
          let q = here a.0.now e in
          let f = p ∙ ap (λ (o : Option (List shelves.Place)). record { no = (count_in o).no; count = (count_in o).count }) q in
          (ap (λ (x : Counted). x.no) f, ap (λ (x : Counted). x.count + removals m.events) f ∙ H.counts);
      finds = λ κs a r s p e k g f.
          let q : find_key a.0.now a.1.0.now ≡ found_at (lowest (holds k) H.its_places) (unless_old (lookup k H.its_places)) = rw (here a.0.now e, f) in
          gives (lookup k H.its_places) (lowest (holds k) H.its_places) (last_put before k m.events) (H.looks k)
          (p.its_no ∙ ap (λ (x : Finding). x.no) q) (p.its_part.holds ∙ ap (λ (x : Finding). x.text) q);
      olds = λ k r f old. H.olds k r f (is-old r old);
      admits = λ κs a r s p e k t f. rw (number-of p) (answers a.0.now a.1.0.now e k t f);
      unshared = λ k. rising_apart (admitted_of before k m.events) (H.rises k).0;
      rise = λ k. rising_at (admitted_of before k m.events) (H.rises k).0;
      comes_back = λ κs a r s p e k t f (i, l, same_tvp) z.
          let ts = admitted_of before k m.events in
          let later_than = admitted_later (last_tvp before k m.events) t ts (H.rises k).1 (answered_zero (last_put before k m.events) _ t _ (answers a.0.now a.1.0.now e k t f) (sym (number-of p) ∙ z)) in
          let itself = sym (later_itself t) ∙ ap (later t) same_tvp ∙ earlier_at t ts i later_than l in
          let no_such : ◌≡◌ {A = ℕ} 0 1 = cc in omega arith;
    }
  where
    here : (x : Bytes) → x ≡ m.bytes → shelf x ≡ some H.its_places
    here x e = ap shelf (e ∙ H.bytes_are) ∙ shelf_image H.its_places H.shelved

    answers : (x q : Bytes) → x ≡ m.bytes → (k : Names) (t : Bytes) → requests q ≡ about k t → Answers (last_put before k m.events) (last_tvp before k m.events) t (admit x q).no
    answers x q e k t f = rw (← (H.looks k), ← (H.tvps k)) (answer_so x q H.its_places (here x e) k t f (lookup k H.its_places) refl)

    gives : (o : Option Held) (j : ℕ) (l : Option Bytes) → text_of o ≡ l → {part : Bytes} {n : ℕ} → n ≡ (found_at j (unless_old o)).no → part ≡ (found_at j (unless_old o)).text → Gives l part n
    gives none j none e a b = a
    gives none j (some t) e a b = let z : ◌≡◌ {A = ℕ} 0 1 = cc in absurd (omega arith)
    gives (some h) j none e a b = let z : ◌≡◌ {A = ℕ} 0 1 = cc in absurd (omega arith)
    gives (some h) j (some t) e a b =
        let f : h.text ≡ t = cc in (
          λ key. let new : unless_old (some h) ≡ some h = rw (f, key_current key) in (a ∙ ap (λ (o : Option Held). (found_at j o).no) new, b ∙ ap (λ (o : Option Held). (found_at j o).text) new ∙ f),
          λ old. let gone : unless_old (some h) ≡ none = rw (f, is-old t old) in a ∙ ap (λ (o : Option Held). (found_at j o).no) gone,
        )

-- since it was made
since_empty : (s after : Bytes) (r : Filed) → Files (make_cabinet s) after r → r.no ≡ 0 → (n : ℕ) (m : Moment) → Ran n (begun after) m → Remembers nowhere 0 m
unfolding places width
since_empty s after r w z n m t =
    let (cs, e) = ran_calls n (begun after) m t in
    kept_remembers nowhere 0 m (subst (Kept nowhere 0) (sym (e ∙ ap (λ (x : Bytes). run cs (begun x)) w.left)) (since_made s long cs))
  where
    long : length s ≡ places * width
    long = by_test (eqb (length s) 65536) (λ u. eqb→eq (length s) 65536 u) (λ u. absurd (let q = sym z ∙ ((make_said s after r w).1 (λ y. T_not (eqb (length s) 65536) (yes_eqb y) u)).0 in omega arith))

-- ---- the empty cabinet, and one record in it

zeros_shelf : shelf (replicate 65536 0) ≡ some (replicate places free)
unfolding places width
zeros_shelf = shelf_empty

pub empty_cabinet : IsCabinet (replicate 65536 0)
empty_cabinet = let (ps, q, R) = some_there (replicate 65536 0) (sym (ap is_some zeros_shelf)) in is_cabinet (replicate 65536 0) ps q R

empty_kept : Kept nowhere 0 (begun (replicate 65536 0))
empty_kept = record {
  its_places = replicate places free;
  shelved = shelved_empty;
  bytes_are = sym (shelf_some (replicate 65536 0) (replicate places free) zeros_shelf).0;
  looks = λ k. ap text_of (lookup_empty places k);
  tvps = λ k. ap tvp_of (lookup_empty places k);
  counts = omega (arith, occupied_empty places);
  rises = λ k. (tt, tt);
  olds = λ k r f o. f;
}

module _ (r : Bytes) (p : Key r) where
  pub first_done : (put_key (replicate 65536 0) r).no ≡ 0
  unfolding places
  first_done =
      ap (λ (y : Result). y.no)
      (put_first (replicate 65536 0) (replicate places free) zeros_shelf r (names_of p) (gnt_of p) (reads_accepted r p) (lookup_empty places (names_of p)) (omega arith))

  -- put again, it is not later
  pub again : (s : Bytes) → s ≡ (put_key (replicate 65536 0) r).bytes → IsCabinet s × ((put_key s r).no ≡ not_later)
  unfolding run after_call
  again s e =
      let H = kept_run nowhere 0 (putting r ∷ []) (begun (replicate 65536 0)) empty_kept in
      let bytes : s ≡ image H.its_places = e ∙ H.bytes_are in
      let here : shelf s ≡ some H.its_places = ap shelf bytes ∙ shelf_image H.its_places H.shelved in
      let (ps, q, R) = some_there s (sym (ap is_some here)) in
      let look = H.looks (names_of p) ∙ last in
      (is_cabinet s ps q R, (exactly_24 s r H.its_places here).1 (found H.its_places (lookup (names_of p) H.its_places) refl look H.shelved.good))
    where
      last : last_put nowhere (names_of p) (run (putting r ∷ []) (begun (replicate 65536 0))).events ≡ some r
      last = rw (first_done, reads_accepted r p) (cond_yes (same_names (names_of p) (names_of p)) (some r) none (names_refl (names_of p)))

      found : (ps : List shelves.Place) (o : Option Held) → lookup (names_of p) ps ≡ o → text_of o ≡ some r → AllGood ps
          → (k : Names) × (g : Bytes) × (h : Held) × (reads r ≡ about k g) × (lookup k ps ≡ some h) × (later g h.gnt ≡ false)
      found ps none f t a = let z : ◌≡◌ {A = ℕ} 0 1 = cc in absurd (omega arith)
      found ps (some h) f t a =
          let text : h.text ≡ r = cc in
          let good = (lookup_good (names_of p) ps h a f).0 in
          let (n, m) = key_reads (earlier_key p) (ap stands (sym text) ∙ good) in
          (names_of p, gnt_of p, h, reads_accepted r p, f, ap (later (gnt_of p)) (sym m) ∙ later_itself (gnt_of p))

-- a request of the module whose key is there, with a TVP that is not the first
module _ (r : Bytes) (p : Key r) (q : Bytes) (u : Request q) (n : asked_names SMID u.names ≡ names_of p) (l : later (said.tvp_of u) start ≡ true) where
  abbrev filled_once : Bytes
  filled_once = (put_key (replicate 65536 0) r).bytes

  asks_it : requests q ≡ about (names_of p) (said.tvp_of u)
  asks_it = requests_accepted q u ∙ ap (λ (k : Names). about k (said.tvp_of u)) n

  -- what is answered after these calls
  answer_after : (cs : List Call) (x : Bytes) → x ≡ (run cs (begun (replicate 65536 0))).bytes → last_put nowhere (names_of p) (run cs (begun (replicate 65536 0))).events ≡ some r
      → (v : Bytes) → last_tvp nowhere (names_of p) (run cs (begun (replicate 65536 0))).events ≡ some v → (admit x q).no ≡ cond (later (said.tvp_of u) v) 0 tvp_not_later
  answer_after cs x e put v f =
      let H = kept_run nowhere 0 cs (begun (replicate 65536 0)) empty_kept in
      let said_so = answer_so x q H.its_places (ap shelf (e ∙ H.bytes_are) ∙ shelf_image H.its_places H.shelved) (names_of p) (said.tvp_of u) asks_it (lookup (names_of p) H.its_places) refl in
      (subst (λ (o : Option Bytes). Answers (some r) o (said.tvp_of u) (admit x q).no) (H.tvps (names_of p) ∙ f)
      (subst (λ (o : Option Bytes). Answers o (tvp_of (lookup (names_of p) H.its_places)) (said.tvp_of u) (admit x q).no) (H.looks (names_of p) ∙ put) said_so)).0 p

  pub admitted_once : (admit filled_once q).no ≡ 0
  unfolding run after_call
  admitted_once =
      answer_after (putting r ∷ []) filled_once refl
      (rw (first_done r p, reads_accepted r p) (cond_yes (same_names (names_of p) (names_of p)) (some r) none (names_refl (names_of p)))) start
      (rw (first_done r p, reads_accepted r p) (cond_yes (same_names (names_of p) (names_of p)) (some start) none (names_refl (names_of p))))
      ∙ rw l

  pub refused_then : (admit (admit filled_once q).bytes q).no ≡ tvp_not_later
  unfolding run after_call
  refused_then =
      answer_after (putting r ∷ admitting q ∷ []) (admit filled_once q).bytes refl
      (rw (admitted_once, asks_it, first_done r p, reads_accepted r p) (cond_yes (same_names (names_of p) (names_of p)) (some r) none (names_refl (names_of p)))) (said.tvp_of u)
      (rw (admitted_once, asks_it) (cond_yes (same_names (names_of p) (names_of p)) (some (said.tvp_of u)) _ (names_refl (names_of p))))
      ∙ rw (later_itself (said.tvp_of u))

-- ---- a cabinet with one record, which is old

module _ (r : Bytes) (p : KeyUnder UpToE10 r) (old : is_old r ≡ true) where
  abbrev old_held : Held
  old_held = record { names = names_of p; gnt = gnt_of p; text = r; tvp = start }

  abbrev old_places : List shelves.Place
  old_places = held old_held ∷ replicate 63 free

  abbrev pub old_image : Bytes
  old_image = image old_places

  here : shelf old_image ≡ some old_places
  unfolding places
  here =
      shelf_image old_places
      (record {
        good = ((reads_accepted r p, start_tvp), good_empty 63);
        apart = tt;
        number = ap suc (length-replicate 63 free);
      })

  itself : lookup (names_of p) old_places ≡ some old_held
  itself = cond_yes (same_names (names_of p) (names_of p)) (some old_held) _ (names_refl (names_of p))

  gone : unless_old (lookup (names_of p) old_places) ≡ none
  gone = ap unless_old itself ∙ rw old

  pub old_cabinet : IsCabinet old_image
  old_cabinet = let (ps, q, R) = some_there old_image (sym (ap is_some here)) in is_cabinet old_image ps q R

  pub old_counted : count_keys old_image ≡ record { no = 0; count = 1 }
  unfolding count_keys
  old_counted = ap count_in here ∙ ap (λ (n : ℕ). record { no = 0; count = n }) (ap suc (occupied_empty 63))

  -- an identity of its names
  module _ (i : Bytes) (g : Bytes) (a : asks i ≡ about (names_of p) g) where
    pub old_missed : (find_key old_image i).no ≡ not_there
    old_missed = ap (λ (x : Finding). x.no) (find_none old_image old_places here i (names_of p) g a gone)

    pub old_removed : (remove_key old_image i).no ≡ 0
    old_removed = ap (λ (x : Result). x.no) (remove_some old_image old_places here i (names_of p) g a old_held itself (lowest_there (names_of p) old_places old_held itself))

  pub old_unknown : (q : Bytes) (t : Bytes) → requests q ≡ about (names_of p) t → (admit old_image q).no ≡ not_there
  old_unknown q t a = ap (λ (x : Result). x.no) (admit_none old_image old_places here q (names_of p) t a gone)

  pub old_not_later : (x : Bytes) (k : Key x) → names_of k ≡ names_of p → later (gnt_of k) (gnt_of p) ≡ false → (put_key old_image x).no ≡ not_later
  old_not_later x k n l =
      (exactly_24 old_image x old_places here).1 (names_of k, gnt_of k, old_held, reads_accepted x k, ap (λ (y : Names). lookup y old_places) n ∙ itself, l)

  pub old_own : (x : Bytes) (n j : ℕ) → read_of pubkey_kinds x ≡ refused n j → (put_key old_image x).no ≡ n
  old_own x n j e = ap (λ (y : Result). y.no) (put_own old_image old_places here x n j (reads_refused Today x n j e))

pub cabinet : Cabinet
cabinet =
    record {
      made = λ κs a r s p. make_said a.0.now s.0.now r p;
      checked = λ κs a r s p. rw p (check_so a.0.now);
      counted = λ κs a r s p. rw p (count_so a.0.now);
      put = λ κs a r s p. put_said a.0.now a.1.0.now s.0.now r p;
      removed = λ κs a r s p. remove_said a.0.now a.1.0.now s.0.now r p;
      admitted = λ κs a r s p. admit_said a.0.now a.1.0.now s.0.now r p;
      place = λ κs a r s p. rw (p.bytes, p.said) (find_so a.0.now a.1.0.now);
      found = λ κs a r s p. (
        (find_key a.0.now a.1.0.now).start,
        record { stands = p.its_part.stands; holds = refl },
        rw (p.its_part.holds, p.its_no, p.its_field) (find_so a.0.now a.1.0.now),
      );
      history = λ κs a r s p. since_empty a.0.now s.0.now r p;
      none_old = λ κs a r s p z n m t k x f.
          by_test (is_old x)
          (λ o. let w = (since_empty a.0.now s.0.now r p z n m t).olds k x f (λ key. true≢false (sym (T_true (is_old x) o) ∙ key_current key)) in let q : ◌≡◌ {A = ℕ} 0 1 = cc in absurd (omega arith))
          (λ o. current_key x (T_false (is_old x) o));
      from_image = λ s c.
          let (ps, q, R) = of_cabinet s c in (
            ps,
            q,
            λ n m t.
                let (cs, e) = ran_calls n (begun s) m t in
                kept_remembers (held_in ps) (occupied ps) m (subst (Kept (held_in ps) (occupied ps)) (sym e) (since_image s ps q cs)),
          );
    }
