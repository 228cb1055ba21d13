-- The calls: from what the code found, what they answer and leave.
-- Assumes nothing.
use Prim.Native.Nat.{ℕ, zero, suc, ◌+◌, ◌-◌, ◌*◌, ◌≤◌, ◌<◌}
use mathlib.Core.Path.{◌≡◌, refl, sym, ap, ap₂, ◌∙◌, subst}
use mathlib.Core.Logic.{◌≢◌}
use mathlib.Core.Bool.{Bool, true, false, cond}
use mathlib.Core.Option.{Option, none, some}
use mathlib.Core.List.{List, [], ◌∷◌, ◌++◌}
use native.Mathlib.Omega.{arith}
use lib.ListN.{length, take, drop, get_or, replicate-append-replicate}
use lib.Dec.{eqb, eqb→eq}
use mir.Syntax.{w64}
use mir.Val.{of_z, to_z}
use denote.Ref.{Bor}
use mir.Facts.{yes_eqb, eqb_no}
use borrow.Author.Tests.{eq-eqb, ne_eqb}
use Rattle.text.specs.Text.{Bytes}
use Rattle.text.specs.Seconds.{start, seconds_bytes}
use Rattle.text.specs.Later.{later}
use Rattle.text.specs.Part.{Part}
use Rattle.text.proofs.Tests.{T_true, T_false, by_test, cond_yes}
use Rattle.text.proofs.Types.{timestamp_length}
use Rattle.format.specs.Kinds.{REQ, name, identity_kinds, pubkey_kinds}
use Rattle.format.specs.Requests.{id_sm, tvp}
use Rattle.format.specs.Build.{Built}
use Rattle.format.specs.Read.{Outcome, accepted, refused, read_identity, read_of}
use Rattle.format.specs.Files.{up_to}
use Rattle.format.specs.declared.Rules.TheVariants.{Today}
use Rattle.format.proofs.Exactly.{identity_says, read_says}
use Rattle.format.proofs.Outcomes.{Honest}
use Rattle.reading.specs.Reading.{answer_of}
use Rattle.reading.specs.declared.Answer.{Answer}
use Rattle.reading.proofs.Answers.{taken, untaken}
use Rattle.places.specs.Places.{field_at}
use Rattle.fields.specs.declared.Place.{Place}
use Rattle.frame.specs.Frame.{next_mark}
use Rattle.subjects.specs.Subjects.{manufacturer, mid, gnt}
use Rattle.subjects.specs.Requests.{Request}
use Rattle.subjects.proofs.Keys.{key, read_field}
use Rattle.subjects.proofs.Requests.{request, request_tvp}
use Rattle.expiry.specs.Expiry.{expiry_by, expiry_under, expiry_of}
use Rattle.expiry.specs.declared.Expiry.{Expiry}
use Rattle.expiry.proofs.Expiries.{earlier_expiry, expiry_back}
use Rattle.shelf.specs.Places as shelf-places
use Rattle.shelf.specs.Places.{Names, named, Held, free, held, is_free, holds, contents, lookup, lowest}
use Rattle.shelf.specs.Cabinet.{nothing, places, width, tvp_at, number_at, number_of, about, declined, asks, reads, requests, zeros, encode, entry, is_old, unless_old, shelf, Result, make_cabinet, put_key, remove_key, admit, Finding, find_key, count_in, count_keys, check_cabinet}
use Rattle.shelf.proofs.Places.{lookup_lowest, lowest_passes, lowest_most, missing_none}
use Rattle.shelf.proofs.Readings.{Asked, asked, asks_accepted, asks_refused, held_of, reads_accepted, reads_refused, goes_in, requests_accepted, requests_refused, fitting}
use Rattle.shelf.proofs.Images.{Good, number_length, text_back, front_back, tvp_back, number_back, shelf_some}
use Rattle.shelf.proofs.Stores.{stored_at, found_part, put_23, put_own, put_later, put_not_later, put_first, put_full, remove_23, remove_own, remove_some, remove_none, admit_23, admit_own, admit_none, admit_not_later, admit_later, find_23, find_own, find_some, find_none}
use Rattle.cabinet.specs.declared.Filed.{Filed}
use Rattle.cabinet.specs.Cabinet.{Files, checked, counted, FindSaid, FindPart}
use Rattle.cabinet.specs.Steps.{is_some, part_at, with_part, padded, filled_with, key_in, tvp_between, names_in, subject_at, is_later_than, is_later_tvp, first_from, has_names, unless_old_at, current_of, is_free_at, occupied_of, TvpFits}
use Rattle.cabinet.proofs.Bytes.{padded_whole}
use Rattle.cabinet.proofs.Names.{clean, names_taken, its_subject, subject_alone, held_later}
use Rattle.cabinet.proofs.Bridge.{missing_lowest}
use Rattle.cabinet.proofs.Decoding.{text_end}
use Rattle.cabinet.proofs.Cabinets.{Read, lowest_names, lowest_free, occupied_so, none_there, some_there}

files_of : (x : Result) {n i : ℕ} {out : Bytes} {r : Filed} → x ≡ record { no = n; field = i; bytes = out } → r ≡ record { no = n; field = i } → Files x out r
files_of x e f = record { said = f ∙ sym (ap (λ (y : Result). record { no = y.no; field = y.field }) e); left = sym (ap (λ (y : Result). y.bytes) e) }

-- ---- making one

module _ (s : Bytes) where
  pub make_short : {r : Filed} → (length s ≡ 65536 → ⊥) → r ≡ record { no = 23; field = 0 } → Files (make_cabinet s) s r
  unfolding make_cabinet places width
  make_short n f = files_of (make_cabinet s) (rw (ne_eqb (length s) 65536 n)) f

  pub make_done : {r : Filed} {out : Bytes} → length s ≡ 65536 → out ≡ zeros (length s - 0) → r ≡ record { no = 0; field = 0 } → Files (make_cabinet s) out r
  unfolding make_cabinet places width
  make_done {r} {out} l e f =
      let n : length s - 0 ≡ 65536 = omega arith in
      files_of (make_cabinet s) (rw (eq-eqb (length s) 65536 l) (ap (λ (x : Bytes). record { no = 0; field = 0; bytes = x }) (sym (e ∙ ap zeros n)))) f

  -- ---- asking

  pub check_23 : {r : Filed} → false ≡ is_some (shelf s) → r ≡ record { no = 23; field = 0 } → r ≡ checked s
  unfolding check_cabinet count_keys
  check_23 e f = f ∙ ap (λ (o : Option (List shelf-places.Place)). record { no = (count_in o).no; field = 0 }) (sym (none_there s e))

  pub check_0 : {r : Filed} → true ≡ is_some (shelf s) → r ≡ record { no = 0; field = 0 } → r ≡ checked s
  unfolding check_cabinet count_keys
  check_0 e f = f ∙ ap (λ (o : Option (List shelf-places.Place)). record { no = (count_in o).no; field = 0 }) (sym (some_there s e).1)

  pub count_23 : false ≡ is_some (shelf s) → record { no = 23; count = 0 } ≡ counted s
  unfolding count_keys
  count_23 e = sym (rw (none_there s e))

  pub count_0 : {n : ℕ} → true ≡ is_some (shelf s) → n ≡ occupied_of s 64 0 → record { no = 0; count = n } ≡ counted s
  unfolding count_keys
  count_0 e f = let (ps, q, R) = some_there s e in sym (rw (q, f, occupied_so R))

-- ---- a place that was looked for

pub known_identity : (i : Bytes) {a : Answer} → a ≡ answer_of (read_identity i) → a.no ≡ 0 → (k : Names) × (g : Bytes) × Asked i k g
known_identity i {a} e z = go (read_identity i) refl (ap (λ (x : Answer). x.no) (sym e) ∙ z) (identity_says i)
  where
    go : (o : Outcome) → read_identity i ≡ o → (answer_of o).no ≡ 0 → Honest (Built identity_kinds i) o → (k : Names) × (g : Bytes) × Asked i k g
    go (accepted who fs) h n w = (_, _, asked i _ _ (asks_accepted i h))
    go (refused zero j) h n w = absurd w
    go (refused (suc m) j) h n w = absurd (omega arith)

asks_so : {i : Bytes} {k : Names} {g : Bytes} → Asked i k g → asks i ≡ about k g
asks_so {i} a = asks_accepted i a.known ∙ sym (ap₂ about a.names_so a.gnt_so)

refused_identity : (i : Bytes) {a : Answer} → a ≡ answer_of (read_identity i) → (a.no ≡ 0 → ⊥) → asks i ≡ declined a.no a.field
refused_identity i {a} e z = go (read_identity i) refl e
  where
    go : (o : Outcome) → read_identity i ≡ o → a ≡ answer_of o → asks i ≡ declined a.no a.field
    go (accepted who fs) h f = absurd (z (ap (λ (x : Answer). x.no) f))
    go (refused m j) h f = asks_refused i m j h ∙ sym (ap₂ declined (ap (λ (x : Answer). x.no) f) (ap (λ (x : Answer). x.field) f))

-- in the cabinet s, by the names of the identity i
pub record Looked (s i : Bytes) (k : Names) (g : Bytes) (at : ℕ) : Type 0 where
  pub ps : List shelf-places.Place
  pub there : shelf s ≡ some ps
  pub read : Read s ps
  pub asker : Asked i k g
  pub at_so : at ≡ lowest (holds k) ps

looked : (s i : Bytes) {k : Names} {g : Bytes} → Asked i k g → true ≡ is_some (shelf s) → {v : Bytes} → v ≡ names_in i → {at : ℕ} → at ≡ first_from (has_names s v) 0 → Looked s i k g at
looked s i {k} {g} a e {v} n {at} f =
    let (ps, q, R) = some_there s e in
    record {
      ps = ps;
      there = q;
      read = R;
      asker = a;
      at_so = f ∙ ap (λ (x : Bytes). first_from (has_names s x) 0) (n ∙ names_taken a) ∙ lowest_names R k (clean a);
    }

module _ {s i : Bytes} {k : Names} {g : Bytes} {at : ℕ} (L : Looked s i k g at) where
  within : (at ≡ 64 → ⊥) → at < 64
  within n = omega (arith, lowest_most (holds k) L.ps, L.at_so, L.read.number, at_least)
    where
      at_least : at ≢ 64
      at_least = n

  nothing_there : at ≡ 64 → lookup k L.ps ≡ none
  nothing_there e =
      missing_none (lookup k L.ps)
      (rw (missing_lowest k L.ps) (yes_eqb (sym L.at_so ∙ e ∙ sym L.read.number)))

  -- the record there
  pub record There : Type 0 where
    pub h : Held
    pub found : lookup k L.ps ≡ some h
    pub good : Good (held h)
    pub bytes : encode (held h) ≡ part_at s at
    pub low : lowest (holds k) L.ps < length L.ps

  something_there : at < 64 → There
  something_there l = go (get_or L.ps at free) refl
    where
      low : lowest (holds k) L.ps < length L.ps
      low = omega (arith, L.at_so, L.read.number)

      go : (p : shelf-places.Place) → get_or L.ps at free ≡ p → There
      go free e = absurd (rw (ap (λ (j : ℕ). get_or L.ps j free) (sym L.at_so) ∙ e) at (lowest_passes (holds k) L.ps low))
      go (held h) e =
          let (b, w) = L.read.at at l in
          record {
            h = h;
            found = lookup_lowest k L.ps ∙ ap (λ (j : ℕ). contents (get_or L.ps j free)) (sym L.at_so) ∙ ap contents e;
            good = subst Good e w;
            bytes = ap encode (sym e) ∙ b;
            low = low;
          }

-- ---- unless its record is old

module _ (s : Bytes) (i : ℕ) where
  pub at_none : i ≡ 64 → 64 ≡ unless_old_at s i
  unfolding unless_old_at
  at_none e = sym (rw (eq-eqb i 64 e))

  -- b is what the code was told of the place p
  module _ (n : i ≡ 64 → ⊥) {p : Bytes} (f : p ≡ part_at s i) {b : Bool} (g : b ≡ is_old (up_to 0 p)) where
    at_any : unless_old_at s i ≡ cond b 64 i
    unfolding unless_old_at
    at_any = rw (ne_eqb i 64 n) (ap (λ (x : Bool). cond x 64 i) (sym (g ∙ ap (λ (x : Bytes). is_old (up_to 0 x)) f)))

    pub at_old : b ≡ true → 64 ≡ unless_old_at s i
    at_old e = sym (at_any ∙ rw e)

    pub at_new : b ≡ false → i ≡ unless_old_at s i
    at_new e = sym (at_any ∙ rw e)

module _ {s i : Bytes} {k : Names} {g : Bytes} {at : ℕ} {L : Looked s i k g at} (t : There L) where
  text_there : up_to 0 (part_at s at) ≡ t.h.text
  text_there = ap (up_to 0) (sym t.bytes) ∙ text_back t.h t.good

-- of the place where the names of i stand first, and of the number of the place that is left of it
module _ (s i : Bytes) {k : Names} {g : Bytes} (a : Asked i k g) (e : true ≡ is_some (shelf s)) {v : Bytes} (n : v ≡ names_in i) {at : ℕ} (l : at ≡ current_of s v) where
  abbrev where_first : ℕ
  where_first = first_from (has_names s v) 0

  abbrev J : Looked s i k g where_first
  J = looked s i a e n refl

  current_none : at ≡ 64 → unless_old (lookup k J.ps) ≡ none
  current_none m =
      by_test (eqb where_first 64)
      (λ t. ap unless_old (nothing_there J (eqb→eq where_first 64 t)))
      (λ t.
      let there = something_there J (within J (eqb_no t)) in
      by_test (is_old there.h.text)
      (λ u. ap unless_old there.found ∙ cond_yes (is_old there.h.text) none (some there.h) u)
      (λ u. absurd (eqb_no t (at_new s where_first (eqb_no t) refl refl (ap is_old (text_there there) ∙ T_false (is_old there.h.text) u) ∙ sym l ∙ m))))

  current_first : (at ≡ 64 → ⊥) → where_first ≢ 64
  current_first m f = m (l ∙ sym (at_none s where_first f))

  current_at : (at ≡ 64 → ⊥) → (at ≡ where_first) × (is_old (up_to 0 (part_at s where_first)) ≡ false)
  current_at m =
      by_test (is_old (up_to 0 (part_at s where_first)))
      (λ t. absurd (m (l ∙ sym (at_old s where_first (current_first m) refl refl (T_true (is_old (up_to 0 (part_at s where_first))) t)))))
      (λ t. let u = T_false (is_old (up_to 0 (part_at s where_first))) t in (l ∙ sym (at_new s where_first (current_first m) refl refl u), u))

  -- it stands there, and is not old
  current_looked : (at ≡ 64 → ⊥) → Looked s i k g at
  current_looked m = looked s i a e n (current_at m).0

  current_so : (m : at ≡ 64 → ⊥) (t : There (current_looked m)) → is_old t.h.text ≡ false
  current_so m t = ap is_old (sym (text_there t) ∙ ap (λ (j : ℕ). up_to 0 (part_at s j)) (current_at m).0) ∙ (current_at m).1

-- ---- what is written there is the place that was to be stored

number_whole : (r : Bytes) → padded 8 (number_of r) ≡ number_of r
number_whole r = padded_whole 8 (number_of r) (number_length r)

-- a first put
stored_so : (s : Bytes) (at : ℕ) (k : Names) (g r t : Bytes) → length t ≡ 16 → stored_at s at (entry k g r t) ≡ with_part s at (filled_with r t (number_of r))
unfolding encode width tvp_at
stored_so s at k g r t l = ap₂ (λ (d v : Bytes). with_part s at ((padded 1000 r ++ d) ++ v)) (sym (padded_whole 16 t l)) (sym (number_whole r))

emptied_so : (s : Bytes) (at : ℕ) → stored_at s at free ≡ with_part s at (filled_with [] [] [])
unfolding encode width
emptied_so s at = ap (with_part s at) (sym (ap (λ (x : Bytes). x ++ zeros 8) (replicate-append-replicate 1000 16 0) ∙ replicate-append-replicate 1016 8 0))

-- over the record h
module _ (s : Bytes) (at : ℕ) (h : Held) (g : Good (held h)) {p : Bytes} (b : p ≡ encode (held h)) where
  its_tvp : take 16 (drop 1000 p) ≡ h.tvp
  unfolding tvp_at number_at
  its_tvp = ap (λ (x : Bytes). take 16 (drop 1000 x)) b ∙ tvp_back h g

  replaced_so : (k : Names) (d r : Bytes) → stored_at s at (entry k d r h.tvp) ≡ with_part s at (key_in p r (number_of r))
  unfolding encode width tvp_at
  replaced_so k d r = ap₂ (λ (x v : Bytes). with_part s at ((padded 1000 r ++ x) ++ v)) (sym its_tvp) (sym (number_whole r))

  pub dated_so : (t : Bytes) → length t ≡ 16 → stored_at s at (entry h.names h.gnt h.text t) ≡ with_part s at (tvp_between p t)
  unfolding encode width tvp_at number_at
  dated_so t l =
      ap (λ (x : Bytes). with_part s at ((padded 1000 h.text ++ x) ++ number_of h.text)) (sym (padded_whole 16 t l))
      ∙ ap₂ (λ (x v : Bytes). with_part s at ((x ++ padded 16 t) ++ v)) (sym (ap (take 1000) b ∙ front_back h g)) (sym (ap (drop 1016) b ∙ number_back h g))

-- ---- remove and find

found_none : {x : Finding} {s : Bytes} {n j : ℕ} {r : Place} → x ≡ nothing n j → r ≡ record { no = n; field = j; start = 0; len = 0 } → FindSaid x s r
found_none e f = rw (e, f) (record { said = refl; inside = omega arith; bytes = refl })

module _ (s i : Bytes) where
  pub removes_23 : {r : Filed} → false ≡ is_some (shelf s) → r ≡ record { no = 23; field = 0 } → Files (remove_key s i) s r
  removes_23 e f = files_of (remove_key s i) (remove_23 s i (none_there s e)) f

  pub finds_23 : {r : Place} → false ≡ is_some (shelf s) → r ≡ record { no = 23; field = 0; start = 0; len = 0 } → FindSaid (find_key s i) s r
  finds_23 e f = found_none (find_23 s i (none_there s e)) f

  module _ (e : true ≡ is_some (shelf s)) {a : Answer} (ans : a ≡ answer_of (read_identity i)) where
    pub removes_own : {r : Filed} → (a.no ≡ 0 → ⊥) → r ≡ record { no = a.no; field = a.field } → Files (remove_key s i) s r
    removes_own z f = let (ps, q, R) = some_there s e in files_of (remove_key s i) (remove_own s ps q i a.no a.field (refused_identity i ans z)) f

    pub finds_own : {r : Place} → (a.no ≡ 0 → ⊥) → r ≡ record { no = a.no; field = a.field; start = 0; len = 0 } → FindSaid (find_key s i) s r
    finds_own z f = let (ps, q, R) = some_there s e in found_none (find_own s ps q i a.no a.field (refused_identity i ans z)) f

    module _ (z : a.no ≡ 0) {v : Bytes} (n : v ≡ names_in i) {at : ℕ} (l : at ≡ first_from (has_names s v) 0) where
      abbrev L : Looked s i (known_identity i ans z).0 (known_identity i ans z).1 at
      L = looked s i (known_identity i ans z).2 e n l

      pub found_within : (at ≡ 64 → ⊥) → at < 64
      found_within = within L

      pub removes_26 : {r : Filed} → at ≡ 64 → r ≡ record { no = 26; field = 0 } → Files (remove_key s i) s r
      removes_26 m f = files_of (remove_key s i) (remove_none s L.ps L.there i _ _ (asks_so L.asker) (nothing_there L m)) f

      pub removes_done : {r : Filed} {out : Bytes} → (at ≡ 64 → ⊥) → out ≡ with_part s at (filled_with [] [] []) → r ≡ record { no = 0; field = 0 } → Files (remove_key s i) out r
      removes_done m o f =
          let t = something_there L (within L m) in
          files_of (remove_key s i)
          (remove_some s L.ps L.there i _ _ (asks_so L.asker) t.h t.found t.low
          ∙ ap (λ (x : Bytes). record { no = 0; field = 0; bytes = x }) (ap (λ (j : ℕ). stored_at s j free) (sym L.at_so) ∙ emptied_so s at ∙ sym o)) f

    module _ (z : a.no ≡ 0) {v : Bytes} (n : v ≡ names_in i) {at : ℕ} (l : at ≡ current_of s v) where
      abbrev I : Asked i (known_identity i ans z).0 (known_identity i ans z).1
      I = (known_identity i ans z).2

      pub current_within : (at ≡ 64 → ⊥) → at < 64
      current_within m = within (current_looked s i I e n l m) m

      pub finds_26 : {r : Place} → at ≡ 64 → r ≡ record { no = 26; field = 0; start = 0; len = 0 } → FindSaid (find_key s i) s r
      finds_26 m f = found_none (find_none s (J s i I e n l).ps (J s i I e n l).there i _ _ (asks_so I) (current_none s i I e n l m)) f

      pub finds_done : {m : ℕ} {p : Bytes} → (at ≡ 64 → ⊥) → p ≡ part_at s at → m ≡ next_mark 0 p 0
          → FindSaid (find_key s i) s (record { no = 0; field = 0; start = at * 1024; len = m })
      unfolding width tvp_at
      finds_done {m} {p} o b q =
          let L = current_looked s i I e n l o in
          let t = something_there L (within L o) in
          let size : m ≡ length t.h.text = q ∙ text_end p ∙ ap (λ (x : Bytes). length (up_to 0 x)) b ∙ ap length (text_there t) in
          let w = shelf_some s L.ps L.there in
          let part : take (length t.h.text) (drop (at * 1024) s) ≡ t.h.text =
          ap₂ (λ (j : ℕ) (x : Bytes). take (length t.h.text) (drop (j * 1024) x)) L.at_so (sym w.0) ∙ found_part _ L.ps t.h w.1.good t.found in
          rw (find_some s L.ps L.there i _ _ (asks_so I) t.h t.found (current_so s i I e n l o t), ← L.at_so)
          (record {
            said = rw size;
            inside = omega (arith, L.read.long, size, (fitting t.h.text t.h.names t.h.gnt t.good.0).long);
            bytes = rw size part;
          })

-- the part that the code takes at a place that was answered so
pub handed : (x : Finding) {s r : Bor Bytes} {p : Place} → FindSaid x s.now p → Part s p.start (take (p.start + p.len - p.start) (drop p.start s.now)) r → FindPart x s r p.no p.field
handed x {s} {r} {p} w q =
    let n : p.start + p.len - p.start ≡ p.len = omega arith in
    record {
      its_part = record {
        stands = q.stands ∙ ap (λ (y : Place). (s.ref_ptr.0, y.start + s.ref_ptr.1)) w.said;
        holds = q.holds ∙ ap (λ (m : ℕ). take m (drop p.start s.now)) n ∙ w.bytes;
      };
      its_no = ap (λ (y : Place). y.no) w.said;
      its_field = ap (λ (y : Place). y.field) w.said;
    }

-- ---- put

-- an accepted record, and its Subject as the code takes it
known_key : (r : Bytes) {x : Expiry} → x ≡ expiry_of r → x.no ≡ 0 → {j : Bytes} → j ≡ subject_at r → (k : Names) × (g : Bytes) × (reads r ≡ about k g) × Asked j k g
unfolding expiry_under
known_key r {x} e z {j} f = go (read_of pubkey_kinds r) refl (ap (λ (y : Expiry). y.no) (sym e) ∙ z) (read_says pubkey_kinds r)
  where
    go : (o : Outcome) → read_of pubkey_kinds r ≡ o → (expiry_by o).no ≡ 0 → Honest (Built pubkey_kinds r) o → (k : Names) × (g : Bytes) × (reads r ≡ about k g) × Asked j k g
    go (accepted kind fs) h n w =
        let q = key r kind fs h in
        let k : Names = named (name q.who) (manufacturer q.names) (mid q.names) in
        let g : Bytes = gnt q.names in
        let good = reads_accepted r q in
        let its : Held = record { names = k; gnt = g; text = r; tvp = [] } in
        let in_place = goes_in r k g good in
        (k, g, good, subst (λ (x : Bytes). Asked x k g) (sym (f ∙ subject_alone its in_place)) (its_subject its in_place))
    go (refused zero l) h n w = absurd w
    go (refused (suc m) l) h n w = absurd (omega arith)

refused_key : (r : Bytes) {x : Expiry} → x ≡ expiry_of r → (x.no ≡ 0 → ⊥) → reads r ≡ declined x.no x.field
unfolding expiry_under
refused_key r {x} e z = go (read_of pubkey_kinds r) refl e
  where
    go : (o : Outcome) → read_of pubkey_kinds r ≡ o → x ≡ expiry_by o → reads r ≡ declined x.no x.field
    go (accepted k fs) h f = absurd (z (ap (λ (y : Expiry). y.no) f))
    go (refused m j) h f = reads_refused Today r m j h ∙ sym (ap₂ declined (ap (λ (y : Expiry). y.no) f) (ap (λ (y : Expiry). y.field) f))

module _ (s r : Bytes) where
  pub puts_23 : {x : Filed} → false ≡ is_some (shelf s) → x ≡ record { no = 23; field = 0 } → Files (put_key s r) s x
  puts_23 e f = files_of (put_key s r) (put_23 s r (none_there s e)) f

  module _ (e : true ≡ is_some (shelf s)) {a : Expiry} (ans : a ≡ expiry_of r) where
    pub puts_own : {x : Filed} → (a.no ≡ 0 → ⊥) → x ≡ record { no = a.no; field = a.field } → Files (put_key s r) s x
    puts_own z f = let (ps, q, R) = some_there s e in files_of (put_key s r) (put_own s ps q r a.no a.field (refused_key r ans z)) f

    module _ (z : a.no ≡ 0) {j : Bytes} (sub : j ≡ subject_at r) where
      pub puts_short : length r ≤ 1000
      unfolding tvp_at
      puts_short = let (k, g, b, o) = known_key r ans z sub in omega (arith, (fitting r k g (goes_in r k g b)).long)

      module _ {v : Bytes} (n : v ≡ names_in j) {at : ℕ} (l : at ≡ first_from (has_names s v) 0) where
        abbrev K : (k : Names) × (g : Bytes) × (reads r ≡ about k g) × Asked j k g
        K = known_key r ans z sub

        abbrev M : Looked s j K.0 K.1 at
        M = looked s j K.3 e n l

        -- the number that the code writes, which is today's, is that of the place
        its_number : {w : Bytes} → w ≡ seconds_bytes (to_z w64 (of_z w64 a.seconds)) → w ≡ number_of r
        unfolding number_of
        its_number u = u ∙ ap seconds_bytes (expiry_back Today r ans) ∙ ap (λ (x : Expiry). seconds_bytes x.seconds) (sym (earlier_expiry (held_of Today r K.0 K.1 K.2).key))

        later_so : (m : at < 64) {p : Bytes} {b : Bool} → p ≡ part_at s at → b ≡ is_later_than j p → b ≡ later K.1 (something_there M m).h.gnt
        later_so m b q =
            let t = something_there M m in
            q ∙ ap (is_later_than j) (b ∙ sym t.bytes) ∙ held_later t.h t.good.0 K.3

        pub puts_24 : {x : Filed} {p : Bytes} {b : Bool} → at < 64 → p ≡ part_at s at → b ≡ is_later_than j p → b ≡ false → x ≡ record { no = 24; field = 0 } → Files (put_key s r) s x
        puts_24 m d q w f =
            let t = something_there M m in
            files_of (put_key s r) (put_not_later s M.ps M.there r K.0 K.1 K.2 t.h t.found (sym (later_so m d q) ∙ w)) f

        pub puts_again : {x : Filed} {p out v : Bytes} {b : Bool} → at < 64 → p ≡ part_at s at → b ≡ is_later_than j p → b ≡ true
            → v ≡ seconds_bytes (to_z w64 (of_z w64 a.seconds)) → out ≡ with_part s at (key_in (part_at s at) r v) → x ≡ record { no = 0; field = 0 } → Files (put_key s r) out x
        puts_again m d q w u o f =
            let t = something_there M m in
            files_of (put_key s r)
            (put_later s M.ps M.there r K.0 K.1 K.2 t.h t.found (sym (later_so m d q) ∙ w) t.low
            ∙ ap (λ (y : Bytes). record { no = 0; field = 0; bytes = y })
            (ap (λ (i : ℕ). stored_at s i (entry K.0 K.1 r t.h.tvp)) (sym M.at_so)
            ∙ replaced_so s at t.h t.good (sym t.bytes) K.0 K.1 r
            ∙ ap (λ (y : Bytes). with_part s at (key_in (part_at s at) r y)) (sym (its_number u))
            ∙ sym o)) f

        module _ (m : 64 ≤ at) {to : ℕ} (w : to ≡ first_from (is_free_at s) 0) where
          absent : lookup K.0 M.ps ≡ none
          absent = nothing_there M (omega (arith, lowest_most (holds K.0) M.ps, M.at_so, M.read.number))

          to_so : to ≡ lowest is_free M.ps
          to_so = w ∙ lowest_free M.read

          pub puts_25 : {x : Filed} → to ≡ 64 → x ≡ record { no = 25; field = 0 } → Files (put_key s r) s x
          puts_25 q f = files_of (put_key s r) (put_full s M.ps M.there r K.0 K.1 K.2 absent (omega (arith, to_so, M.read.number))) f

          pub to_within : (to ≡ 64 → ⊥) → to < 64
          to_within q = let q' : to ≢ 64 = q in omega (arith, to_so, lowest_most is_free M.ps, M.read.number)

          pub puts_first : {x : Filed} {out v : Bytes} → (to ≡ 64 → ⊥) → v ≡ seconds_bytes (to_z w64 (of_z w64 a.seconds)) → out ≡ with_part s to (filled_with r start v) → x ≡ record { no = 0; field = 0 } → Files (put_key s r) out x
          puts_first q u o f =
              files_of (put_key s r)
              (put_first s M.ps M.there r K.0 K.1 K.2 absent (omega (arith, to_so, to_within q, M.read.number))
              ∙ ap (λ (y : Bytes). record { no = 0; field = 0; bytes = y })
              (ap (λ (i : ℕ). stored_at s i (entry K.0 K.1 r start)) (sym to_so) ∙ stored_so s to K.0 K.1 r start refl ∙ ap (λ (y : Bytes). with_part s to (filled_with r start y)) (sym (its_number u)) ∙ sym o)) f

-- ---- admit

-- an accepted request, and its ID_SM and TVP as the code takes them
module _ (q : Bytes) {a : Answer} (e : a ≡ answer_of (read_of (REQ ∷ []) q)) where
  known_request : a.no ≡ 0 → {i : Bytes} → i ≡ field_at q a.starts a.lens 1 → (r : Request q) × (k : Names) × (g : Bytes) × (requests q ≡ about k (tvp r.fields)) × Asked i k g
  known_request z {i} f =
      let o = taken (Built (REQ ∷ []) q) (read_of (REQ ∷ []) q) a (read_says (REQ ∷ []) q) e z in
      let r = request q o.kind o.fields o.is in
      let its : id_sm r.fields ≡ i = sym (f ∙ read_field Today (REQ ∷ []) q r.is a e 0) in
      (r, _, _, requests_accepted q r, asked i _ _ (ap asks (sym its) ∙ asks_accepted (id_sm r.fields) r.known))

  refused_request : (a.no ≡ 0 → ⊥) → requests q ≡ declined a.no a.field
  refused_request z = requests_refused q a.no a.field (untaken (read_of (REQ ∷ []) q) a e z)

module _ (s q : Bytes) where
  pub admits_23 : {x : Filed} → false ≡ is_some (shelf s) → x ≡ record { no = 23; field = 0 } → Files (admit s q) s x
  admits_23 e f = files_of (admit s q) (admit_23 s q (none_there s e)) f

  module _ (e : true ≡ is_some (shelf s)) {a : Answer} (ans : a ≡ answer_of (read_of (REQ ∷ []) q)) where
    pub admits_own : {x : Filed} → (a.no ≡ 0 → ⊥) → x ≡ record { no = a.no; field = a.field } → Files (admit s q) s x
    admits_own z f = let (ps, r, R) = some_there s e in files_of (admit s q) (admit_own s ps r q a.no a.field (refused_request q ans z)) f

    module _ (z : a.no ≡ 0) {i : Bytes} (sub : i ≡ field_at q a.starts a.lens 1) {v : Bytes} (n : v ≡ names_in i) {at : ℕ} (l : at ≡ current_of s v) where
      abbrev Q : (r : Request q) × (k : Names) × (g : Bytes) × (requests q ≡ about k (tvp r.fields)) × Asked i k g
      Q = known_request q ans z sub

      pub admits_26 : {x : Filed} → at ≡ 64 → x ≡ record { no = 26; field = 0 } → Files (admit s q) s x
      admits_26 m f = files_of (admit s q) (admit_none s (J s i Q.4 e n l).ps (J s i Q.4 e n l).there q Q.1 _ Q.3 (current_none s i Q.4 e n l m)) f

      abbrev N : (at ≡ 64 → ⊥) → Looked s i Q.1 Q.2 at
      N m = current_looked s i Q.4 e n l m

      pub admits_within : (at ≡ 64 → ⊥) → at < 64
      admits_within m = within (N m) m

      module _ (m : at ≡ 64 → ⊥) {t : Bytes} (d : t ≡ field_at q a.starts a.lens 3) where
        tvp_so : t ≡ tvp Q.0.fields
        tvp_so = d ∙ read_field Today (REQ ∷ []) q Q.0.is a ans 2

        tvp_long : length t ≡ 16
        tvp_long = ap length tvp_so ∙ timestamp_length (tvp Q.0.fields) (request_tvp Q.0)

        pub tvp_fits : TvpFits s at t
        tvp_fits = record { in_place = record { long = (N m).read.long; place = within (N m) m }; sixteen = omega (arith, tvp_long) }

        abbrev O : There (N m)
        O = something_there (N m) (within (N m) m)

        not_old : is_old O.h.text ≡ false
        not_old = current_so s i Q.4 e n l m O

        module _ {p : Bytes} (b : p ≡ part_at s at) {c : Bool} (w : c ≡ is_later_tvp t p) where
          later_than : later (tvp Q.0.fields) O.h.tvp ≡ c
          unfolding is_later_tvp
          later_than = sym (w ∙ ap₂ later tvp_so (its_tvp s at O.h O.good (b ∙ sym O.bytes)))

          pub admits_27 : {x : Filed} → c ≡ false → x ≡ record { no = 27; field = 0 } → Files (admit s q) s x
          admits_27 u f = files_of (admit s q) (admit_not_later s (N m).ps (N m).there q Q.1 _ Q.3 O.h O.found not_old (later_than ∙ u)) f

          pub admits_done : {x : Filed} {out : Bytes} → c ≡ true → out ≡ with_part s at (tvp_between (part_at s at) t) → x ≡ record { no = 0; field = 0 } → Files (admit s q) out x
          admits_done u o f =
              files_of (admit s q)
              (admit_later s (N m).ps (N m).there q Q.1 _ Q.3 O.h O.found not_old (later_than ∙ u) O.low
              ∙ ap (λ (y : Bytes). record { no = 0; field = 0; bytes = y })
              (ap₂ (λ (j : ℕ) (x : Bytes). stored_at s j (entry O.h.names O.h.gnt O.h.text x)) (sym (N m).at_so) (sym tvp_so)
              ∙ dated_so s at O.h O.good (sym O.bytes) t tvp_long
              ∙ sym o)) f

-- ---- what the functions need

pub below : {i : ℕ} → i < 64 → i ≡ 64 → ⊥
below l e = absurd (omega arith)

pub its_size : (s : Bytes) → true ≡ is_some (shelf s) → length s ≡ 65536
its_size s e = (some_there s e).2.long
