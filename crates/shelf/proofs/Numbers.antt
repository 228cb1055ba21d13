-- When each number of the cabinet is given: 23 to 27 exactly then, of any lent bytes.
-- Assumes nothing.
use Prim.Native.Nat.{ℕ, zero, suc, ◌+◌, ◌≤◌, ◌<◌}
use mathlib.Core.Path.{◌≡◌, refl, sym, ap, ◌∙◌}
use mathlib.Core.Logic.{◌↔◌, ◌≢◌}
use mathlib.Core.Bool.{Bool, false, not, cond, ◌||◌}
use mathlib.Core.Option.{Option, none, some}
use mathlib.Core.List.{List, [], ◌∷◌}
use native.Mathlib.Omega.{arith}
use lib.ListN.{length, get_or}
use lib.Dec.{T, eqb}
use Rattle.text.specs.Text.{Bytes, one_of}
use Rattle.text.specs.Later.{later}
use Rattle.text.proofs.Tests.{T_true, T_false, by_test, or_right}
use Rattle.numbers.specs.Numbers.{not_later, no_place, not_there, tvp_not_later}
use Rattle.shelf.specs.Places.{Names, same_names, Held, Place, free, held, is_free, holds, lookup, lowest, any_free, others}
use Rattle.shelf.specs.Cabinet.{places, Reading, about, declined, asks, reads, requests, shelf, Change, done, refuse, unless_old, put_at, put_read, remove_at, remove_read, admit_at, admit_read, told, on_places, put_key, remove_key, admit, found_at, find_read, find_in, find_key}
use Rattle.shelf.proofs.Places.{clash, names_eq, eq_names, lookup_there, none_not_holds}
use Rattle.shelf.proofs.Readings.{own_numbers, reads_own, asks_own, requests_own, not_own}
use Rattle.shelf.proofs.Images.{Shelved, shelf_some}

-- ---- the records of other names

others_most : (k : Names) (ps : List Place) → others k ps ≤ length ps
others_most k [] = omega arith
others_most k (p ∷ ps) =
    let h = others_most k ps in
    by_test (is_free p || holds k p)
    (λ t. rw (T_true (is_free p || holds k p) t) (omega arith))
    (λ t. rw (T_false (is_free p || holds k p) t) (omega arith))

all_others : (k : Names) (ps : List Place) → lookup k ps ≡ none → any_free ps ≡ false → others k ps ≡ length ps
all_others k [] e f = refl
all_others k (free ∷ ps) e f = let z : ◌≡◌ {A = ℕ} 0 1 = cc in absurd (omega arith)
all_others k (held h ∷ ps) e f =
    let t = none_not_holds k (held h) ps e in
    let i = all_others k ps (sym (lookup_there k (held h) ps t) ∙ e) f in
    rw (T_false (same_names k h.names) t) (omega arith)

only_others : (k : Names) (ps : List Place) → others k ps ≡ length ps → (lookup k ps ≡ none) × (any_free ps ≡ false)
only_others k [] e = (refl, refl)
only_others k (free ∷ ps) e = absurd (omega (arith, others_most k ps))
only_others k (held h ∷ ps) e =
    by_test (same_names k h.names)
    (λ t. absurd (omega (arith, others_most k ps, ap (λ (b : Bool). cond b 0 1 + others k ps) (sym (T_true (same_names k h.names) t)) ∙ e)))
    (λ t.
    let i = only_others k ps (omega (arith, ap (λ (b : Bool). cond b 0 1 + others k ps) (sym (T_false (same_names k h.names) t)) ∙ e)) in
    (lookup_there k (held h) ps t ∙ i.0, i.1))

on_leaves : (f : List Place → Change) (s : Bytes) (o : Option (List Place)) → (on_places f s o).no ≢ 0 → (on_places f s o).bytes ≡ s
on_leaves f s none n = refl
on_leaves f s (some ps) n = go (f ps) n
  where
    go : (c : Change) → (told s c).no ≢ 0 → (told s c).bytes ≡ s
    go (done qs) m = absurd (m refl)
    go (refuse a b) m = refl

-- said place by place
pub others_all : (k : Names) (ps : List Place) → others k ps ≡ length ps → (j : ℕ) → j < length ps → (h : Held) × (get_or ps j free ≡ held h) × (k ≢ h.names)
others_all k [] e j l = absurd (omega arith)
others_all k (free ∷ ps) e j l = absurd (omega (arith, others_most k ps))
others_all k (held h ∷ ps) e j l =
    by_test (same_names k h.names)
    (λ t. absurd (omega (arith, others_most k ps, ap (λ (b : Bool). cond b 0 1 + others k ps) (sym (T_true (same_names k h.names) t)) ∙ e)))
    (λ t. at j l t (λ i m. others_all k ps (omega (arith, ap (λ (b : Bool). cond b 0 1 + others k ps) (sym (T_false (same_names k h.names) t)) ∙ e)) i m))
  where
    at : (i : ℕ) → i < length (held h ∷ ps) → T (not (same_names k h.names)) → ((m : ℕ) → m < length ps → (g : Held) × (get_or ps m free ≡ held g) × (k ≢ g.names))
        → (g : Held) × (get_or (held h ∷ ps) i free ≡ held g) × (k ≢ g.names)
    at zero m t r = (h, refl, λ n. clash (same_names k h.names) (eq_names k h.names n) t)
    at (suc i) m t r = r i (omega arith)

pub all_others_so : (k : Names) (ps : List Place) → ((j : ℕ) → j < length ps → (h : Held) × (get_or ps j free ≡ held h) × (k ≢ h.names)) → others k ps ≡ length ps
all_others_so k [] f = refl
all_others_so k (p ∷ ps) f =
    let (h, e, n) = f 0 (omega arith) in
    let r = all_others_so k ps (λ j l. f (suc j) (omega arith)) in
    rw (e, T_false (same_names k h.names) (by_test (same_names k h.names) (λ t. absurd (n (names_eq k h.names t))) (λ t. t))) (omega arith)

-- ---- the numbers that a call gives, and what a refusal leaves

-- where the bytes are a cabinet
abbrev pub put_numbers : List ℕ
put_numbers = 0 ∷ not_later ∷ no_place ∷ own_numbers

abbrev pub find_numbers : List ℕ
find_numbers = 0 ∷ not_there ∷ own_numbers

abbrev pub admit_numbers : List ℕ
admit_numbers = 0 ∷ not_there ∷ tvp_not_later ∷ own_numbers

-- no byte of the bytes s, and no part of them, with a refusal
pub put_leaves : (s r : Bytes) → (put_key s r).no ≢ 0 → (put_key s r).bytes ≡ s
unfolding put_key
put_leaves s r n = on_leaves (λ ps. put_read r ps (reads r)) s (shelf s) n

pub remove_leaves : (s i : Bytes) → (remove_key s i).no ≢ 0 → (remove_key s i).bytes ≡ s
unfolding remove_key
remove_leaves s i n = on_leaves (λ ps. remove_read ps (asks i)) s (shelf s) n

pub admit_leaves : (s q : Bytes) → (admit s q).no ≢ 0 → (admit s q).bytes ≡ s
unfolding admit
admit_leaves s q n = on_leaves (λ ps. admit_read ps (requests q)) s (shelf s) n

pub find_leaves : (s i : Bytes) → (find_key s i).no ≢ 0 → ((find_key s i).start ≡ 0) × ((find_key s i).text ≡ [])
unfolding find_key
find_leaves s i n = go (shelf s) n
  where
    at : (j : ℕ) (o : Option Held) → (found_at j o).no ≢ 0 → ((found_at j o).start ≡ 0) × ((found_at j o).text ≡ [])
    at j none m = (refl, refl)
    at j (some h) m = absurd (m refl)

    read : (ps : List Place) (x : Reading) → (find_read ps x).no ≢ 0 → ((find_read ps x).start ≡ 0) × ((find_read ps x).text ≡ [])
    read ps (declined a b) m = (refl, refl)
    read ps (about k g) m = at (lowest (holds k) ps) (unless_old (lookup k ps)) m

    go : (o : Option (List Place)) → (find_in i o).no ≢ 0 → ((find_in i o).start ≡ 0) × ((find_in i o).text ≡ [])
    go none m = (refl, refl)
    go (some ps) m = read ps (asks i) m

-- the number of a change, whatever bytes were lent

abbrev number_of : Change → ℕ
number_of c = (told [] c).no

same_number : (s : Bytes) (c : Change) → (told s c).no ≡ number_of c
same_number s (done qs) = refl
same_number s (refuse n i) = refl

-- ---- put: 24 and 25, of the places ps

-- an accepted record, where one of its names is there with a GNT that is not earlier
abbrev pub Earlier : Bytes → List Place → Type 0
Earlier r ps = (k : Names) × (g : Bytes) × (h : Held) × (reads r ≡ about k g) × (lookup k ps ≡ some h) × (later g h.gnt ≡ false)

-- an accepted record, where as many others are there as there are places
abbrev pub Crowded : Bytes → List Place → Type 0
Crowded r ps = (k : Names) × (g : Bytes) × (reads r ≡ about k g) × (others k ps ≡ places)

module _ (r : Bytes) (ps : List Place) (S : Shelved ps) where
  at_24 : (k : Names) (g : Bytes) (o : Option Held) → lookup k ps ≡ o → reads r ≡ about k g → number_of (put_at k g r ps o) ≡ not_later → Earlier r ps
  unfolding put_at
  at_24 k g none e a n = by_test (any_free ps) (λ t. absurd (omega (rw (T_true (any_free ps) t) at n, arith))) (λ t. absurd (omega (rw (T_false (any_free ps) t) at n, arith)))
  at_24 k g (some h) e a n =
      by_test (later g h.gnt) (λ t. absurd (omega (rw (T_true (later g h.gnt) t) at n, arith))) (λ t. (k, g, h, a, e, T_false (later g h.gnt) t))

  at_25 : (k : Names) (g : Bytes) (o : Option Held) → lookup k ps ≡ o → reads r ≡ about k g → number_of (put_at k g r ps o) ≡ no_place → Crowded r ps
  unfolding put_at
  at_25 k g none e a n =
      by_test (any_free ps)
      (λ t. absurd (omega (rw (T_true (any_free ps) t) at n, arith)))
      (λ t. (k, g, a, all_others k ps e (T_false (any_free ps) t) ∙ S.number))
  at_25 k g (some h) e a n =
      by_test (later g h.gnt) (λ t. absurd (omega (rw (T_true (later g h.gnt) t) at n, arith))) (λ t. absurd (omega (rw (T_false (later g h.gnt) t) at n, arith)))

  read_24 : (x : Reading) → reads r ≡ x → number_of (put_read r ps x) ≡ not_later → Earlier r ps
  read_24 (declined n i) a e = absurd (not_own n not_later (reads_own r n i a).1 tt e)
  read_24 (about k g) a e = at_24 k g (lookup k ps) refl a e

  read_25 : (x : Reading) → reads r ≡ x → number_of (put_read r ps x) ≡ no_place → Crowded r ps
  read_25 (declined n i) a e = absurd (not_own n no_place (reads_own r n i a).1 tt e)
  read_25 (about k g) a e = at_25 k g (lookup k ps) refl a e

  gives_24 : Earlier r ps → number_of (put_read r ps (reads r)) ≡ not_later
  unfolding put_at
  gives_24 (k, g, h, a, e, t) = rw (a, e, t)

  gives_25 : Crowded r ps → number_of (put_read r ps (reads r)) ≡ no_place
  unfolding put_at
  gives_25 (k, g, a, e) = let h = only_others k ps (e ∙ sym S.number) in rw (a, h.0, h.1)

put_listed : (r : Bytes) (ps : List Place) (x : Reading) → reads r ≡ x → T (one_of put_numbers (number_of (put_read r ps x)))
unfolding put_at
put_listed r ps (declined n i) a = or_right (eqb n 0) _ (or_right (eqb n not_later) _ (or_right (eqb n no_place) _ (reads_own r n i a).1))
put_listed r ps (about k g) a = go (lookup k ps)
  where
    go : (o : Option Held) → T (one_of put_numbers (number_of (put_at k g r ps o)))
    go none = by_test (any_free ps) (λ t. rw (T_true (any_free ps) t) tt) (λ t. rw (T_false (any_free ps) t) tt)
    go (some h) = by_test (later g h.gnt) (λ t. rw (T_true (later g h.gnt) t) tt) (λ t. rw (T_false (later g h.gnt) t) tt)

module _ (s r : Bytes) (ps : List Place) (e : shelf s ≡ some ps) where
  put_number : (put_key s r).no ≡ number_of (put_read r ps (reads r))
  unfolding put_key
  put_number = rw e (same_number s (put_read r ps (reads r)))

  pub put_given : T (one_of put_numbers (put_key s r).no)
  put_given = rw put_number (put_listed r ps (reads r) refl)

  -- a replacement with an earlier or equal GNT is refused, and nothing else answers 24
  pub exactly_24 : ((put_key s r).no ≡ not_later) ↔ Earlier r ps
  exactly_24 =
      let S = (shelf_some s ps e).1 in
      (λ n. read_24 r ps S (reads r) refl (sym put_number ∙ n), λ h. put_number ∙ gives_24 r ps S h)

  -- 25 exactly when as many records of other subjects are there as there are places
  pub exactly_25 : ((put_key s r).no ≡ no_place) ↔ Crowded r ps
  exactly_25 =
      let S = (shelf_some s ps e).1 in
      (λ n. read_25 r ps S (reads r) refl (sym put_number ∙ n), λ h. put_number ∙ gives_25 r ps S h)

-- ---- find and remove: 26, of the places ps

-- an accepted identity, where nothing of its names is there; and where nothing is there that is not old
abbrev pub Missing : Bytes → List Place → Type 0
Missing i ps = (k : Names) × (g : Bytes) × (asks i ≡ about k g) × (lookup k ps ≡ none)

abbrev pub Unfound : Bytes → List Place → Type 0
Unfound i ps = (k : Names) × (g : Bytes) × (asks i ≡ about k g) × (unless_old (lookup k ps) ≡ none)

module _ (i : Bytes) (ps : List Place) where
  found_26 : (k : Names) (g : Bytes) (o : Option Held) (j : ℕ) → unless_old (lookup k ps) ≡ o → asks i ≡ about k g → (found_at j o).no ≡ not_there → Unfound i ps
  found_26 k g none j e a n = (k, g, a, e)
  found_26 k g (some h) j e a n = absurd (omega arith)

  find_26 : (x : Reading) → asks i ≡ x → (find_read ps x).no ≡ not_there → Unfound i ps
  find_26 (declined n j) a e = absurd (not_own n not_there (asks_own i n j a).1 tt e)
  find_26 (about k g) a e = found_26 k g (unless_old (lookup k ps)) (lowest (holds k) ps) refl a e

  removed_26 : (k : Names) (g : Bytes) (o : Option Held) → lookup k ps ≡ o → asks i ≡ about k g → number_of (remove_at k ps o) ≡ not_there → Missing i ps
  unfolding remove_at
  removed_26 k g none e a n = (k, g, a, e)
  removed_26 k g (some h) e a n = absurd (omega arith)

  remove_26 : (x : Reading) → asks i ≡ x → number_of (remove_read ps x) ≡ not_there → Missing i ps
  remove_26 (declined n j) a e = absurd (not_own n not_there (asks_own i n j a).1 tt e)
  remove_26 (about k g) a e = removed_26 k g (lookup k ps) refl a e

find_listed : (i : Bytes) (ps : List Place) (x : Reading) → asks i ≡ x → T (one_of find_numbers (number_of (remove_read ps x))) × T (one_of find_numbers (find_read ps x).no)
unfolding remove_at
find_listed i ps (declined n j) a =
    let t = or_right (eqb n 0) _ (or_right (eqb n not_there) _ (asks_own i n j a).1) in
    (t, t)
find_listed i ps (about k g) a = (taken (lookup k ps), found (unless_old (lookup k ps)))
  where
    taken : (o : Option Held) → T (one_of find_numbers (number_of (remove_at k ps o)))
    taken none = tt
    taken (some h) = tt

    found : (o : Option Held) → T (one_of find_numbers (found_at (lowest (holds k) ps) o).no)
    found none = tt
    found (some h) = tt

module _ (s i : Bytes) (ps : List Place) (e : shelf s ≡ some ps) where
  remove_number : (remove_key s i).no ≡ number_of (remove_read ps (asks i))
  unfolding remove_key
  remove_number = rw e (same_number s (remove_read ps (asks i)))

  pub remove_given : T (one_of find_numbers (remove_key s i).no)
  remove_given = rw remove_number (find_listed i ps (asks i) refl).0

  pub find_given : T (one_of find_numbers (find_key s i).no)
  unfolding find_key
  find_given = rw e (find_listed i ps (asks i) refl).1

  pub remove_exactly_26 : ((remove_key s i).no ≡ not_there) ↔ Missing i ps
  unfolding remove_at
  remove_exactly_26 = (λ n. remove_26 i ps (asks i) refl (sym remove_number ∙ n), λ (k, g, a, f). remove_number ∙ rw (a, f))

  pub find_exactly_26 : ((find_key s i).no ≡ not_there) ↔ Unfound i ps
  unfolding find_key
  find_exactly_26 = (λ n. find_26 i ps (asks i) refl (rw e at n), λ (k, g, a, f). rw (e, a, f))

-- ---- admit: 26 and 27, of the places ps

-- an accepted request, whose module is not there, or whose record is old
abbrev pub Unknown : Bytes → List Place → Type 0
Unknown q ps = (k : Names) × (t : Bytes) × (requests q ≡ about k t) × (unless_old (lookup k ps) ≡ none)

-- an accepted request, whose module is there with a TVP that is not earlier
abbrev pub Answered : Bytes → List Place → Type 0
Answered q ps = (k : Names) × (t : Bytes) × (h : Held) × (requests q ≡ about k t) × (unless_old (lookup k ps) ≡ some h) × (later t h.tvp ≡ false)

module _ (q : Bytes) (ps : List Place) where
  at_26 : (k : Names) (t : Bytes) (o : Option Held) → unless_old (lookup k ps) ≡ o → requests q ≡ about k t → number_of (admit_at k t ps o) ≡ not_there → Unknown q ps
  unfolding admit_at
  at_26 k t none e a n = (k, t, a, e)
  at_26 k t (some h) e a n =
      by_test (later t h.tvp) (λ u. absurd (omega (rw (T_true (later t h.tvp) u) at n, arith))) (λ u. absurd (omega (rw (T_false (later t h.tvp) u) at n, arith)))

  at_27 : (k : Names) (t : Bytes) (o : Option Held) → unless_old (lookup k ps) ≡ o → requests q ≡ about k t → number_of (admit_at k t ps o) ≡ tvp_not_later → Answered q ps
  unfolding admit_at
  at_27 k t none e a n = absurd (omega arith)
  at_27 k t (some h) e a n =
      by_test (later t h.tvp) (λ u. absurd (omega (rw (T_true (later t h.tvp) u) at n, arith))) (λ u. (k, t, h, a, e, T_false (later t h.tvp) u))

  admit_26 : (x : Reading) → requests q ≡ x → number_of (admit_read ps x) ≡ not_there → Unknown q ps
  admit_26 (declined n i) a e = absurd (not_own n not_there (requests_own q n i a).1 tt e)
  admit_26 (about k t) a e = at_26 k t (unless_old (lookup k ps)) refl a e

  admit_27 : (x : Reading) → requests q ≡ x → number_of (admit_read ps x) ≡ tvp_not_later → Answered q ps
  admit_27 (declined n i) a e = absurd (not_own n tvp_not_later (requests_own q n i a).1 tt e)
  admit_27 (about k t) a e = at_27 k t (unless_old (lookup k ps)) refl a e

  admit_listed : (x : Reading) → requests q ≡ x → T (one_of admit_numbers (number_of (admit_read ps x)))
  unfolding admit_at
  admit_listed (declined n i) a = or_right (eqb n 0) _ (or_right (eqb n not_there) _ (or_right (eqb n tvp_not_later) _ (requests_own q n i a).1))
  admit_listed (about k t) a = go (unless_old (lookup k ps))
    where
      go : (o : Option Held) → T (one_of admit_numbers (number_of (admit_at k t ps o)))
      go none = tt
      go (some h) = by_test (later t h.tvp) (λ u. rw (T_true (later t h.tvp) u) tt) (λ u. rw (T_false (later t h.tvp) u) tt)

module _ (s q : Bytes) (ps : List Place) (e : shelf s ≡ some ps) where
  admit_number : (admit s q).no ≡ number_of (admit_read ps (requests q))
  unfolding admit
  admit_number = rw e (same_number s (admit_read ps (requests q)))

  pub admit_given : T (one_of admit_numbers (admit s q).no)
  admit_given = rw admit_number (admit_listed q ps (requests q) refl)

  pub admit_exactly_26 : ((admit s q).no ≡ not_there) ↔ Unknown q ps
  unfolding admit_at
  admit_exactly_26 = (λ n. admit_26 q ps (requests q) refl (sym admit_number ∙ n), λ (k, t, a, f). admit_number ∙ rw (a, f))

  pub admit_exactly_27 : ((admit s q).no ≡ tvp_not_later) ↔ Answered q ps
  unfolding admit_at
  admit_exactly_27 = (λ n. admit_27 q ps (requests q) refl (sym admit_number ∙ n), λ (k, t, h, a, f, l). admit_number ∙ rw (a, f, l))
