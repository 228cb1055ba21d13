-- A permitted list of attributes is DFCONCAT of its cards, and of no other cards; no two of its cards have one name.
-- Assumes nothing.
use Prim.Native.Nat.{ℕ}
use Prim.Native.Char.{code}
use mathlib.Core.Path.{◌≡◌, refl, sym, ap, ◌∙◌, subst}
use mathlib.Core.Logic.{◌↔◌}
use mathlib.Core.Bool.{true, false, not, ◌&&◌, true≢false, false≢true}
use mathlib.Core.List.{List, [], ◌∷◌}
use native.Mathlib.Omega.{arith}
use lib.Dec.{T, eqb}
use lib.ListN.{length-append}
use mir.Facts.{and_yes, yes_and}
use Rattle.text.specs.Text.{Bytes, without, same, after}
use Rattle.text.proofs.Tests.{by_test, T_true, T_false, true_T, same→eq}
use Rattle.text.proofs.Order.{by_order, after_less, after_equal, after_more, after_itself}
use Rattle.format.specs.Parts.{joined, WithoutAll, ends_in, on_first, cut}
use Rattle.format.specs.Attributes.{name_of, appendix_b, is_card, are_cards, has_name, has_needed, cards_in, are_attributes, Listed}
use Rattle.format.proofs.Parts.{joined_cut, cut_joined, last_joined, ends_last, last_ends}

-- ---- no part has the mark in it at which it was cut

first_without : (m c : ℕ) (ps : List Bytes) → T (not (eqb c m)) → WithoutAll m ps → WithoutAll m (on_first c ps)
first_without m c [] h w = (yes_and (not (eqb c m)) true h tt, tt)
first_without m c (p ∷ ps) h w = (yes_and (not (eqb c m)) (without m p) h w.0, w.1)

cut_without : (m : ℕ) (s : Bytes) → WithoutAll m (cut m s)
cut_without m [] = tt
cut_without m (c ∷ s) =
    by_test (eqb c m) (λ t. rw (T_true (eqb c m) t) (tt, cut_without m s))
    (λ t. rw (T_false (eqb c m) t) (first_without m c (cut m s) t (cut_without m s)))

-- ---- the tests of a list, one by one

record Passed (s : Bytes) : Type 0 where
  ended : T (ends_in (code ";") s)
  order : T (are_cards [] (cards_in s))
  whole : T (has_needed appendix_b (cards_in s))

passed : (s : Bytes) → T (are_attributes s) → Passed s
unfolding are_attributes
passed s t =
    let t₁ = and_yes (ends_in (code ";") s) (are_cards [] (cards_in s) && (has_needed appendix_b (cards_in s) && true)) t in
    let t₂ = and_yes (are_cards [] (cards_in s)) (has_needed appendix_b (cards_in s) && true) t₁.1 in
    record { ended = t₁.0; order = t₂.0; whole = (and_yes (has_needed appendix_b (cards_in s)) true t₂.1).0 }

pass : (s : Bytes) → Passed s → T (are_attributes s)
unfolding are_attributes
pass s p =
    yes_and (ends_in (code ";") s) _ p.ended
    (yes_and (are_cards [] (cards_in s)) _ p.order (yes_and (has_needed appendix_b (cards_in s)) true p.whole tt))

-- ---- one list of cards

written_ended : (cs : List Bytes) → T (has_needed appendix_b cs) → T (ends_in (code ";") (joined (code ";") cs))
written_ended [] n = absurd n
written_ended (c ∷ cs) n =
    last_ends (code ";") (joined (code ";") (c ∷ cs)) (omega (arith, length-append c (code ";" ∷ joined (code ";") cs)))
    (last_joined 0 (code ";") cs c)

-- a list is permitted, with these cards, exactly if DFCONCAT writes it from them and they are permitted
pub attributes_exact : (s : Bytes) (cs : List Bytes) → (T (are_attributes s) × (cards_in s ≡ cs)) ↔ Listed s cs
attributes_exact s cs = (
  λ h.
      let p = passed s h.0 in
      subst (Listed s) h.1 (record {
        written = sym (joined_cut 0 (code ";") s (ends_last (code ";") s p.ended));
        apart = cut_without (code ";") s;
        in_order = p.order;
        complete = p.whole;
      }),
  λ l.
      let same-cards : cards_in s ≡ cs = ap cards_in l.written ∙ cut_joined (code ";") cs l.apart in (
        pass s (record {
          ended = rw l.written (written_ended cs l.complete);
          order = rw same-cards l.in_order;
          whole = rw same-cards l.complete;
        }),
        same-cards,
      ),
)

-- so the cards of a list are unique
pub listed_unique : (s : Bytes) (cs ds : List Bytes) → Listed s cs → Listed s ds → cs ≡ ds
listed_unique s cs ds l m = sym ((attributes_exact s cs).1 l).1 ∙ ((attributes_exact s ds).1 m).1

-- and a list that is permitted has some: its own
pub its_cards : (s : Bytes) → T (are_attributes s) → Listed s (cards_in s)
its_cards s t = (attributes_exact s (cards_in s)).0 (t, refl)

-- ---- no two cards of one name

after_on : (xs ys zs : List ℕ) → after xs ys ≡ true → after ys zs ≡ true → after xs zs ≡ true
after_on [] ys zs h k = absurd (false≢true h)
after_on (x ∷ xs) [] zs h k = absurd (false≢true k)
after_on (x ∷ xs) (y ∷ ys) [] h k = refl
after_on (x ∷ xs) (y ∷ ys) (z ∷ zs) h k =
    by_order x y
    (λ l. absurd (true≢false (sym h ∙ after_less x y xs ys l)))
    (λ e. by_order y z
    (λ l. absurd (true≢false (sym k ∙ after_less y z ys zs l)))
    (λ f. after_equal x z xs zs (e ∙ f) ∙ after_on xs ys zs (sym (after_equal x y xs ys e) ∙ h) (sym (after_equal y z ys zs f) ∙ k))
    (λ l. after_more x z xs zs (omega arith)))
    (λ g. by_order y z
    (λ l. absurd (true≢false (sym k ∙ after_less y z ys zs l)))
    (λ f. after_more x z xs zs (omega arith))
    (λ l. after_more x z xs zs (omega arith)))

-- the first card of an ordered list, and the others
pub record First (n c : Bytes) (cs : List Bytes) : Type 0 where
  pub card : T (is_card c)
  pub behind : T (after (name_of c) n)
  pub others : T (are_cards (name_of c) cs)

pub first_card : (n c : Bytes) (cs : List Bytes) → T (are_cards n (c ∷ cs)) → First n c cs
first_card n c cs t =
    let t₁ = and_yes (is_card c) (after (name_of c) n && are_cards (name_of c) cs) t in
    let t₂ = and_yes (after (name_of c) n) (are_cards (name_of c) cs) t₁.1 in
    record { card = t₁.0; behind = t₂.0; others = t₂.1 }

-- cards that stand behind b stand behind what b stands behind
behind_more : (a b : Bytes) (cs : List Bytes) → T (after b a) → T (are_cards b cs) → T (are_cards a cs)
behind_more a b [] h u = tt
behind_more a b (c ∷ cs) h u =
    let f = first_card b c cs u in
    let on = after_on (name_of c) b a (T_true (after (name_of c) b) f.behind) (T_true (after b a) h) in
    yes_and (is_card c) (after (name_of c) a && are_cards (name_of c) cs) f.card
    (yes_and (after (name_of c) a) (are_cards (name_of c) cs) (true_T (after (name_of c) a) on) f.others)

-- no name stands behind itself, so no later card has the name of an earlier one
pub name_once : (n : Bytes) (cs : List Bytes) → T (are_cards n cs) → has_name cs n ≡ false
name_once n [] t = refl
name_once n (c ∷ cs) t =
    let f = first_card n c cs t in
    by_test (same (name_of c) n)
    (λ u. absurd (true≢false (sym (T_true (after (name_of c) n) f.behind) ∙ ap (λ (x : Bytes). after x n) (same→eq (name_of c) n u) ∙ after_itself n)))
    (λ u. rw (T_false (same (name_of c) n) u) (name_once n cs (behind_more n (name_of c) cs f.behind f.others)))
