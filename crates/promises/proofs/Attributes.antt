-- The promises of the attribute calls, from the laws of lists and the contracts of the calls.
-- Assumes nothing.
use Prim.Native.Nat.{ℕ, zero, suc, ◌+◌, ◌<◌}
use mathlib.Core.Path.{◌≡◌, refl, sym, ap, ◌∙◌}
use mathlib.Core.Logic.{◌≢◌}
use mathlib.Core.Bool.{true, false, true≢false, cond}
use mathlib.Core.List.{List, [], ◌∷◌}
use native.Mathlib.Omega.{arith}
use native.Mathlib.Nat.{add-zero}
use lib.ListN.{length, get_or}
use lib.Dec.{T}
use denote.Ref.{Bor}
use Rattle.text.specs.Text.{Bytes, between, every, printable, same}
use Rattle.text.proofs.Tests.{by_test, T_true, T_false, between_high, same→eq, same_refl}
use Rattle.text.proofs.Types.{printable_characters}
use Rattle.text.proofs.Part.{same_part}
use Rattle.numbers.specs.Numbers.{missing_item}
use Rattle.format.specs.Kinds.{KEY, key_kinds}
use Rattle.format.specs.Attributes.{name_of, are_cards, has_name, cards_in}
use Rattle.format.specs.Build.{Fits, IsIdentity, Built}
use Rattle.format.specs.Read.{Outcome, accepted, refused, read_of}
use Rattle.format.proofs.Attributes.{attributes_exact, listed_unique, its_cards, first_card, name_once}
use Rattle.format.proofs.Fields.{fit_at}
use Rattle.format.proofs.Exactly.{read_exact}
use Rattle.fields.specs.Attributes.{list_said, cards_said, attribute_part, attribute_no, attribute_start, named_from, number_named, AttributeSaid, AttributePlaced}
use Rattle.fields.specs.declared.Place.{Place}
use Rattle.fields.proofs.Wanted.{outside}
use Rattle.promises.proofs.Reading.{nothing, nowhere_refused, own_first}
use Rattle.promises.proofs.Statements.Attributes.{Wrapped, card_start, IsCard, CardAt, Attributes}

-- ---- names

-- card i has its own name
has_at : (cs : List Bytes) (i : ℕ) → i < length cs → has_name cs (name_of (get_or cs i [])) ≡ true
has_at [] i h = absurd (omega arith)
has_at (c ∷ cs) zero h = rw (T_true (same (name_of c) (name_of c)) (same_refl (name_of c)))
has_at (c ∷ cs) (suc i) h =
    by_test (same (name_of c) (name_of (get_or cs i []))) (λ t. rw (T_true (same (name_of c) (name_of (get_or cs i []))) t))
    (λ t. rw (T_false (same (name_of c) (name_of (get_or cs i []))) t) (has_at cs i (omega arith)))

-- the first of ordered cards has another name than every later one
first_apart : (n c : Bytes) (cs : List Bytes) → T (are_cards n (c ∷ cs)) → (i : ℕ) → i < length cs → name_of c ≢ name_of (get_or cs i [])
first_apart n c cs t i h e =
    true≢false (sym (has_at cs i h) ∙ ap (has_name cs) (sym e) ∙ name_once (name_of c) cs (first_card n c cs t).others)

apart : (n : Bytes) (cs : List Bytes) → T (are_cards n cs) → (i j : ℕ) → i < j → j < length cs → name_of (get_or cs i []) ≢ name_of (get_or cs j [])
apart n [] t i j h l = absurd (omega arith)
apart n (c ∷ cs) t i zero h l = absurd (omega arith)
apart n (c ∷ cs) t zero (suc j) h l = first_apart n c cs t j (omega arith)
apart n (c ∷ cs) t (suc i) (suc j) h l = apart (name_of c) cs (first_card n c cs t).others i j (omega arith) (omega arith)

-- so the number of a name is that of the card that has it
named_at : (n : Bytes) (cs : List Bytes) → T (are_cards n cs) → (b i : ℕ) → i < length cs → named_from b (name_of (get_or cs i [])) cs ≡ b + i
named_at n [] t b i h = absurd (omega arith)
named_at n (c ∷ cs) t b zero h = rw (T_true (same (name_of c) (name_of c)) (same_refl (name_of c)), add-zero)
named_at n (c ∷ cs) t b (suc i) h =
    by_test (same (name_of c) (name_of (get_or cs i [])))
    (λ u. absurd (first_apart n c cs t i (omega arith) (same→eq (name_of c) (name_of (get_or cs i [])) u)))
    (λ u. rw (T_false (same (name_of c) (name_of (get_or cs i []))) u) (named_at (name_of c) cs (first_card n c cs t).others (suc b) i (omega arith) ∙ omega arith))

named_none : (cs : List Bytes) (n : Bytes) (b : ℕ) → has_name cs n ≡ false → named_from b n cs ≡ 0
named_none [] n b e = refl
named_none (c ∷ cs) n b e =
    by_test (same (name_of c) n) (λ t. absurd (true≢false (sym (rw (T_true (same (name_of c) n) t)) ∙ e)))
    (λ t. rw (T_false (same (name_of c) n) t) (named_none cs n (suc b) (rw (T_false (same (name_of c) n) t) at e)))

-- ---- what reading says of a wrapped key

module _ {s : Bytes} {fs cs : List Bytes} (w : Wrapped s fs cs) where
  is_read : read_of key_kinds s ≡ accepted KEY fs
  is_read = (read_exact key_kinds s KEY fs).1 w.its_fields

  list_cards : cards_in (get_or fs 1 []) ≡ cs
  list_cards = ((attributes_exact (get_or fs 1 []) cs).1 w.its_cards).1

  -- card i as the calls say it
  the_part : (i : ℕ) → attribute_part (read_of key_kinds s) i ≡ get_or ([] ∷ cs) i []
  unfolding list_said
  the_part i = rw (is_read, list_cards)

  the_start : (i : ℕ) → T (between 1 (length cs) i) → attribute_start (read_of key_kinds s) i ≡ card_start fs cs i
  unfolding list_said attribute_start
  the_start i t = rw (is_read, list_cards, T_true (between 1 (length cs) i) t)

  the_no : (i : ℕ) → attribute_no (read_of key_kinds s) i ≡ cond (between 1 (length cs) i) 0 missing_item
  unfolding list_said attribute_no
  the_no i = rw (is_read, list_cards)

  -- the number of a name
  the_number : (n : Bytes) (i : ℕ) → T (between 1 (length cs) i) → name_of (get_or ([] ∷ cs) i []) ≡ n → number_named n (cards_said (read_of key_kinds s)) ≡ i
  unfolding list_said number_named
  the_number n zero t e = absurd t
  the_number n (suc i) t e =
      let l : i < length cs = omega (arith, between_high 1 (length cs) (suc i) t) in
      rw (is_read, list_cards, ← e) (named_at [] cs w.its_cards.in_order 1 i l ∙ omega arith)

  no_number : (n : Bytes) → has_name cs n ≡ false → number_named n (cards_said (read_of key_kinds s)) ≡ 0
  unfolding list_said number_named
  no_number n e = rw (is_read, list_cards) (named_none cs n 1 e)

-- ---- the calls, by the number i that is asked for

module _ {lent : Bor Bytes} {fs cs : List Bytes} (w : Wrapped lent.now fs cs) where
  handed : (i : ℕ) (r : Bor Bytes) (no field : ℕ) → AttributeSaid (read_of key_kinds lent.now) i lent r no field
      → (T (between 1 (length cs) i) → IsCard fs cs i lent r) × (no ≡ cond (between 1 (length cs) i) 0 missing_item)
  handed i r m f p = (λ t. same_part (the_start w i t) (the_part w i) p.its_part, p.its_no ∙ the_no w i)

module _ {s : Bytes} {fs cs : List Bytes} (w : Wrapped s fs cs) where
  placed : (i : ℕ) (r : Place) → AttributePlaced (read_of key_kinds s) i s r
      → (T (between 1 (length cs) i) → CardAt fs cs i s r) × (r.no ≡ cond (between 1 (length cs) i) 0 missing_item)
  placed i r p = (
    λ t. (ap (λ (x : Place). x.start) p.said ∙ the_start w i t, p.inside, p.bytes ∙ the_part w i),
    ap (λ (x : Place). x.no) p.said ∙ the_no w i,
  )

  -- by name: X i is what is said of number i
  by_name : (n : Bytes) (no : ℕ) (Card : ℕ → Type 0)
      → ((T (between 1 (length cs) (number_named n (cards_said (read_of key_kinds s)))) → Card (number_named n (cards_said (read_of key_kinds s))))
      × (no ≡ cond (between 1 (length cs) (number_named n (cards_said (read_of key_kinds s)))) 0 missing_item))
      → ((i : ℕ) → T (between 1 (length cs) i) → name_of (get_or ([] ∷ cs) i []) ≡ n → Card i × (no ≡ 0)) × (has_name cs n ≡ false → no ≡ missing_item)
  by_name n m Card h = (
    λ i t e.
        let q = the_number w n i t e in
        let g : (T (between 1 (length cs) i) → Card i) × (m ≡ cond (between 1 (length cs) i) 0 missing_item) = rw q at h in
        (g.0 t, g.1 ∙ rw (T_true (between 1 (length cs) i) t)),
    λ e. let q = no_number w n e in rw q at h.1,
  )

-- ---- with a refusal

no_card : (o : Outcome) (i : ℕ) → (attribute_no o i ≡ 0 → ⊥) → (0 ≡ attribute_start o i) × ([] ≡ attribute_part o i)
unfolding attribute_no attribute_start list_said
no_card (accepted k fs) i z =
    let cs : List Bytes = cards_in (get_or fs 1 []) in
    by_test (between 1 (length cs) i) (λ t. absurd (z (rw (T_true (between 1 (length cs) i) t))))
    (λ t. (rw (T_false (between 1 (length cs) i) t), outside cs i t))
no_card (refused n f) zero z = (refl, refl)
no_card (refused n f) (suc i) z = (refl, refl)

attribute_own : (wanted n i : ℕ) → attribute_no (refused n i) wanted ≡ n
unfolding attribute_no
attribute_own wanted n i = refl

-- ---- every wrapped key has such cards

pub wrapped : (s : Bytes) (fs : List Bytes) → Built key_kinds s KEY fs → Wrapped s fs (cards_in (get_or fs 1 [])) × T (every printable (get_or fs 1 []))
unfolding Fits
wrapped s fs b = (
  record { its_fields = b; its_cards = its_cards (get_or fs 1 []) b.permitted.attributes },
  printable_characters (get_or fs 1 []) (fit_at IsIdentity _ fs b.permitted.fit 1 (omega arith)),
)

pub attributes : Attributes
attributes = record {
  listed = attributes_exact;
  one_list = listed_unique;
  names_once = λ s cs l. apart [] cs l.in_order;
  wrapped = wrapped;
  by_number = λ κs a r s p fs cs w. handed w _ r _ _ p;
  place_by_number = λ κs a r s p fs cs w. placed w _ r p;
  by_name = λ κs a r s p fs cs w. by_name w _ _ _ (handed w _ r _ _ p);
  place_by_name = λ κs a r s p fs cs w. by_name w _ _ _ (placed w _ r p);
  own = λ κs a r s p. own_first (λ o. attribute_no o a.1.0) (attribute_own a.1.0) _ _ _ p.its_no p.its_field;
  place_own = λ κs a r s p. own_first (λ o. attribute_no o a.1.0) (attribute_own a.1.0) _ _ _ (ap (λ (x : Place). x.no) p.said) (ap (λ (x : Place). x.field) p.said);
  named_own = λ κs a r s p. own_first (λ o. attribute_no o (number_named a.1.0.now (cards_said (read_of key_kinds a.0.now)))) (attribute_own (number_named a.1.0.now (cards_said (read_of key_kinds a.0.now)))) _ _ _ p.its_no p.its_field;
  named_place_own = λ κs a r s p. own_first (λ o. attribute_no o (number_named a.1.0.now (cards_said (read_of key_kinds a.0.now)))) (attribute_own (number_named a.1.0.now (cards_said (read_of key_kinds a.0.now)))) _ _ _ (ap (λ (x : Place). x.no) p.said) (ap (λ (x : Place). x.field) p.said);
  nothing = λ κs a r s p n. nothing _ _ _ _ (no_card (read_of key_kinds a.0.now) a.1.0) _ _ _ _ p n;
  nowhere = λ κs a r s p n. nowhere_refused _ _ _ _ (no_card (read_of key_kinds a.0.now) a.1.0) _ r p n;
  named_nothing = λ κs a r s p n. nothing _ _ _ _ (no_card (read_of key_kinds a.0.now) (number_named a.1.0.now (cards_said (read_of key_kinds a.0.now)))) _ _ _ _ p n;
  named_nowhere = λ κs a r s p n. nowhere_refused _ _ _ _ (no_card (read_of key_kinds a.0.now) (number_named a.1.0.now (cards_said (read_of key_kinds a.0.now)))) _ r p n;
}
