-- A card by the key of its name, a list of attributes by the keys of its cards, and a turn of the loop over them.
-- Assumes nothing.
use Prim.Native.Nat.{ℕ, ◌+◌, ◌*◌, ◌-◌, ◌≤◌, ◌<◌}
use Prim.Native.Char.{code}
use mathlib.Core.Path.{◌≡◌, refl, sym, ◌∙◌}
use mathlib.Core.Bool.{Bool, true, false, cond, not, ◌&&◌, ◌||◌, and-true}
use mathlib.Core.List.{List, [], ◌∷◌, map}
use native.Mathlib.Omega.{arith}
use lib.Dec.{T, eqb, ltb}
use lib.ListN.{length, take, drop, get_or, length-take}
use mir.Facts.{and_yes}
use borrow.Author.Tests.{ne_eqb, lt-ltb, le-ltb, le-leb, lt-leb}
use Rattle.text.specs.Text.{Bytes, after, is_alphanumeric}
use Rattle.text.proofs.Tests.{by_test, T_true, T_false, true_T}
use Rattle.frame.specs.Frame.{next_mark}
use Rattle.frame.proofs.Parts.{cut_at, cut_none, next_from, next_within}
use Rattle.format.specs.Parts.{ends_in}
use Rattle.format.specs.Attributes.{Row, appendix_b, name_of, value_of, holds, longest_value, is_card, are_cards, has_name, has_needed, cards_in, are_attributes}
use Rattle.format.proofs.Attributes.{first_card}
use Rattle.cards.specs.Steps.{key_of, holds_at, key_in, needed_in, needed_after}
use Rattle.cards.proofs.Keys.{Name, is_name, after_key, after_none, same_key, AllNamed, first_named, holds_key}
use Rattle.cards.proofs.Needed.{and_alike, ascend, has_key, has_keys, walk, all_walked}

-- ---- a card

-- the key of its name, as code takes it
pub first_three : (c : Bytes) → 65536 * get_or c 0 0 + 256 * get_or c 1 0 + get_or c 2 0 ≡ key_of (name_of c)
first_three [] = refl
first_three (x ∷ []) = refl
first_three (x ∷ y ∷ []) = refl
first_three (x ∷ y ∷ z ∷ v) = refl

module _ (c : Bytes) where
  pub too_short : length c < 3 → key_in c ≡ 0
  unfolding key_in is_card is_alphanumeric
  too_short h = rw (ne_eqb (length (take 3 c)) 3 (λ e. omega (arith, length-take 3 c)))

  pub no_name : is_alphanumeric 3 (name_of c) ≡ false → key_in c ≡ 0
  unfolding key_in is_card
  no_name e = rw e

  module _ (e : is_alphanumeric 3 (name_of c) ≡ true) where
    pub too_long : longest_value < length (value_of c) → key_in c ≡ 0
    unfolding key_in is_card
    too_long h = rw (e, lt-leb (length (value_of c)) longest_value h)

    module _ (h : length (value_of c) ≤ longest_value) where
      its_row : holds appendix_b (name_of c) (value_of c) ≡ holds_at appendix_b (key_of (name_of c)) (value_of c)
      unfolding is_alphanumeric
      its_row = holds_key appendix_b tt (name_of c) (value_of c) (is_name (name_of c) (true_T (is_alphanumeric 3 (name_of c)) e))

      pub does_fit : holds_at appendix_b (key_of (name_of c)) (value_of c) ≡ true → key_in c ≡ key_of (name_of c)
      unfolding key_in is_card
      does_fit g = rw (e, le-leb (length (value_of c)) longest_value h, its_row ∙ g)

      pub fits_not : holds_at appendix_b (key_of (name_of c)) (value_of c) ≡ false → key_in c ≡ 0
      unfolding key_in is_card
      fits_not g = rw (e, le-leb (length (value_of c)) longest_value h, its_row ∙ g)

  card_name : T (is_card c) → Name (name_of c)
  unfolding is_card
  card_name t = is_name (name_of c) (and_yes (is_alphanumeric 3 (name_of c)) _ t).0

  card_key : T (is_card c) → key_in c ≡ key_of (name_of c)
  unfolding key_in
  card_key t = rw (T_true (is_card c) t)

  no_key : T (not (is_card c)) → key_in c ≡ 0
  unfolding key_in
  no_key t = rw (T_false (is_card c) t)

-- ---- the cards of a list

abbrev pub keys_of : List Bytes → List ℕ
keys_of cs = map key_in cs

-- where it is by its key that n stands before a name
in_order : (n : Bytes) → ((m : Bytes) → Name m → after m n ≡ ltb (key_of n) (key_of m)) → (cs : List Bytes) → are_cards n cs ≡ ascend (key_of n) (keys_of cs)
in_order n by [] = refl
in_order n by (c ∷ cs) =
    by_test (is_card c)
    (λ t. let p = card_name c t in rw (T_true (is_card c) t, card_key c t, by (name_of c) p, in_order (name_of c) (λ m q. after_key q p) cs))
    (λ t. rw (T_false (is_card c) t, no_key c t, le-ltb (key_of n) 0 (omega arith)))

has-name : (n : Bytes) (cs : List Bytes) → T (are_cards n cs) → (m : Bytes) → Name m → has_name cs m ≡ has_key (keys_of cs) (key_of m)
has-name n [] t m p = refl
has-name n (c ∷ cs) t m p =
    let f = first_card n c cs t in
    rw (card_key c f.card, same_key (name_of c) m (card_name c f.card) p, has-name (name_of c) cs f.others m p)

has-needed : (rs : List Row) → AllNamed rs → (cs : List Bytes) → T (are_cards [] cs) → has_needed rs cs ≡ has_keys (needed_in rs) (keys_of cs)
has-needed [] a cs t = refl
has-needed (r ∷ rs) a cs t =
    let a' = first_named r rs a in
    rw (has-name [] cs t r.name a'.0, has-needed rs a'.1 cs t) (go r.needed)
  where
    go : (b : Bool)
        → ((not b || has_key (keys_of cs) (key_of r.name)) && has_keys (needed_in rs) (keys_of cs))
        ≡ has_keys (cond b (key_of r.name ∷ needed_in rs) (needed_in rs)) (keys_of cs)
    go true = refl
    go false = refl

-- both tests of the cards are one walk over their keys
pub one_walk : (cs : List Bytes) → walk 0 (get_or (needed_in appendix_b) 0 0) (keys_of cs) ≡ (are_cards [] cs && has_needed appendix_b cs)
unfolding is_alphanumeric
one_walk cs =
    all_walked (keys_of cs)
    ∙ sym (and_alike (are_cards [] cs) (has_needed appendix_b cs) (ascend 0 (keys_of cs)) (has_keys (needed_in appendix_b) (keys_of cs)) (in_order [] (λ m p. after_none p) cs) (has-needed appendix_b tt cs))

-- ---- a list: its last byte, and then its cards

module _ (s : Bytes) where
  pub open_end : ends_in (code ";") s ≡ false → are_attributes s ≡ false
  unfolding are_attributes
  open_end e = rw e

  pub ended : ends_in (code ";") s ≡ true → are_attributes s ≡ (are_cards [] (cards_in s) && has_needed appendix_b (cards_in s))
  unfolding are_attributes
  ended e = rw (e, and-true (has_needed appendix_b (cards_in s)))

-- ---- the card at place i, of which the mark stands at e

module _ (s : Bytes) (i e : ℕ) (h : i < length s) (q : e ≡ next_mark (code ";") s i) where
  next_card : cards_in (drop i s) ≡ take (e - i) (drop i s) ∷ cards_in (drop (e + 1) s)
  next_card = rw q (cut_at (code ";") s i h)

  pub ends_behind : i ≤ e
  ends_behind = omega (arith, next_from (code ";") s i)

  pub ends_within : e ≤ length s
  ends_within = omega (arith, next_within (code ";") s i (omega arith))

  module _ (b n k : ℕ) (g : k ≡ key_in (take (e - i) (drop i s))) where
    pub turn_stop : k ≤ b → walk b n (keys_of (cards_in (drop i s))) ≡ false
    unfolding walk
    turn_stop l = rw (next_card, ← g, le-ltb b k l)

    pub turn_on : b < k → walk k (needed_after n k) (keys_of (cards_in (drop (e + 1) s))) ≡ walk b n (keys_of (cards_in (drop i s)))
    unfolding walk
    turn_on l = rw (next_card, ← g, lt-ltb b k l)

pub turn_end : (s : Bytes) (i b n : ℕ) → length s ≤ i → walk b n (keys_of (cards_in (drop i s))) ≡ eqb n 0
unfolding walk
turn_end s i b n h = rw (cut_none (code ";") s i h)
