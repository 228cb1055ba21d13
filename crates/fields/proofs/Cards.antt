-- One attribute of an accepted wrapped key, by its number and by its name.
-- Assumes nothing.
use Prim.Native.Nat.{ℕ, zero, suc, ◌+◌, ◌-◌, ◌≤◌, ◌<◌}
use mathlib.Core.Path.{◌≡◌, refl, ap, sym, ◌∙◌, subst}
use mathlib.Core.Bool.{Bool, true, false, cond}
use mathlib.Core.List.{List, [], ◌∷◌}
use native.Mathlib.Omega.{arith}
use native.Mathlib.Numerals.{add-one}
use lib.ListN.{length, take, drop, get_or, length-drop, take-append-drop, get_or-eq_default}
use lib.Seq.{length-take-le, take-append-le, drop-append-le, drop-drop}
use borrow.Author.Tests.{le-leb, lt-leb}
use Rattle.text.specs.Text.{Bytes, between, same}
use Rattle.format.specs.Kinds.{Kind, KEY, fields_of, key_kinds}
use Rattle.format.specs.Build.{Built}
use Rattle.format.specs.Attributes.{name_of, cards_in}
use Rattle.format.specs.Read.{Outcome, accepted, refused, read_of}
use Rattle.format.proofs.Table.{among_one}
use Rattle.format.proofs.Outcomes.{Honest}
use Rattle.format.proofs.Exactly.{read_says, its_parts, its_count, its_few}
use Rattle.frame.specs.Frame.{next_mark, part_start, part_of}
use Rattle.frame.proofs.Parts.{cut_at, cut_none, next_from, next_within, is_there, is_not, part_there}
use Rattle.places.specs.Places.{seven, starts_of, lens_of, is_place, part_at, field_at}
use Rattle.places.proofs.Stands.{record_start, record-place, record-field}
use Rattle.reading.specs.Reading.{answer_of}
use Rattle.reading.specs.declared.Answer.{Answer}
use Rattle.reading.proofs.Answers.{Taken, taken, untaken}
use Rattle.fields.specs.Attributes.{list_said, cards_said, attribute_no, attribute_start, named_from, number_named, AttributePlaced}
use Rattle.fields.specs.Fields.{start_in}
use Rattle.fields.specs.declared.Place.{Place}
use Rattle.fields.proofs.Wanted.{placed}

-- ---- the list

cond_same : {X : Type 0} (b : Bool) (x : X) → cond b x x ≡ x
cond_same true x = refl
cond_same false x = refl

-- o is what reading says of s, and a its answer
list_in : (s : Bytes) (o : Outcome) → Honest (Built key_kinds s) o → (a : Answer) → a ≡ answer_of o → field_at s a.starts a.lens 2 ≡ list_said o
unfolding list_said field_at part_at
list_in s (accepted k fs) b a e = ap (λ (x : Answer). field_at s x.starts x.lens 2) e ∙ record-field k s fs (its_few b) (its_parts b) 2
list_in s (refused n i) b a e = ap (λ (x : Answer). field_at s x.starts x.lens 2) e ∙ cond_same (is_place s (seven 0 []) (seven 0 []) 1) []

pub list-said : (s : Bytes) (a : Answer) → a ≡ answer_of (read_of key_kinds s) → field_at s a.starts a.lens 2 ≡ list_said (read_of key_kinds s)
list-said s a e = list_in s (read_of key_kinds s) (read_says key_kinds s) a e

-- ---- where a card ends

pub card_ends : (list : Bytes) (i : ℕ) → i < length list → (end : ℕ) → end ≡ next_mark 59 list i → (i ≤ end) × (end ≤ length list)
card_ends list i h end en = rw en (next_from 59 list i, next_within 59 list i (omega arith))

-- ---- a part of a part

part_of_part : (s : Bytes) (start n i len : ℕ) → i + len ≤ n → start + n ≤ length s → take len (drop i (take n (drop start s))) ≡ take len (drop (start + i) s)
part_of_part s start n i len h k =
    let whole = length-take-le n (drop start s) (omega (arith, length-drop start s)) in
    sym (ap (take len) (sym (drop-drop i start s))
    ∙ ap (λ (y : Bytes). take len (drop i y)) (sym (take-append-drop n (drop start s)))
    ∙ ap (take len) (drop-append-le i (take n (drop start s)) (drop n (drop start s)) (omega (arith, whole)))
    ∙ take-append-le len (drop i (take n (drop start s))) (drop n (drop start s)) (omega (arith, whole, length-drop i (take n (drop start s)))))

-- ---- a card where there is none

behind_none : (cs : List Bytes) (w : ℕ) → (w ≡ 0 → ⊥) → get_or ([] ∷ cs) w [] ≡ get_or cs (w - 1) []
behind_none cs zero z = absurd (z refl)
behind_none cs (suc w) z = let e : suc w - 1 ≡ w = omega arith in rw e

-- a number out of range
no_card : (cs : List Bytes) (w : ℕ) → (w ≡ 0 → ⊥) → length cs ≤ w - 1 → [] ≡ get_or ([] ∷ cs) w []
no_card cs w z h = sym (behind_none cs w z ∙ get_or-eq_default cs [] {n = w - 1} h)

none_of_none : (w : ℕ) → [] ≡ get_or {A = Bytes} ([] ∷ []) w []
none_of_none zero = refl
none_of_none (suc w) = refl

module _ (s : Bytes) (wanted : ℕ) where
  module _ (a : Answer) (e : a ≡ answer_of (read_of key_kinds s)) where
    abbrev At : ℕ → ℕ → ℕ → ℕ → Outcome → Type 0
    At n f start len o = AttributePlaced o wanted s (record { no = n; field = f; start = start; len = len })

    -- reading's own number
    pub place_refused : (a.no ≡ 0 → ⊥) → At a.no a.field 0 0 (read_of key_kinds s)
    unfolding attribute_no attribute_start list_said
    place_refused z =
        subst (At a.no a.field 0 0) (sym (untaken (read_of key_kinds s) a e z))
        (placed s a.no a.field 0 0 refl refl refl (omega arith) (none_of_none wanted))

    -- an accepted record
    module _ (z : a.no ≡ 0) where
      t : Taken (Built key_kinds s) (read_of key_kinds s) a.kind
      t = taken (Built key_kinds s) (read_of key_kinds s) a (read_says key_kinds s) e z

      by_kind : (n f start len : ℕ) → At n f start len (accepted t.kind t.fields) → At n f start len (read_of key_kinds s)
      by_kind n f start len = subst (At n f start len) (sym t.is)

      pub place_zero : wanted ≡ 0 → At 12 0 0 0 (read_of key_kinds s)
      unfolding attribute_no attribute_start
      place_zero h = by_kind 12 0 0 0 (placed s 12 0 0 0 (rw h) refl (rw h) (omega arith) (rw h))

      -- the list, and i the place in it of the wanted card, as the code has them
      module _ (w : wanted ≡ 0 → ⊥) (list : Bytes) (el : list ≡ list_said (read_of key_kinds s)) (i : ℕ) (q : i ≡ part_start 59 list (wanted - 1)) where
        its_list : list ≡ get_or t.fields 1 []
        unfolding list_said
        its_list = el ∙ ap list_said t.is

        abbrev cards : List Bytes
        cards = cards_in list

        pub place_past : length list ≤ i → At 12 0 0 0 (read_of key_kinds s)
        unfolding attribute_no attribute_start list_said
        place_past h =
            let past : length cards ≤ wanted - 1 = is_not 59 list (wanted - 1) i q h in
            let out : between 1 (length cards) wanted ≡ false = rw (le-leb 1 wanted (omega (arith, w)), lt-leb wanted (length cards) (omega (arith, w, past))) in
            by_kind 12 0 0 0 (placed s 12 0 0 0 (rw (← its_list, out)) refl (rw (← its_list, out)) (omega arith) (rw (← its_list) (no_card cards wanted w past)))

        -- where the card ends, and where the list starts in the record
        module _ (h : i < length list) (end : ℕ) (en : end ≡ next_mark 59 list i) (start : ℕ) (es : start ≡ get_or a.starts 1 0) where
          abbrev k : Kind
          k = t.kind

          abbrev fs : List Bytes
          fs = t.fields

          three : length fs ≡ 3
          three = its_count t.holds ∙ ap (λ (j : Kind). length (fields_of j)) (among_one k KEY t.holds.of-kind)

          its_start : start ≡ get_or (starts_of k fs) 1 0
          its_start = es ∙ ap (λ (x : Answer). get_or x.starts 1 0) (e ∙ ap answer_of t.is)

          within : (start + length list ≤ length s) × (take (length list) (drop start s) ≡ list)
          within =
              let p = record-place k s fs (its_few t.holds) (its_parts t.holds) 1 in
              let n = get_or (lens_of fs) 1 0 in
              let long : length list ≡ get_or (lens_of fs) 1 0 =
              ap length (its_list ∙ sym p.1) ∙ length-take-le (get_or (lens_of fs) 1 0) (drop (get_or (starts_of k fs) 1 0) s) (omega (arith, p.0, length-drop (get_or (starts_of k fs) 1 0) s)) in
              rw (long, its_start) (p.0, p.1 ∙ sym its_list)

          pub card_within : start + i + (end - i) ≤ length s
          card_within = omega (arith, within.0, card_ends list i h end en)

          pub place_there : At 0 0 (start + i) (end - i) (read_of key_kinds s)
          unfolding attribute_no attribute_start list_said part_start part_of
          place_there =
              let here : wanted - 1 < length cards = is_there 59 list (wanted - 1) i q h in
              let in-range : between 1 (length cards) wanted ≡ true = rw (le-leb 1 wanted (omega (arith, w)), le-leb wanted (length cards) (omega (arith, w, here))) in
              let card : take (end - i) (drop i list) ≡ get_or ([] ∷ cards) wanted [] = part_there 59 list (wanted - 1) i q h end en ∙ sym (behind_none cards wanted w) in
              let at : take (end - i) (drop (start + i) s) ≡ get_or ([] ∷ cards) wanted [] =
              sym (part_of_part s start (length list) i (end - i) (omega (arith, card_ends list i h end en)) within.0) ∙ ap (λ (x : Bytes). take (end - i) (drop i x)) within.1 ∙ card in
              let first = record_start k s fs (its_few t.holds) (its_parts t.holds) 1 (omega (arith, three)) in
              by_kind 0 0 (start + i) (end - i)
              (placed s 0 0 (start + i) (end - i) (rw (← its_list, in-range)) refl
              (rw (← its_list, in-range) (ap (λ (x : ℕ). x + i) (its_start ∙ first) ∙ ap (λ (x : ℕ). start_in k fs 2 + x) q)) card_within (rw (← its_list) at))

-- the number of card n
pub card_number : (n : ℕ) → n ≡ suc n - 1
card_number n = omega arith

pub card_some : (n : ℕ) → suc n ≡ 0 → ⊥
card_some n z = omega (arith, z)

-- ---- by name: a turn of the loop at place i, where a card stands that ends at `end` and has this number

module _ (list name : Bytes) (i number : ℕ) where
  abbrev from_here : ℕ
  from_here = named_from number name (cards_in (drop i list))

  module _ (h : i < length list) (end : ℕ) (en : end ≡ next_mark 59 list i) where
    here : cards_in (drop i list) ≡ take (end - i) (drop i list) ∷ cards_in (drop (end + 1) list)
    here = rw en (cut_at 59 list i h)

    -- n is its name as the code has it
    module _ (n : Bytes) (e : n ≡ name_of (take (end - i) (drop i list))) where
      pub named_here : same n name ≡ true → from_here ≡ number
      named_here t = rw (here, ← e, t)

      pub named_on : same n name ≡ false → named_from (number + 1) name (cards_in (drop (end + 1) list)) ≡ from_here
      named_on t = rw (here, ← e, t, add-one)

  pub named_end : length list ≤ i → from_here ≡ 0
  named_end h = rw (cut_none 59 list i h)

pub named_start : (list name : Bytes) → named_from 1 name (cards_in (drop 0 list)) ≡ number_named name (cards_in list)
unfolding number_named
named_start list name = refl

-- the number as the code has it, of the list as it has that
pub named_so : (o : Outcome) (s name list : Bytes) (w : ℕ) (r : Place) → w ≡ number_named name (cards_in list) → list ≡ list_said o → AttributePlaced o w s r
    → AttributePlaced o (number_named name (cards_said o)) s r
named_so o s name list w r e l p = subst (λ (i : ℕ). AttributePlaced o i s r) (e ∙ ap (λ (x : Bytes). number_named name (cards_in x)) l) p
