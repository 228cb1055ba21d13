-- The attributes of a wrapped key: STS 600-4-2, clause 7.5.1 and Appendix B (normative); document 02, E1. A list of attributes is cards,
-- each ended by ';'; a card is a name of three characters and its value, one behind the other. That the characters of a list are
-- printable, and none is the record's mark '|', the type of its field says.
-- Assumes nothing.
use Rattle.std.specs.Prelude.{ℕ, ◌≡◌, Bool, true, false, cond, not, ◌&&◌, ◌||◌, List, [], ◌∷◌, length, take, drop, T, leb}
use Prim.Native.String.{String}
use Prim.Native.Char.{code}
use Rattle.text.specs.Text.{Bytes, ascii, between, all_of, same, after, is_timestamp, is_digits, is_alphanumeric, is_octet}
use Rattle.format.specs.Parts.{joined, WithoutAll, ends_in, cut}

-- ---- Appendix B: each name, what its value is, and whether the card is required

pub record Row : Type 0 where
  pub name : Bytes
  pub content : Bytes → Bool
  pub needed : Bool

abbrev pub required : String → (Bytes → Bool) → Row
required n is = record { name = ascii n; content = is; needed = true }

abbrev pub optional : String → (Bytes → Bool) → Row
optional n is = record { name = ascii n; content = is; needed = false }

-- 1-99P
abbrev pub is_group_name : Bytes → Bool
is_group_name v = between 1 99 (length v)

abbrev pub appendix_b : List Row
appendix_b =
    required "ACT" is_timestamp
    ∷ required "BDT" is_timestamp
    ∷ required "DKG" (is_digits 2)
    ∷ optional "IUT" is_timestamp
    ∷ required "KEN" is_octet
    ∷ required "KRN" (is_digits 1)
    ∷ required "KTC" (is_digits 1)
    ∷ required "SGC" (is_digits 10)
    ∷ optional "SGN" is_group_name
    ∷ []

-- ---- a card

abbrev pub name_of : Bytes → Bytes
name_of card = take 3 card

abbrev pub value_of : Bytes → Bytes
value_of card = drop 3 card

-- the value v of the name n is what the rows say; a name that has no row may have any value
abbrev pub holds : List Row → Bytes → Bytes → Bool
holds [] n v = true
holds (r ∷ rs) n v = cond (same n r.name) (r.content v) (holds rs n v)

-- document 000's limit of a value
abbrev pub longest_value : ℕ
longest_value = 252

-- a name (3AN), and a value of at most 252 characters that is what Appendix B says
unfoldable pub is_card : Bytes → Bool
is_card card =
    all_of (is_alphanumeric 3 (name_of card) ∷ leb (length (value_of card)) longest_value ∷ holds appendix_b (name_of card) (value_of card) ∷ [])

-- ---- the cards of a list

-- each is a card, and their names stand in strictly ascending order, the first of them behind the name n
abbrev pub are_cards : Bytes → List Bytes → Bool
are_cards n [] = true
are_cards n (c ∷ cs) = is_card c && (after (name_of c) n && are_cards (name_of c) cs)

abbrev pub has_name : List Bytes → Bytes → Bool
has_name [] n = false
has_name (c ∷ cs) n = same (name_of c) n || has_name cs n

-- every card that the rows require is there
abbrev pub has_needed : List Row → List Bytes → Bool
has_needed [] cs = true
has_needed (r ∷ rs) cs = (not r.needed || has_name cs r.name) && has_needed rs cs

-- ---- a list

-- DFPARSE at ';'
abbrev pub cards_in : Bytes → List Bytes
cards_in s = cut (code ";") s

-- a list that is permitted: the last card is ended too, the cards in their order, and every one that is required
unfoldable pub are_attributes : Bytes → Bool
are_attributes s = all_of (ends_in (code ";") s ∷ are_cards [] (cards_in s) ∷ has_needed appendix_b (cards_in s) ∷ [])

-- the same by the build rule, DFCONCAT(';', cards)
pub record Listed (s : Bytes) (cs : List Bytes) : Type 0 where
  pub written : s ≡ joined (code ";") cs
  pub apart : WithoutAll (code ";") cs
  pub in_order : T (are_cards [] cs)
  pub complete : T (has_needed appendix_b cs)
