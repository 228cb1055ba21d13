-- What the calls for one attribute of a wrapped key answer: document 02, E1; STS 600-4-2, clause 7.5.1. `read_of key_kinds` of format says the
-- outcome of reading: a record of another kind answers 2. An attribute is its card: name and value, without the ';' behind it.
-- Assumes nothing.
use Rattle.std.specs.Prelude.{ℕ, suc, ◌+◌, ◌-◌, cond, List, [], ◌∷◌, length, take, get_or}
use Prim.Native.Char.{code}
use Rattle.std.specs.Borrow.{Bor}
use Rattle.text.specs.Text.{Bytes, between, same}
use Rattle.numbers.specs.Numbers.{missing_item}
use Rattle.format.specs.Parts.{joined}
use Rattle.format.specs.Attributes.{name_of, cards_in}
use Rattle.format.specs.Read.{Outcome, accepted, refused, place}
use Rattle.fields.specs.Fields.{start_in, PartSaid, PlaceSaid}
use Rattle.fields.specs.declared.Place.{Place}

-- ---- the list, field 2, and its cards; none with a refusal

unfoldable pub list_said : Outcome → Bytes
list_said (accepted k fs) = get_or fs 1 []
list_said (refused n i) = []

abbrev pub cards_said : Outcome → List Bytes
cards_said o = cards_in (list_said o)

-- ---- by number, from 1

-- the card itself; empty where there is none
abbrev pub attribute_part : Outcome → ℕ → Bytes
attribute_part o wanted = get_or ([] ∷ cards_said o) wanted []

-- after every other number, 12 for a card that the list hasn't
unfoldable pub attribute_no : Outcome → ℕ → ℕ
attribute_no (accepted k fs) wanted = cond (between 1 (length (cards_said (accepted k fs))) wanted) 0 missing_item
attribute_no (refused n i) wanted = n

-- where it stands: behind what comes before the list, and the cards before it, each with its ';'; at the front where there is none
unfoldable pub attribute_start : Outcome → ℕ → ℕ
attribute_start (accepted k fs) wanted =
    cond (between 1 (length (cards_said (accepted k fs))) wanted)
    (start_in k fs 2 + length (joined (code ";") (take (wanted - 1) (cards_said (accepted k fs))))) 0
attribute_start (refused n i) wanted = 0

-- ---- by name

-- the number of the first card with the name n, where the first of cs has number i; 0 where no card has it
abbrev pub named_from : ℕ → Bytes → List Bytes → ℕ
named_from i n [] = 0
named_from i n (c ∷ cs) = cond (same (name_of c) n) i (named_from (suc i) n cs)

unfoldable pub number_named : Bytes → List Bytes → ℕ
number_named n cs = named_from 1 n cs

-- ---- what a call says that was lent s, where reading says o: as a part, and as start and length

abbrev pub AttributeSaid : Outcome → ℕ → Bor Bytes → Bor Bytes → ℕ → ℕ → Type 0
AttributeSaid o wanted s r n f = PartSaid (attribute_no o wanted) (place o) (attribute_start o wanted) (attribute_part o wanted) s r n f

abbrev pub attribute_place : Outcome → ℕ → Place
attribute_place o wanted = record { no = attribute_no o wanted; field = place o; start = attribute_start o wanted; len = length (attribute_part o wanted) }

abbrev pub AttributePlaced : Outcome → ℕ → Bytes → Place → Type 0
AttributePlaced o wanted s r = PlaceSaid (attribute_no o wanted) (place o) (attribute_start o wanted) (attribute_part o wanted) s r
