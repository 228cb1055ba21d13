-- What the private functions of the crate answer. No clause of a document stands here.
-- Assumes nothing.
use Rattle.std.specs.Prelude.{ℕ, ◌≤◌, ◌<◌, ◌≡◌, cond, List, [], ◌∷◌, map, length, get_or, T, eqb}
use Rattle.text.specs.Text.{Bytes, is_hex}
use Rattle.text.specs.Base16.{base16_decode}
use Rattle.format.specs.Kinds.{REQ}
use Rattle.format.specs.Read.{fields_in}
use Rattle.places.specs.Places.{field_at}
use Rattle.items.specs.Items.{lv_concat}

-- one item: its length and its bytes
abbrev pub lv_item : Bytes → Bytes
lv_item i = length i ∷ i

-- field n, from 1
abbrev pub field_no : List Bytes → ℕ → Bytes
field_no fs n = get_or ([] ∷ fs) n []

-- what goes into a text of it: QE, which is field 6, decoded, and all else as it stands
abbrev pub item_for : List Bytes → ℕ → Bytes
item_for fs n = cond (eqb n 6) (base16_decode (field_no fs n)) (field_no fs n)

-- the items of a text: its label, and then the fields ns
abbrev pub items_by : Bytes → List ℕ → List Bytes → List Bytes
items_by label ns fs = label ∷ map (item_for fs) ns

abbrev pub text_of : Bytes → List ℕ → Bytes → Bytes
text_of label ns request = lv_concat (items_by label ns (fields_in REQ request))

-- the label's length fits into a byte, and so does the number of items
pub record Small (label : Bytes) (ns : List ℕ) : Type 0 where
  pub short_label : length label ≤ 255
  pub few : length ns < 255

-- fields that can go into a text, as those of an accepted request: each fits into an item, and QE can be decoded
pub record Suited (fs : List Bytes) : Type 0 where
  pub short : (n : ℕ) → length (field_no fs n) ≤ 255
  pub point : T (is_hex 194 (field_no fs 6))

-- the places that reading the request answered
pub record Places (request : Bytes) (starts lens : List ℕ) : Type 0 where
  pub field : (n : ℕ) → field_at request starts lens n ≡ field_no (fields_in REQ request) n
