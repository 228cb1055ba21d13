-- Where an item stands in its text: STS 600-4-2, clause 5.6; document 01, "Key agreement texts", number 12.
-- Assumes nothing.
use Rattle.std.specs.Prelude.{ℕ, zero, suc, ◌+◌, ◌-◌, ◌≤◌, ◌≡◌, length, take, drop, get_or}
use Rattle.std.proofs.Math.Option.{Option, none, some}
use Rattle.numbers.specs.Numbers.{missing_item}
use Rattle.std.specs.Borrow.{Bor}
use Rattle.text.specs.Text.{Bytes}
use Rattle.text.specs.Part.{Part}
use Rattle.items.specs.Items.{text_item, item_bytes}
use Rattle.items.specs.declared.Place.{Place}

-- the place behind the first i items of a text: the first stands behind the number of items, and each item is its length and then
-- as many bytes
unfoldable pub behind : ℕ → Bytes → ℕ
behind zero s = 1
behind (suc i) s = behind i s + 1 + get_or s (behind i s) 0

abbrev pub nowhere : Place
nowhere = record { no = missing_item; start = 0; len = 0 }

abbrev pub place_from : ℕ → Option Bytes → Place
place_from start none = nowhere
place_from start (some i) = record { no = 0; start = start; len = length i }

-- an item starts behind the items before it and its own length
abbrev pub item_place : Bytes → ℕ → Place
item_place s wanted = place_from (behind (wanted - 1) s + 1) (text_item s wanted)

-- ---- the calls: an item and 0, or nothing and 12

-- the item's place, which lies inside the text, and the bytes there are the item's
pub record ItemPlaced (s : Bytes) (wanted : ℕ) (r : Place) : Type 0 where
  pub said : r ≡ item_place s wanted
  pub inside : r.start + r.len ≤ length s
  pub bytes : take r.len (drop r.start s) ≡ item_bytes (text_item s wanted)

-- the item itself, as a part of the text, which stands at that place
pub record ItemHanded (text : Bor Bytes) (wanted : ℕ) (r : Bor Bytes) (no : ℕ) : Type 0 where
  pub part_so : Part text (item_place text.now wanted).start (item_bytes (text_item text.now wanted)) r
  pub number_so : no ≡ (item_place text.now wanted).no
