-- Key agreement texts as lists of items: STS 600-4-2, clause 5.6 (LVCONCAT); document 01, "Key agreement texts", number 12.
-- Assumes nothing.
use Rattle.std.specs.Prelude.{ℕ, zero, suc, Bool, true, cond, ◌&&◌, List, [], ◌∷◌, ◌++◌, length, take, drop, leb}
use Rattle.std.proofs.Math.Option.{Option, none, some}
use Rattle.text.specs.Text.{Bytes}

-- ---- building

-- of each item its length and its bytes
abbrev pub lv_items : List Bytes → Bytes
lv_items [] = []
lv_items (i ∷ is) = length i ∷ (i ++ lv_items is)

-- LVCONCAT: the number of items, and then the items
abbrev pub lv_concat : List Bytes → Bytes
lv_concat is = length is ∷ lv_items is

-- LVCONCAT fails of more than 255 items, and of an item of more than 255 bytes
abbrev pub short_items : List Bytes → Bool
short_items [] = true
short_items (i ∷ is) = leb (length i) 255 && short_items is

abbrev pub concats : List Bytes → Bool
concats is = leb (length is) 255 && short_items is

-- ---- reading

-- an item and those behind it, if these are items
abbrev pub item_before : Bytes → Option (List Bytes) → Option (List Bytes)
item_before i none = none
item_before i (some is) = some (i ∷ is)

-- n items, and nothing behind the last
abbrev pub items_in : ℕ → Bytes → Option (List Bytes)
items_in zero [] = some []
items_in zero (c ∷ s) = none
items_in (suc n) [] = none
items_in (suc n) (l ∷ s) = cond (leb l (length s)) (item_before (take l s) (items_in n (drop l s))) none

abbrev pub items_of : Bytes → Option (List Bytes)
items_of [] = none
items_of (n ∷ s) = items_in n s

-- item n of a list, counted from 1
abbrev pub nth : ℕ → List Bytes → Option Bytes
nth n [] = none
nth zero (i ∷ is) = none
nth (suc zero) (i ∷ is) = some i
nth (suc (suc n)) (i ∷ is) = nth (suc n) is

abbrev pub nth_of : ℕ → Option (List Bytes) → Option Bytes
nth_of n none = none
nth_of n (some is) = nth n is

unfoldable pub text_item : Bytes → ℕ → Option Bytes
text_item s n = nth_of n (items_of s)

-- the item handed back; empty where there is none
abbrev pub item_bytes : Option Bytes → Bytes
item_bytes none = []
item_bytes (some i) = i
