-- What the private functions of the crate answer. No clause of a document stands here.
-- Assumes nothing.
use Rattle.std.specs.Prelude.{ℕ, zero, suc, Option, None, Some, ◌+◌, ◌*◌, Bool, true, cond, List, [], ◌∷◌, get_or, eqb}
use Rattle.text.specs.Text.{Bytes}
use Rattle.format.specs.Attributes.{Row, appendix_b, name_of, is_card}

-- a name as one number
abbrev pub key_of : Bytes → ℕ
key_of n = 65536 * get_or n 0 0 + 256 * get_or n 1 0 + get_or n 2 0

-- `holds`, by the name's key
abbrev pub holds_at : List Row → ℕ → Bytes → Bool
holds_at [] k v = true
holds_at (r ∷ rs) k v = cond (eqb k (key_of r.name)) (r.content v) (holds_at rs k v)

-- the key of a card's name, and 0 where it is no card
unfoldable pub key_in : Bytes → ℕ
key_in c = cond (is_card c) (key_of (name_of c)) 0

-- a key as the code has it: nothing for 0, which no name has
abbrev pub as_key : ℕ → Option ℕ
as_key zero = None
as_key (suc n) = Some (suc n)

-- the keys of the names that the rows require
abbrev pub needed_in : List Row → List ℕ
needed_in [] = []
needed_in (r ∷ rs) = cond r.needed (key_of r.name ∷ needed_in rs) (needed_in rs)

-- the key that follows k among the keys, and 0 behind the last
abbrev pub following : List ℕ → ℕ → ℕ
following [] k = 0
following (x ∷ xs) k = cond (eqb k x) (get_or xs 0 0) (following xs k)

-- the key that is looked for behind a card of key k, where n was looked for so far
unfoldable pub needed_after : ℕ → ℕ → ℕ
needed_after n k = cond (eqb k n) (following (needed_in appendix_b) n) n
