-- `items::text_item` meets its contract.
-- Assumes nothing.
use mathlib.Core.Path.{refl}
use Rattle.items.proofs.Walk.{handed}
use Rattle.items.proofs.text_item.Goals as goal

pub returns : goal.returns
returns c = handed _ c.item_place-place.ensures (record { stands = refl; holds = refl })
