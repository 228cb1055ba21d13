-- The items of each text, of an accepted request: each of these lists can be built, and so read back, and QE goes in decoded.
-- Assumes nothing.
use mathlib.Core.Path.{◌≡◌}
use mathlib.Core.List.{List, [], ◌∷◌}
use lib.ListN.{length}
use lib.Dec.{T}
use Rattle.text.specs.Text.{Bytes}
use Rattle.format.specs.Kinds.{REQ}
use Rattle.format.specs.Build.{Permitted}
use Rattle.items.specs.Items.{concats}
use Rattle.agreement.specs.Texts.{qe, shared_items, module_items, centre_items}
use Rattle.agreement.proofs.Request.{permitted_suited}
use Rattle.agreement.proofs.Decoding.{point_bytes}
use Rattle.agreement.proofs.Items.{short-items}

pub items_concat : (fs : List Bytes) → Permitted REQ fs → T (concats (shared_items fs)) × T (concats (module_items fs)) × T (concats (centre_items fs))
items_concat fs p =
    let s = permitted_suited fs p in
    (short-items fs s (1 ∷ 2 ∷ 3 ∷ []), short-items fs s (1 ∷ 2 ∷ 6 ∷ 3 ∷ 4 ∷ 5 ∷ []), short-items fs s (2 ∷ 1 ∷ 3 ∷ 6 ∷ []))

pub qe_length : {fs : List Bytes} → Permitted REQ fs → length (qe fs) ≡ 97
qe_length {fs} p = point_bytes _ (permitted_suited fs p).point
