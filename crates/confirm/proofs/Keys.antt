-- The keys that are derived.
-- Assumes nothing.
use mathlib.Core.Path.{◌≡◌}
use mathlib.Core.List.{[], ◌∷◌, ◌++◌, append_assoc}
use Rattle.text.specs.Text.{Bytes}
use Rattle.sha384.specs.declared.Sha384.{Sha384}
use Rattle.sha384.specs.State.{begun, added, ended}
use Rattle.sha384.proofs.Pieces.{begun_then, ended_once}
use Rattle.format.specs.Kinds.{REQ}
use Rattle.format.specs.Read.{fields_in}
use Rattle.items.specs.Items.{lv_concat}
use Rattle.agreement.specs.Texts.{shared_items}
use Rattle.confirm.specs.Confirm.{kdf, derived}

-- Z, the counter and SharedInfo, one after another
pub derived_so : (z request : Bytes) {s t u v : Sha384} {d : Bytes} → s ≡ begun → t ≡ added s z → u ≡ added t (0 ∷ 0 ∷ 0 ∷ 1 ∷ [])
    → v ≡ added u (lv_concat (shared_items (fields_in REQ request))) → d ≡ ended v → d ≡ derived z (fields_in REQ request)
unfolding kdf
derived_so z request e f g h i =
    let counter : Bytes = 0 ∷ 0 ∷ 0 ∷ 1 ∷ [] in
    let info = lv_concat (shared_items (fields_in REQ request)) in
    rw (i, h, g, f, e, begun_then z counter, begun_then (z ++ counter) info, ended_once ((z ++ counter) ++ info), append_assoc z counter info)
