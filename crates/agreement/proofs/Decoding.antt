-- A point, decoded, as an item.
-- Assumes nothing.
use Prim.Native.Nat.{ℕ, ◌+◌, ◌≤◌}
use mathlib.Core.Path.{◌≡◌, sym, ap, ap₂, ◌∙◌}
use mathlib.Core.List.{[], ◌∷◌, ◌++◌}
use native.Mathlib.Omega.{arith}
use lib.ListN.{length}
use lib.Dec.{T}
use Rattle.text.specs.Text.{Bytes, is_hex}
use Rattle.text.specs.Base16.{base16_decode}
use Rattle.put.specs.Put.{Puts, Put}
use Rattle.put.specs.Decoded.{decoded}
use Rattle.put.proofs.Pieces.{put_of, put_as, put_then, put_length}
use Rattle.put.proofs.Decoding.{hex_decoded, hex_bytes}
use Rattle.agreement.specs.Steps.{lv_item}

module _ (q : Bytes) (t : T (is_hex 194 q)) where
  pub point_bytes : length (base16_decode q) ≡ 97
  point_bytes = hex_bytes 194 q t

  -- its length goes before it
  pub point_item : (97 ∷ []) ++ decoded q ≡ lv_item (base16_decode q)
  point_item = ap₂ {C = Bytes} (λ (n : ℕ) (b : Bytes). n ∷ b) (sym point_bytes) (hex_decoded 194 q t)

  pub point_put : {o o₁ o₂ : Bytes} {at next r : ℕ} → at + 98 ≤ length o → Puts o at (97 ∷ []) o₁ next → Puts o₁ next (decoded q) o₂ r
      → Put o at (lv_item (base16_decode q)) o₂ r
  point_put h p p' =
      let first = put_of (omega arith) p in
      let l : length (decoded q) ≡ 97 = ap length (hex_decoded 194 q t) ∙ point_bytes in
      put_as point_item (put_then first (put_of (omega (arith, first.next, put_length first, l)) p'))
