-- A text given to a hash, one item after another.
-- Assumes nothing.
use Prim.Native.Nat.{ℕ, ◌+◌, ◌≤◌, ◌<◌}
use mathlib.Core.Path.{◌≡◌, refl, sym, ap, ◌∙◌}
use mathlib.Core.List.{List, [], ◌∷◌, ◌++◌, append_assoc, append-nil}
use native.Mathlib.Omega.{arith}
use lib.ListN.{length, drop, get_or, replicate}
use lib.Dec.{T}
use Rattle.text.specs.Text.{Bytes, is_hex}
use Rattle.text.specs.Base16.{base16_decode}
use Rattle.put.specs.Put.{Puts}
use Rattle.put.specs.Decoded.{decoded}
use Rattle.put.proofs.Pieces.{put_of}
use Rattle.put.proofs.Decoding.{hex_decoded}
use Rattle.sha384.specs.declared.Sha384.{Sha384}
use Rattle.sha384.specs.State.{added}
use Rattle.sha384.proofs.Taken.{added_then}
use Rattle.format.specs.Kinds.{REQ}
use Rattle.format.specs.Read.{fields_in}
use Rattle.agreement.specs.Steps.{lv_item, item_for, text_of}
use Rattle.agreement.proofs.Decoding.{point_bytes, point_item}
use Rattle.agreement.proofs.Items.{entries, entries_more, entries_end, text_said}

-- ---- one item

module _ (s : Sha384) (l : length s.block ≡ 128) where
  -- one piece, and another
  pub given_two : (x y : Bytes) {t r : Sha384} → t ≡ added s x → r ≡ added t y → r ≡ added s (x ++ y)
  given_two x y e f = f ∙ ap (λ (h : Sha384). added h y) e ∙ added_then s x y l

-- in the array of a point the length stands before it
pub point_array : (q : Bytes) {o : Bytes} {r : ℕ} → T (is_hex 194 q) → Puts (97 ∷ replicate 97 0) 1 (decoded q) o r → o ≡ lv_item (base16_decode q)
point_array q t p =
    let n : length (decoded q) ≡ 97 = ap length (hex_decoded 194 q t) ∙ point_bytes q t in
    (put_of (omega (arith, n)) p).written ∙ rw n (ap (λ (x : Bytes). 97 ∷ x) (append-nil (decoded q)) ∙ point_item q t)

-- ---- all of them: the fields before i are given, from the state that has the count and the label
pub record Given (ns : List ℕ) (fs : List Bytes) (begun now : Sha384) (i : ℕ) : Type 0 where
  pub front : Bytes
  pub whole : front ++ entries fs (drop i ns) ≡ entries fs ns
  pub so : (s : Sha384) (x : Bytes) → length s.block ≡ 128 → begun ≡ added s x → now ≡ added s (x ++ front)

pub given_none : {ns : List ℕ} {fs : List Bytes} {t : Sha384} → Given ns fs t t 0
given_none = record { front = []; whole = refl; so = λ s x l e. e ∙ rw append-nil }

module _ {ns : List ℕ} {fs : List Bytes} {t u : Sha384} {i : ℕ} (g : Given ns fs t u i) where
  pub given_more : {v : Sha384} → i < length ns → v ≡ added u (lv_item (item_for fs (get_or ns i 0))) → Given ns fs t v (i + 1)
  given_more h e =
      let item = lv_item (item_for fs (get_or ns i 0)) in
      record {
        front = g.front ++ item;
        whole = append_assoc g.front item (entries fs (drop (i + 1) ns)) ∙ rw (← entries_more fs ns i h) g.whole;
        so = λ s x l f. given_two s l (x ++ g.front) item (g.so s x l f) e ∙ rw (append_assoc x g.front item);
      }

  pub given_all : (s : Sha384) (x : Bytes) → length ns ≤ i → length s.block ≡ 128 → t ≡ added s x → u ≡ added s (x ++ entries fs ns)
  given_all s x h l e =
      let all : g.front ≡ entries fs ns = sym (append-nil g.front) ∙ rw (← entries_end fs ns i h) g.whole in
      rw (← all) (g.so s x l e)

-- the count, the label and the fields
pub text_given : (s : Sha384) (label : Bytes) (ns : List ℕ) (request : Bytes) {r : Sha384} → r ≡ added s ((((1 + length ns) ∷ []) ++ lv_item label) ++ entries (fields_in REQ request) ns)
    → r ≡ added s (text_of label ns request)
text_given s label ns request e = e ∙ ap (added s) (append_assoc ((1 + length ns) ∷ []) (lv_item label) (entries (fields_in REQ request) ns) ∙ text_said label ns (fields_in REQ request))
