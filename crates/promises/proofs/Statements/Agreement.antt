-- The key agreement texts are the standard's own, and no two different lists of items share one (demand 2); a refused call leaves the
-- output as it was (demand 1).
-- Assumes nothing.
use Rattle.std.specs.Prelude.{ℕ, ◌+◌, ◌-◌, ◌≤◌, ◌<◌, ◌≡◌, ◌↔◌, ◌≢◌, List, [], ◌∷◌, ◌++◌, length, take, drop, get_or, T}
use Rattle.std.proofs.Math.Option.{some}
use Rattle.std.specs.Borrow.{Bor}
use Rattle.crc16.specs.Damage.{AreBytes}
use Rattle.text.specs.Text.{Bytes, ascii, part}
use Rattle.text.specs.Base16.{base16_decode}
use Rattle.text.specs.Part.{Part, NoPart}
use Rattle.format.specs.Kinds.{REQ}
use Rattle.format.specs.Requests.{id_sm, id_kmc, tvp, hwid, fwid}
use Rattle.numbers.specs.Numbers.{short_output}
use Rattle.format.specs.Build.{Permitted, Built}
use Rattle.format.specs.Read.{refused, read_of}
use Rattle.put.specs.declared.Written.{Written}
use Rattle.items.specs.Items.{lv_concat, concats, nth, items_of}
use Rattle.items.specs.declared.Place.{Place}
use Rattle.items.proofs.item_place.Reads as item-place
use Rattle.items.proofs.text_item.Reads as text-item
use Rattle.agreement.specs.Texts.{qe, shared_items, module_items, centre_items}
use Rattle.agreement.proofs.shared_info.Reads as shared-info
use Rattle.agreement.proofs.module_text.Reads as module-text
use Rattle.agreement.proofs.centre_text.Reads as centre-text
use Rattle.promises.specs.Calls.{Holds}

-- a call that makes the text of these items was lent the request and the output out, left it as out' and answered r
pub record TextSaid (items : List Bytes → List Bytes) (request out out' : Bytes) (r : Written) : Type 0 where
  -- 0 exactly for an accepted request, where there is room for its text
  pub exactly : (r.no ≡ 0) ↔ ((fs : List Bytes) × Built (REQ ∷ []) request REQ fs × (length (lv_concat (items fs)) ≤ length out))
  -- then the text stands at the front, and every byte past it stays
  pub written : (fs : List Bytes) → Built (REQ ∷ []) request REQ fs → length (lv_concat (items fs)) ≤ length out
      → (r.len ≡ length (lv_concat (items fs))) × (out' ≡ lv_concat (items fs) ++ drop (length (lv_concat (items fs))) out)
  -- the request's own refusal first, any kind but VKLOAD.REQ.1 answering 2; then 10
  pub own : (n i : ℕ) → read_of (REQ ∷ []) request ≡ refused n i → (r.no ≡ n) × (r.field ≡ i)
  pub short : (fs : List Bytes) → Built (REQ ∷ []) request REQ fs → length out < length (lv_concat (items fs)) → (r.no ≡ short_output) × (r.field ≡ 0)
  -- demand 1
  pub untouched : r.no ≢ 0 → (r.len ≡ 0) × (out' ≡ out)

-- the item call: 0 exactly for a text that LVCONCAT writes, of a list that has an item of this number, and then it hands back that item,
-- which stands behind the items before it and its own length; else the empty part at the front
pub record ItemSaid (text : Bor Bytes) (wanted : ℕ) (part : Bor Bytes) (number : ℕ) : Type 0 where
  pub exactly : AreBytes text.now
      → (number ≡ 0) ↔ ((is : List Bytes) × T (concats is) × (text.now ≡ lv_concat is) × ((x : Bytes) × (nth wanted is ≡ some x)))
  pub its_item : (is : List Bytes) (x : Bytes) → text.now ≡ lv_concat is → nth wanted is ≡ some x
      → Part text (length (lv_concat (take (wanted - 1) is)) + 1) x part
  pub only_12 : number ≢ 0 → (number ≡ 12) × NoPart text part

-- the same of the call that answers with start and length
pub record ItemPlaceSaid (text : Bytes) (wanted : ℕ) (r : Place) : Type 0 where
  pub exactly : AreBytes text → (r.no ≡ 0) ↔ ((is : List Bytes) × T (concats is) × (text ≡ lv_concat is) × ((x : Bytes) × (nth wanted is ≡ some x)))
  pub its_item : (is : List Bytes) (x : Bytes) → text ≡ lv_concat is → nth wanted is ≡ some x
      → (r.start ≡ length (lv_concat (take (wanted - 1) is)) + 1) × (r.start + r.len ≤ length text) × (part r.start r.len text ≡ x)
  pub only_12 : r.no ≢ 0 → (r.no ≡ 12) × (r.start ≡ 0) × (r.len ≡ 0)

pub record Agreement : Type 0 where
  pub shared-info : Holds shared-info.Post (λ κs a r s. TextSaid shared_items a.0.now a.1.0.now s.1.0.now r)
  pub module-text : Holds module-text.Post (λ κs a r s. TextSaid module_items a.0.now a.1.0.now s.1.0.now r)
  pub centre-text : Holds centre-text.Post (λ κs a r s. TextSaid centre_items a.0.now a.1.0.now s.1.0.now r)
  pub item : Holds text-item.Post (λ κs a r s. ItemSaid a.0 a.1.0 r s.1.1.0.now)
  pub item-place : Holds item-place.Post (λ κs a r s. ItemPlaceSaid a.0.now a.1.0 r)
  -- the items, and their order
  pub shared-items : (fs : List Bytes) → shared_items fs ≡ ascii "STS.KAA.1" ∷ id_sm fs ∷ id_kmc fs ∷ tvp fs ∷ []
  pub module-items : (fs : List Bytes) → module_items fs ≡ ascii "U_2" ∷ id_sm fs ∷ id_kmc fs ∷ qe fs ∷ tvp fs ∷ hwid fs ∷ fwid fs ∷ []
  pub centre-items : (fs : List Bytes) → centre_items fs ≡ ascii "V2" ∷ id_kmc fs ∷ id_sm fs ∷ tvp fs ∷ qe fs ∷ []
  -- QE is decoded, and every other item is the request's field as it stands, its very bytes
  pub very_bytes : (fs : List Bytes)
      → (id_sm fs ≡ get_or fs 0 []) × (id_kmc fs ≡ get_or fs 1 []) × (tvp fs ≡ get_or fs 2 []) × (hwid fs ≡ get_or fs 3 []) × (fwid fs ≡ get_or fs 4 [])
      × (qe fs ≡ base16_decode (get_or fs 5 []))
  -- no two different lists of items share a text
  pub one_to_one : (is js : List Bytes) → lv_concat is ≡ lv_concat js → is ≡ js
  -- each text, read back, has its items
  pub read_back : (is : List Bytes) → items_of (lv_concat is) ≡ some is
  -- which are lists that LVCONCAT takes
  pub taken : (fs : List Bytes) → Permitted REQ fs → T (concats (shared_items fs)) × T (concats (module_items fs)) × T (concats (centre_items fs))
  -- QE goes in as 97 bytes
  pub decoded : (fs : List Bytes) → Permitted REQ fs → length (qe fs) ≡ 97
