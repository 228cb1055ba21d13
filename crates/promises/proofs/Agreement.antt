-- The promises of the key agreement texts, from the laws of format, items and agreement.
-- Assumes nothing.
use Prim.Native.Nat.{ℕ, ◌+◌, ◌-◌}
use mathlib.Core.Path.{◌≡◌, refl, sym, ap, ◌∙◌}
use mathlib.Core.Logic.{◌↔◌, ◌≢◌}
use mathlib.Core.Option.{Option, none, some}
use mathlib.Core.List.{List, [], ◌∷◌}
use native.Mathlib.Omega.{arith}
use lib.ListN.{length, take}
use lib.Dec.{T}
use Rattle.crc16.specs.Damage.{AreBytes}
use denote.Ref.{Bor}
use Rattle.text.specs.Text.{Bytes}
use Rattle.text.proofs.Part.{same_part}
use Rattle.format.specs.Kinds.{Kind, REQ}
use Rattle.format.specs.Build.{Built}
use Rattle.format.specs.Read.{accepted, read_of}
use Rattle.format.proofs.Outcomes.{Numbered, honest_map}
use Rattle.format.proofs.Exactly.{read_exact, read_says}
use Rattle.put.specs.Made.{Writes}
use Rattle.put.specs.declared.Written.{Written}
use Rattle.items.specs.Items.{lv_concat, concats, items_of, nth, nth_of, text_item, item_bytes}
use Rattle.items.specs.Place.{behind, place_from, item_place, ItemPlaced, ItemHanded}
use Rattle.items.specs.declared.Place.{Place}
use Rattle.items.proofs.OneToOne.{concat_inj, items_back, item_exact}
use Rattle.items.proofs.Places.{behind_items, nth_within}
use Rattle.given.proofs.Given.{said_own, said_short, said_whole, said_zero, refusal_leaves}
use Rattle.agreement.specs.Texts.{text_made, shared_info, module_text, centre_text}
use Rattle.agreement.proofs.Request.{one_built}
use Rattle.agreement.proofs.Texts.{items_concat, qe_length}
use Rattle.promises.proofs.Statements.Agreement.{TextSaid, ItemSaid, ItemPlaceSaid, Agreement}

-- ---- a text

text_said : (items : List Bytes → List Bytes) (request out out' : Bytes) (r : Written) → Writes (text_made items request (length out)) out out' r
    → TextSaid items request out out' r
text_said items request out out' r w =
    let text : Kind → List Bytes → Bytes = λ k fs. lv_concat (items fs) in
    let read : (fs : List Bytes) → Built (REQ ∷ []) request REQ fs → read_of (REQ ∷ []) request ≡ accepted REQ fs = λ fs b. (read_exact (REQ ∷ []) request REQ fs).1 b in
    let numbered : Numbered (read_of (REQ ∷ []) request) = honest_map (λ k fs b. tt) (read_of (REQ ∷ []) request) (read_says (REQ ∷ []) request) in
    record {
      exactly = (λ z. let (k, fs, e, h) = said_zero text w numbered z in (fs, one_built REQ request e, h), λ (fs, b, h). (said_whole text w (read fs b) h).0);
      written = λ fs b h. let (z, l, o) = said_whole text w (read fs b) h in (l, o);
      own = said_own text w;
      short = λ fs b h. said_short text w (read fs b) h;
      untouched = refusal_leaves (text_made items request (length out)) w;
    }

-- ---- an item

module _ (start : ℕ) where
  found : (o : Option Bytes) → (place_from start o).no ≡ 0 → (x : Bytes) × (o ≡ some x)
  found none z = absurd (omega arith)
  found (some x) z = (x, refl)

  only : (o : Option Bytes) → (place_from start o).no ≢ 0
      → ((place_from start o).no ≡ 12) × ((place_from start o).start ≡ 0) × (item_bytes o ≡ []) × ((place_from start o).len ≡ 0)
  only none n = (refl, refl, refl, refl)
  only (some x) n = absurd (n refl)

-- what the place of an item is, by the text's items
module _ (text : Bytes) (wanted : ℕ) where
  abbrev start : ℕ
  start = behind (wanted - 1) text + 1

  item_exactly : AreBytes text → ((item_place text wanted).no ≡ 0) ↔ ((is : List Bytes) × T (concats is) × (text ≡ lv_concat is) × ((x : Bytes) × (nth wanted is ≡ some x)))
  unfolding text_item
  item_exactly b = (
    λ z.
        let (x, e) = found start (text_item text wanted) z in
        let (is, c, q, n) = (item_exact text wanted x b).0 e in
        (is, c, q, (x, n)),
    λ g. ap (λ (p : Option Bytes). (place_from start p).no) ((item_exact text wanted g.3.0 b).1 (g.0, g.1, g.2, g.3.1)),
  )

  item_there : (is : List Bytes) (x : Bytes) → text ≡ lv_concat is → nth wanted is ≡ some x
      → ((item_place text wanted).start ≡ length (lv_concat (take (wanted - 1) is)) + 1) × (item_bytes (text_item text wanted) ≡ x)
  unfolding text_item
  item_there is x q n =
      let e : text_item text wanted ≡ some x = ap (λ (p : Option (List Bytes)). nth_of wanted p) (ap items_of q ∙ items_back is) ∙ n in
      let there : start ≡ length (lv_concat (take (wanted - 1) is)) + 1 =
      ap (λ (p : ℕ). p + 1) (ap (behind (wanted - 1)) q ∙ behind_items (wanted - 1) is (omega (arith, nth_within wanted is x n))) in
      (ap (λ (p : Option Bytes). (place_from start p).start) e ∙ there, ap item_bytes e)

item_said : (text : Bor Bytes) (wanted : ℕ) (part : Bor Bytes) (m : ℕ) → ItemHanded text wanted part m → ItemSaid text wanted part m
item_said text wanted part m h = record {
  exactly = λ b. let x = item_exactly text.now wanted b in (λ z. x.0 (sym h.number_so ∙ z), λ g. h.number_so ∙ x.1 g);
  its_item = λ is x q n. let (there, bytes) = item_there text.now wanted is x q n in same_part there bytes h.part_so;
  only_12 = λ n.
      let (twelve, front, empty, short) = only (start text.now wanted) (text_item text.now wanted) (λ z. n (h.number_so ∙ z)) in
      (h.number_so ∙ twelve, same_part front empty h.part_so);
}

item_place_said : (text : Bytes) (wanted : ℕ) (r : Place) → ItemPlaced text wanted r → ItemPlaceSaid text wanted r
item_place_said text wanted r h =
    let number : r.no ≡ (item_place text wanted).no = ap (λ (p : Place). p.no) h.said in
    record {
      exactly = λ b. let x = item_exactly text wanted b in (λ z. x.0 (sym number ∙ z), λ g. number ∙ x.1 g);
      its_item = λ is x q n.
          let (there, bytes) = item_there text wanted is x q n in
          (ap (λ (p : Place). p.start) h.said ∙ there, h.inside, h.bytes ∙ bytes);
      only_12 = λ n.
          let (twelve, front, empty, short) = only (start text wanted) (text_item text wanted) (λ z. n (number ∙ z)) in
          (number ∙ twelve, ap (λ (p : Place). p.start) h.said ∙ front, ap (λ (p : Place). p.len) h.said ∙ short);
    }

pub agreement : Agreement
unfolding shared_info module_text centre_text
agreement = record {
  shared-info = λ κs a r s w. text_said _ _ _ _ r w;
  module-text = λ κs a r s w. text_said _ _ _ _ r w;
  centre-text = λ κs a r s w. text_said _ _ _ _ r w;
  item = λ κs a r s h. item_said _ _ _ _ h;
  item-place = λ κs a r s h. item_place_said _ _ r h;
  shared-items = λ fs. refl;
  module-items = λ fs. refl;
  centre-items = λ fs. refl;
  very_bytes = λ fs. (refl, refl, refl, refl, refl, refl);
  one_to_one = concat_inj;
  read_back = items_back;
  taken = items_concat;
  decoded = λ fs p. qe_length p;
}
