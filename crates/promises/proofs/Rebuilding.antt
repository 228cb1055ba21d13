-- What the field calls hand back one after another are the fields, so building gives the record again.
-- Assumes nothing.
use Prim.Native.Nat.{ℕ, suc, ◌≤◌}
use mathlib.Core.Path.{◌≡◌, sym, ap, ap₂, ◌∙◌}
use mathlib.Core.Bool.{not}
use mathlib.Core.Option.{none, some}
use mathlib.Core.Logic.{◌↔◌}
use mathlib.Core.List.{List, [], ◌∷◌}
use native.Mathlib.Omega.{arith}
use lib.Dec.{T}
use lib.ListN.{length, drop, drop_of_length-le}
use lib.Seq.{drop-cons}
use denote.Ref.{Bor}
use borrow.Author.Tests.{le-leb}
use Rattle.text.specs.Text.{Bytes, between}
use Rattle.text.proofs.Tests.{by_test, less_or, cond_yes, cond_no, between_high}
use Rattle.numbers.specs.Numbers.{missing_item}
use Rattle.format.specs.Kinds.{Kind, identity_kinds, record_kinds}
use Rattle.format.specs.Build.{Built}
use Rattle.format.specs.Read.{Outcome, accepted, read_identity, read_record}
use Rattle.format.proofs.Outcomes.{Honest, honest_zero}
use Rattle.format.proofs.Exactly.{identity_says, identity_exact, record_says, record_exact}
use Rattle.table.specs.Table.{row_of, kind_of}
use Rattle.table.proofs.Rows.{of-kind}
use Rattle.reading.specs.declared.Answer.{Answer}
use Rattle.reading.specs.Reading.{answer_of}
use Rattle.reading.proofs.Answers.{told}
use Rattle.fields.specs.Fields.{wanted_part, wanted_no}
use Rattle.fields.specs.declared.Place.{Place}
use Rattle.put.specs.Made.{Made, made, says, leaves}
use Rattle.put.specs.declared.Written.{Written}
use Rattle.building.specs.Building.{build}
use Rattle.promises.proofs.Statements.Rebuilding as asked
use Rattle.promises.proofs.Statements.Rebuilding.{Asked, IdentityField, RecordField, IdentityPlace, RecordPlace, BuildsAgain, Rebuilding}
use Rattle.promises.proofs.Building.{again}

-- ---- the fields, asked for one after another

too_far : (m n : ℕ) → T (not (between 1 m (suc n))) → m ≤ n
too_far m n t = less_or n m (λ l. absurd (rw (le-leb 1 (suc n) (omega arith), le-leb (suc n) m l) at t)) (λ l. l)

module _ (k : Kind) (fs : List Bytes) (Says : ℕ → Bytes → ℕ → Type 0)
    (sound : (n : ℕ) (x : Bytes) (m : ℕ) → Says n x m → (m ≡ wanted_no (accepted k fs) n) × (x ≡ wanted_part (accepted k fs) n)) where
  asked_fields : (n : ℕ) (xs : List Bytes) → Asked Says (suc n) xs → xs ≡ drop n fs
  unfolding wanted_no wanted_part
  asked_fields n [] (asked.none {x = x} p) =
      by_test (between 1 (length fs) (suc n))
      (λ t. absurd (omega (arith, (sound (suc n) x 12 p).0 ∙ cond_yes (between 1 (length fs) (suc n)) 0 missing_item t)))
      (λ t. sym (drop_of_length-le fs (too_far (length fs) n t)))
  asked_fields n (x ∷ xs) (asked.more p q) =
      by_test (between 1 (length fs) (suc n))
      (λ t. ap₂ ◌∷◌ (sound (suc n) x 0 p).1 (asked_fields (suc n) xs q) ∙ sym (drop-cons fs n [] (between_high 1 (length fs) (suc n) t)))
      (λ t. absurd (omega (arith, (sound (suc n) x 0 p).0 ∙ cond_no (between 1 (length fs) (suc n)) 0 missing_item t)))

-- ---- built again

gives : (ks : List Kind) (s : Bytes) (k : Kind) (fs : List Bytes) → Built ks s k fs → BuildsAgain s k fs
gives ks s k fs b κs a r t w named bytes lens room =
    let e : build a.0.now a.1.0.now a.1.1.0.now (length a.1.1.1.0.now) ≡ made s = rw (named, bytes, lens) (again ks s k fs b (length a.1.1.1.0.now) room) in
    let said : r ≡ says (made s) = w.said ∙ ap says e in
    (ap (λ (x : Written). x.no) said, ap (λ (x : Written). x.len) said, w.left ∙ ap (λ (m : Made). leaves m a.1.1.1.0.now) e)

-- two kinds in one row are one
one_row : (j k : Kind) → row_of j ≡ row_of k → j ≡ k
one_row j k e = let q : some j ≡ some k = sym (of-kind some none j) ∙ ap kind_of e ∙ of-kind some none k in cc

-- ---- a call that reads, and one that hands back what it says

module _ (lent : Bor Bytes) (k : Kind) (xs : List Bytes) where
  -- o is what reading says of the lent bytes, and r its answer
  from_reading : (ks : List Kind) (o : Outcome) → ((j : Kind) (fs : List Bytes) → (o ≡ accepted j fs) ↔ Built ks lent.now j fs) → Honest (Built ks lent.now) o
      → (r : Answer) → r ≡ answer_of o → r.no ≡ 0 → r.kind ≡ row_of k
      → (Says : ℕ → Bytes → ℕ → Type 0) → ((n : ℕ) (x : Bytes) (m : ℕ) → Says n x m → (m ≡ wanted_no o n) × (x ≡ wanted_part o n))
      → Asked Says 1 xs → BuildsAgain lent.now k xs
  from_reading ks o exact honest r e z row Says sound q =
      let (j, fs, h) = honest_zero (Built ks lent.now) o honest (sym (told o r e).0 ∙ z) in
      let same : j ≡ k = one_row j k (sym (ap (λ (a : Answer). a.kind) (e ∙ ap answer_of h)) ∙ row) in
      let all : xs ≡ fs = asked_fields j fs Says (λ n x m s. rw (← h) (sound n x m s)) 0 xs q in
      rw (← same, all) (gives ks lent.now j fs ((exact j fs).0 h))

pub rebuilding : Rebuilding
rebuilding = record {
  identity_parts = λ lent k xs (κs, (a, (r, (s, (p, (e, z, row)))))) q.
      from_reading lent k xs identity_kinds (read_identity lent.now) (identity_exact lent.now) (identity_says lent.now) r (rw e at p) z row
      (IdentityField lent) (λ n x m (κs, (a, (r, (s, (p, (e, w, h, y)))))). (sym y ∙ p.its_no ∙ rw (e, w), sym h ∙ p.its_part.holds ∙ rw (e, w))) q;
  record_parts = λ lent k xs (κs, (a, (r, (s, (p, (e, z, row)))))) q.
      from_reading lent k xs record_kinds (read_record lent.now) (record_exact lent.now) (record_says lent.now) r (rw e at p) z row
      (RecordField lent) (λ n x m (κs, (a, (r, (s, (p, (e, w, h, y)))))). (sym y ∙ p.its_no ∙ rw (e, w), sym h ∙ p.its_part.holds ∙ rw (e, w))) q;
  identity_places = λ lent k xs (κs, (a, (r, (s, (p, (e, z, row)))))) q.
      from_reading lent k xs identity_kinds (read_identity lent.now) (identity_exact lent.now) (identity_says lent.now) r (rw e at p) z row
      (IdentityPlace lent) (λ n x m (κs, (a, (r, (s, (p, (e, w, h, y)))))). (sym y ∙ ap (λ (x : Place). x.no) p.said ∙ rw (e, w), sym h ∙ (rw (e, w) at p.bytes))) q;
  record_places = λ lent k xs (κs, (a, (r, (s, (p, (e, z, row)))))) q.
      from_reading lent k xs record_kinds (read_record lent.now) (record_exact lent.now) (record_says lent.now) r (rw e at p) z row
      (RecordPlace lent) (λ n x m (κs, (a, (r, (s, (p, (e, w, h, y)))))). (sym y ∙ ap (λ (x : Place). x.no) p.said ∙ rw (e, w), sym h ∙ (rw (e, w) at p.bytes))) q;
}
