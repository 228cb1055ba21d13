-- What is promised of the choice: one of the two is chosen exactly where both are accepted public keys whose Subjects agree in kind,
-- Manufacturer and MID. Its GNT is not earlier than the other's, and the first goes before the second when they are equal.
-- Assumes nothing.
use mathlib.Core.Path.{◌≡◌, refl, ◌∙◌}
use mathlib.Core.Logic.{◌⊎◌, inl, inr, ◌↔◌}
use mathlib.Core.Bool.{Bool, true, false, cond}
use Rattle.text.specs.Text.{Bytes}
use Rattle.text.proofs.Tests.{T_true, T_false, by_test}
use Rattle.text.specs.Later.{later}
use Rattle.text.proofs.Later.{later_itself, later_one_way}
use Rattle.subjects.specs.Subjects.{alike}
use Rattle.subjects.proofs.Subjects.{alike_exactly}
use Rattle.newer.specs.Newer.{theFirst, theSecond, newer, choice_no}
use Rattle.newer.specs.Keys.{Key, gnt_of, Agreed}
use Rattle.newer.proofs.Choosing.{newer_keys, chosen_keys, chosen_agree, chosen_later}

module _ (a b : Bytes) where
  agreed : choice_no (newer a b) ≡ 0 → Agreed a b
  agreed z =
      let (p, q) = chosen_keys a b z in
      let (kinds, manufacturers, mids) = (alike_exactly p.who q.who p.names q.names).0 (chosen_agree a b z p q) in
      record { one = p; other = q; kinds = kinds; manufacturers = manufacturers; mids = mids }

  chosen : Agreed a b → choice_no (newer a b) ≡ 0
  chosen g =
      let p = g.one in
      let q = g.other in
      let t = (alike_exactly p.who q.who p.names q.names).1 (g.kinds, g.manufacturers, g.mids) in
      rw (newer_keys a b p q, T_true (alike p.who p.names q.who q.names) t) (go (later (gnt_of q) (gnt_of p)))
    where
      go : (l : Bool) → choice_no (cond l theSecond theFirst) ≡ 0
      go true = refl
      go false = refl

  pub agreed_exactly : (choice_no (newer a b) ≡ 0) ↔ Agreed a b
  agreed_exactly = (agreed, chosen)

  module _ (z : choice_no (newer a b) ≡ 0) (p : Key a) (q : Key b) where
    pub decided : ((newer a b ≡ theFirst) × (later (gnt_of q) (gnt_of p) ≡ false)) ⊎ ((newer a b ≡ theSecond) × (later (gnt_of p) (gnt_of q) ≡ false))
    decided =
        by_test (later (gnt_of q) (gnt_of p))
        (λ t. let e = T_true (later (gnt_of q) (gnt_of p)) t in inr (chosen_later a b z p q ∙ rw e, later_one_way (gnt_of q) (gnt_of p) e))
        (λ t. let e = T_false (later (gnt_of q) (gnt_of p)) t in inl (chosen_later a b z p q ∙ rw e, e))

    pub decided_equal : gnt_of p ≡ gnt_of q → newer a b ≡ theFirst
    decided_equal e = chosen_later a b z p q ∙ rw (e, later_itself (gnt_of q))
