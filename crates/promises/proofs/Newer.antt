-- The promises about the newer key, from the laws of newer.
-- Assumes nothing.
use Prim.Native.Nat.{ℕ}
use mathlib.Core.Path.{◌≡◌, refl, sym, ap, ◌∙◌}
use mathlib.Core.Logic.{◌≢◌, inl, inr, ⊎_elim}
use mathlib.Core.Bool.{Bool, true, false, cond}
use denote.Ref.{Bor}
use Rattle.text.specs.Text.{Bytes}
use Rattle.text.specs.Part.{NoPart}
use Rattle.text.specs.Later.{later}
use Rattle.text.proofs.Later.{later_neither}
use Rattle.numbers.specs.Numbers.{not_alike}
use Rattle.subjects.specs.Subjects.{alike}
use Rattle.newer.specs.declared.Choice.{Choice}
use Rattle.newer.specs.Keys.{gnt_of}
use Rattle.newer.specs.Newer as newer
use Rattle.newer.specs.Newer.{Decision, theFirst, theSecond, no_choice, choice_no, choice_said, choice_which, IsChosen, Chosen}
use Rattle.newer.proofs.Choosing.{newer_keys}
use Rattle.newer.proofs.Chosen.{agreed_exactly, decided, decided_equal}
use Rattle.promises.proofs.Statements.Newer.{NewerSaid, ChoiceSaid, Newer}

-- ---- which of the two

unlike : (agree after : Bool) → choice_no (cond agree (cond after theSecond theFirst) (no_choice 0 not_alike 0)) ≢ 0
    → choice_said (cond agree (cond after theSecond theFirst) (no_choice 0 not_alike 0)) ≡ record { no = not_alike; field = 0; which = 0 }
unlike true true n = absurd (n refl)
unlike true false n = absurd (n refl)
unlike false after n = refl

choice-said : (a b : Bytes) (r : Choice) → r ≡ choice_said (newer.newer a b) → ChoiceSaid a b r
unfolding newer.newer
choice-said a b r e =
    let exact = agreed_exactly a b in
    let number : r.no ≡ choice_no (newer.newer a b) = ap (λ (c : Choice). c.no) e in
    let which : (d : Decision) → newer.newer a b ≡ d → r.which ≡ choice_which d = λ d h. ap (λ (c : Choice). c.which) e ∙ ap choice_which h in
    record {
      exactly = (λ z. exact.0 (sym number ∙ z), λ g. number ∙ exact.1 g);
      not_earlier = λ z p q. ⊎_elim (λ (h, l). inl (which theFirst h, l)) (λ (h, l). inr (which theSecond h, l)) (decided a b (sym number ∙ z) p q);
      first_when_equal = λ z p q h. which theFirst (decided_equal a b (sym number ∙ z) p q h);
      first_refused = λ n i h. e ∙ rw h;
      second_refused = λ p n i h. e ∙ rw (p.is, h);
      not_alike = λ p q n. e ∙ ap choice_said (newer_keys a b p q) ∙ unlike (alike p.who p.names q.who q.names) (later (gnt_of q) (gnt_of p)) (λ z. n (number ∙ ap choice_no (newer_keys a b p q) ∙ z));
    }

-- ---- the record that is handed back

refused_empty : (a b part : Bor Bytes) (d : Decision) → choice_no d ≢ 0 → IsChosen d a b part → NoPart a part
refused_empty a b part theFirst h p = absurd (h refl)
refused_empty a b part theSecond h p = absurd (h refl)
refused_empty a b part (no_choice w m j) h p = p

newer_said : (a b part : Bor Bytes) (n i : ℕ) → Chosen (newer.newer a.now b.now) a b part n i → NewerSaid a b part n i
newer_said a b part n i c =
    let r : Choice = choice_said (newer.newer a.now b.now) in
    let said = choice-said a.now b.now r refl in
    let both : (m j w : ℕ) → r ≡ record { no = m; field = j; which = w } → (n ≡ m) × (i ≡ j) =
    λ m j w e. (c.number_so ∙ ap (λ (x : Choice). x.no) e, c.field_so ∙ ap (λ (x : Choice). x.field) e) in
    record {
      exactly = (λ z. said.exactly.0 (sym c.number_so ∙ z), λ g. c.number_so ∙ said.exactly.1 g);
      not_earlier = λ z p q. ⊎_elim (λ (e, l). inl (rw e at c.part_so, l)) (λ (e, l). inr (rw e at c.part_so, l)) (decided a.now b.now (sym c.number_so ∙ z) p q);
      first_when_equal = λ z p q e. rw (decided_equal a.now b.now (sym c.number_so ∙ z) p q e) at c.part_so;
      first_refused = λ m j h. both m j 1 (said.first_refused m j h);
      second_refused = λ p m j h. both m j 2 (said.second_refused p m j h);
      not_alike = λ p q h. both not_alike 0 0 (said.not_alike p q (λ z. h (c.number_so ∙ z)));
      nothing = λ h. refused_empty a b part (newer.newer a.now b.now) (λ z. h (c.number_so ∙ z)) c.part_so;
    }

pub newest : Newer
newest = record { said = λ κs a r s c. newer_said _ _ _ _ _ c; which = λ κs a r s c. choice-said _ _ r c; neither = later_neither }
