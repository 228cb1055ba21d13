-- What a call that writes something of a record does: how its code meets `given`, and what then holds of its answer and of the output.
-- Assumes nothing.
use Prim.Native.Nat.{ℕ, ◌≤◌, ◌<◌}
use mathlib.Core.Path.{◌≡◌, refl, sym, ap, ◌∙◌}
use mathlib.Core.Logic.{◌≢◌}
use mathlib.Core.Bool.{Bool, true, false, cond}
use mathlib.Core.List.{List, ◌++◌}
use native.Mathlib.Omega.{arith}
use lib.ListN.{length, drop}
use lib.Dec.{leb, leb→le}
use borrow.Author.Tests.{le-leb, lt-leb}
use Rattle.text.specs.Text.{Bytes}
use Rattle.text.proofs.Tests.{true_T}
use Rattle.numbers.specs.Numbers.{short_output}
use Rattle.format.specs.Kinds.{Kind}
use Rattle.format.specs.Read.{Outcome, accepted, refused}
use Rattle.format.proofs.Outcomes.{Numbered}
use Rattle.reading.specs.Reading.{answer_of}
use Rattle.reading.specs.declared.Answer.{Answer}
use Rattle.reading.proofs.Answers.{untaken}
use Rattle.put.specs.Put.{Put}
use Rattle.put.specs.Made.{Made, made, denied, says, leaves, Writes}
use Rattle.put.specs.declared.Written.{Written}
use Rattle.put.proofs.Pieces.{put_whole, put_denied}
use Rattle.given.specs.Given.{given}

-- what is said and left where these bytes are made
pub made_said : {m : Made} {v out out' : Bytes} {r : Written} → m ≡ made v → Writes m out out' r → (r.no ≡ 0) × (r.len ≡ length v) × (out' ≡ v ++ drop (length v) out)
made_said {m} {v} {out} e w =
    let said : _ ≡ says (made v) = w.said ∙ ap says e in
    (ap (λ (x : Written). x.no) said, ap (λ (x : Written). x.len) said, w.left ∙ ap (λ (x : Made). leaves x out) e)

module _ (bytes : Kind → List Bytes → Bytes) where
  -- ---- the code's three ways

  -- a is the answer to the record, a refusal
  pub given_refused : (o : Outcome) {a : Answer} → a ≡ answer_of o → (a.no ≡ 0 → ⊥) → (out : Bytes) (w : Written) → w ≡ says (denied a.no a.field)
      → Writes (given bytes (length out) o) out out w
  given_refused o {a} own n out w e = rw (untaken o a own n) (put_denied w e)

  module _ {o : Outcome} {k : Kind} {fs : List Bytes} (is : o ≡ accepted k fs) where
    pub given_short : (out : Bytes) (w : Written) → length out < length (bytes k fs) → w ≡ says (denied short_output 0) → Writes (given bytes (length out) o) out out w
    given_short out w h e = rw (is, lt-leb (length (bytes k fs)) (length out) h) (put_denied w e)

    pub given_put : {out out' : Bytes} {n : ℕ} → Put out 0 (bytes k fs) out' n → Writes (given bytes (length out) o) out out' (record { no = 0; field = 0; len = n })
    given_put {out} p = rw (is, le-leb (length (bytes k fs)) (length out) (omega (arith, p.fits))) (put_whole p)

  -- ---- what was made

  -- it was made of what was accepted, and there was room
  pub given_made : (room : ℕ) (o : Outcome) (v : Bytes) → given bytes room o ≡ made v
      → (k : Kind) × (fs : List Bytes) × (o ≡ accepted k fs) × (v ≡ bytes k fs) × (length (bytes k fs) ≤ room)
  given_made room (accepted k fs) v e = go (leb (length (bytes k fs)) room) refl e
    where
      go : (b : Bool) → leb (length (bytes k fs)) room ≡ b → cond b (made (bytes k fs)) (denied short_output 0) ≡ made v
          → (j : Kind) × (gs : List Bytes) × (accepted k fs ≡ accepted j gs) × (v ≡ bytes j gs) × (length (bytes j gs) ≤ room)
      go true t e = (k, fs, refl, cc, leb→le (length (bytes k fs)) room (true_T _ t))
      go false t e = absurd (let z : ◌≡◌ {A = ℕ} 0 1 = cc in omega arith)
  given_made room (refused n i) v e = absurd (let z : ◌≡◌ {A = ℕ} 0 1 = cc in omega arith)

  -- ---- what is said and left

  module _ {o : Outcome} {out out' : Bytes} {r : Written} (w : Writes (given bytes (length out) o) out out' r) where
    pub said_own : (n i : ℕ) → o ≡ refused n i → (r.no ≡ n) × (r.field ≡ i)
    said_own n i e = rw (w.said, e) (refl, refl)

    pub said_short : {k : Kind} {fs : List Bytes} → o ≡ accepted k fs → length out < length (bytes k fs) → (r.no ≡ short_output) × (r.field ≡ 0)
    said_short {k} {fs} e h = rw (w.said, e, lt-leb (length (bytes k fs)) (length out) h) (refl, refl)

    pub said_whole : {k : Kind} {fs : List Bytes} → o ≡ accepted k fs → length (bytes k fs) ≤ length out
        → (r.no ≡ 0) × (r.len ≡ length (bytes k fs)) × (out' ≡ bytes k fs ++ drop (length (bytes k fs)) out)
    said_whole {k} {fs} e h =
        let m : given bytes (length out) o ≡ made (bytes k fs) = rw (e, le-leb (length (bytes k fs)) (length out) h) in
        made_said m w

    -- 0 is said of what is accepted and fits, and of nothing else
    pub said_zero : Numbered o → r.no ≡ 0 → (k : Kind) × (fs : List Bytes) × (o ≡ accepted k fs) × (length (bytes k fs) ≤ length out)
    said_zero h z = go o h (sym (ap (λ (x : Written). x.no) w.said) ∙ z)
      where
        fits : (k : Kind) (fs : List Bytes) (b : Bool) → leb (length (bytes k fs)) (length out) ≡ b → (says (cond b (made (bytes k fs)) (denied short_output 0))).no ≡ 0
            → length (bytes k fs) ≤ length out
        fits k fs true t z = leb→le (length (bytes k fs)) (length out) (true_T _ t)
        fits k fs false t z = absurd (omega arith)

        go : (p : Outcome) → Numbered p → (says (given bytes (length out) p)).no ≡ 0 → (k : Kind) × (fs : List Bytes) × (p ≡ accepted k fs) × (length (bytes k fs) ≤ length out)
        go (accepted k fs) h z = (k, fs, refl, fits k fs (leb (length (bytes k fs)) (length out)) refl z)
        go (refused n i) h z = absurd (rw z at h)

-- whatever is made, a refusal leaves the output
pub refusal_leaves : (m : Made) {out out' : Bytes} {r : Written} → Writes m out out' r → r.no ≢ 0 → (r.len ≡ 0) × (out' ≡ out)
refusal_leaves (made v) w n = absurd (n (ap (λ (x : Written). x.no) w.said))
refusal_leaves (denied m i) w n = (ap (λ (x : Written). x.len) w.said, w.left)
