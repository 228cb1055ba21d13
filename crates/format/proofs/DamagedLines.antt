-- Two files, of which the second is the first with damage, whatever call is asked about their lines and whatever the damage, if the call catches it in
-- one line: every line that differs is refused, and every other line gives the same answer.
-- Assumes nothing.
use Prim.Native.Nat.{ℕ, zero, suc, ◌+◌, ◌-◌, ◌≤◌, ◌<◌}
use mathlib.Core.Path.{◌≡◌, refl, sym, ap, ◌∙◌}
use mathlib.Core.Logic.{◌≢◌, ◌↔◌, ◌⊎◌, inl, inr, ⊎_elim}
use mathlib.Core.List.{[], ◌∷◌, Memᴰ}
use native.Mathlib.Omega.{arith}
use lib.Dec.{eqb, eqb→eq}
use lib.ListN.{length, take, drop, get_or, length-take, length-drop, get_or-eq_default}
use lib.Seq.{get_or-take, get_or-drop, ext_get_or}
use mir.Facts.{eqb_no}
use borrow.Author.Tests.{ne_eqb}
use Rattle.crc16.specs.Damage.{AreBytes}
use Rattle.text.specs.Text.{Bytes, part}
use Rattle.text.proofs.Tests.{by_test, less_or, T_true, T_false}
use Rattle.numbers.specs.Numbers.{unfinished}
use Rattle.format.specs.Read.{Outcome, accepted, refused}
use Rattle.format.specs.Files.{line_feed, up_to, Line, walk_from_over, walk_over}
use Rattle.format.specs.Damage.{Differ, Inside, Accepted, Refused, bytes_in, DamagedOver, DamagedBy, WithinTwo, Either, Catches, CatchesBy, Caught, AllCaught}
use Rattle.format.proofs.Outcomes.{Numbered, NeverZero}
use Rattle.format.proofs.Lines.{Feed, line_to, at_end, at_line, at_unfinished, by_place}

-- ---- lists

part-at : (p n k : ℕ) (s : Bytes) → k < n → get_or (part p n s) k 0 ≡ get_or s (p + k) 0
part-at p n k s h = get_or-take n (drop p s) k 0 h ∙ get_or-drop p s k 0

-- what relates two lists at the places of a part relates the parts
pub part_law : (R : ℕ → ℕ → Type 0) → R 0 0 → (p n k : ℕ) (x y : Bytes) → (k < n → R (get_or x (p + k) 0) (get_or y (p + k) 0))
    → R (get_or (part p n x) k 0) (get_or (part p n y) k 0)
part_law R z p n k x y f =
    let beyond : (s : Bytes) → n ≤ k → get_or (take n s) k 0 ≡ 0 = λ s h. get_or-eq_default (take n s) 0 (omega (arith, length-take n s)) in
    less_or k n
    (λ h. rw (part-at p n k x h, part-at p n k y h) (f h))
    (λ h. rw (beyond (drop p x) h, beyond (drop p y) h) z)

-- and the parts are equal where the lists are
pub part_same : (p n : ℕ) (x y : Bytes) → length x ≡ length y → ((k : ℕ) → p ≤ k → k < p + n → get_or x k 0 ≡ get_or y k 0) → part p n x ≡ part p n y
part_same p n x y long f =
    ext_get_or 0 (part p n x) (part p n y) (simp (length-take, length-drop, long))
    (λ k _. part_law ◌≡◌ refl p n k x y (λ t. f (p + k) (omega arith) (omega arith)))

pub part_bytes : (p n : ℕ) (s : Bytes) → AreBytes s → AreBytes (part p n s)
part_bytes p n s h k = part_law (λ c d. c < 256) (omega arith) p n k s s (λ _. h (p + k))

-- where no byte that differs is c, the first c stands at one place
up_to_length : (c : ℕ) (x y : Bytes) → length x ≡ length y → ((k : ℕ) → Differ x y k → (get_or x k 0 ≢ c) × (get_or y k 0 ≢ c))
    → length (up_to c x) ≡ length (up_to c y)
up_to_length c [] [] e h = refl
up_to_length c [] (b ∷ y) e h = absurd (omega arith)
up_to_length c (a ∷ x) [] e h = absurd (omega arith)
up_to_length c (a ∷ x) (b ∷ y) e h =
    let tests : eqb a c ≡ eqb b c =
    by_test (eqb a b) (λ t. rw (eqb→eq a b t)) (λ t. let n = h 0 (eqb_no t) in ne_eqb a c n.0 ∙ sym (ne_eqb b c n.1)) in
    rw tests
    (by_test (eqb b c) (λ t. rw (T_true (eqb b c) t)) (λ t. rw (T_false (eqb b c) t) (ap suc (up_to_length c x y (omega arith) (λ k. h (suc k))))))

-- two neighbouring places of a part are two of the list
pub within_part : (p n : ℕ) (x y : Bytes) → WithinTwo x y → WithinTwo (part p n x) (part p n y)
within_part p n x y (i, near) =
    (i - p, λ k f g. part_law ◌≡◌ refl p n k x y (λ _. near (p + k) (λ z. f (omega arith)) (λ z. g (omega arith))))

-- two neighbouring places of a line are two of the file
pub within_line : (a b : Bytes) (l : Line) → WithinTwo (bytes_in l a) (bytes_in l b) ↔ ((i : ℕ) × ((p : ℕ) → Inside l p → Differ a b p → (p ≡ i) ⊎ (p ≡ i + 1)))
within_line a b l = (
  λ (i, near). (
    l.start + i,
    λ p (low, high) differ.
        by_test (eqb p (l.start + i)) (λ t. inl (eqb→eq p _ t))
        (λ t. by_test (eqb p (l.start + i + 1)) (λ u. inr (eqb→eq p _ u))
        (λ u.
        let k : ℕ = p - l.start in
        let z : l.start + k ≡ p = omega arith in
        let first : p ≢ l.start + i = eqb_no t in
        let second : p ≢ l.start + i + 1 = eqb_no u in
        let same = near k (λ e. first (omega arith)) (λ e. second (omega arith)) in
        absurd (differ (cc (same, part-at l.start l.size k a (omega arith), part-at l.start l.size k b (omega arith)))))),
  ),
  λ (i, within). (
    i - l.start,
    λ k f g. part_law ◌≡◌ refl l.start l.size k a b
        (λ t. by_test (eqb (get_or a (l.start + k) 0) (get_or b (l.start + k) 0)) (eqb→eq _ _)
        (λ u. absurd (⊎_elim (λ z. f (omega arith)) (λ z. g (omega arith)) (within (l.start + k) (omega arith, omega arith) (eqb_no u))))),
  ),
)

-- ---- what is not accepted is refused

pub not_accepted : (call : Bytes → Outcome) → NeverZero call → (s : Bytes) → (Accepted (call s) → ⊥) → Refused (call s)
not_accepted call never-zero s = go (call s) (never-zero s)
  where
    go : (o : Outcome) → Numbered o → (Accepted o → ⊥) → Refused o
    go (accepted k fs) h f = absurd (f (k, fs, refl))
    go (refused zero i) h f = absurd h
    go (refused (suc n) i) h f = (suc n, i, refl, λ z. absurd (omega arith))

-- ---- the lines of two files

-- damage within two neighbouring places of the file is damage within two of each line
pub damaged_by_two : (call : Bytes → Outcome) (a b : Bytes) → DamagedOver call a b → DamagedBy call WithinTwo a b
damaged_by_two call a b d = record {
  bytes_a = d.bytes_a;
  bytes_b = d.bytes_b;
  long = d.long;
  no-feed = d.no-feed;
  in_accepted = d.in_accepted;
  harmed = λ l m p h differ. (within_line a b l).1 (d.within_two l m);
}

-- and a call that catches two neighbouring bytes catches it
pub catches_by_two : (call : Bytes → Outcome) → Catches call → CatchesBy call WithinTwo
catches_by_two call catches x y bx by long (i, near) = catches x y bx by long i near

module _ (call : Bytes → Outcome) (Harm : Bytes → Bytes → Type 0) (never-zero : NeverZero call) (catches : CatchesBy call Harm) (a b : Bytes) (d : DamagedBy call Harm a b) where
  feed_same : (p e : ℕ) → Feed a p e → Feed b p e
  feed_same p e f =
      f ∙ ap (◌+◌ p) (up_to_length line_feed (drop p a) (drop p b) (simp (length-drop, d.long))
      (λ k. simp get_or-drop (d.no-feed (p + k))))

  -- a line that a line feed ends
  caught : (start e : ℕ) → Memᴰ (line_to call a start e) (walk_over call a) → Caught a b (line_to call a start e) (line_to call b start e)
  caught start e m =
      let n : ℕ = e - start in
      let x : Bytes = part start n a in
      let y : Bytes = part start n b in
      let long : length x ≡ length y = simp (length-take, length-drop, d.long) in
      record {
        same_start = refl;
        same_size = refl;
        same_next = refl;
        refused_there = λ p (l, h) differ. not_accepted call never-zero y (λ acc.
            let same : x ≡ y =
            catches x y (part_bytes start n a d.bytes_a) (part_bytes start n b d.bytes_b) long (d.harmed _ m p (l, h) differ) (d.in_accepted _ m p (l, h) differ) acc in
            let z : start + (p - start) ≡ p = omega arith in
            differ (cc (part-at start n (p - start) a (omega arith), part-at start n (p - start) b (omega arith))));
        same_said = λ f. ap call (part_same start n a b d.long (λ k h g. f k (h, g)));
      }

  all_caught : (n p : ℕ) → ((l : Line) → Memᴰ l (walk_from_over call n a p) → Memᴰ l (walk_over call a)) → AllCaught a b (walk_from_over call n a p) (walk_from_over call n b p)
  unfolding walk_from_over AllCaught
  all_caught zero p listed = tt
  all_caught (suc n) p listed =
      let long = d.long in
      by_place a p (λ h. rw (at_end call a p h, at_end call b p (omega arith)) tt)
      (λ e f h.
      let here = at_line call a p e f h in
      let listed' = rw here at listed in
      rw (here, at_line call b p e (feed_same p e f) (omega arith))
      (caught p e (listed' _ (Memᴰ.head refl)), all_caught n (e + 1) (λ l m. listed' l (Memᴰ.tail m))))
      (λ e f l h.
      let here = at_unfinished call a p e f l h in
      let listed' = rw here at listed in
      rw (here, at_unfinished call b p e (feed_same p e f) (omega arith) (omega arith), ← long) (
        record { same_start = refl; same_size = refl; same_next = refl; refused_there = λ _ _ _. (unfinished, 0, refl, λ z. absurd (omega arith)); same_said = λ _. refl },
        all_caught n (length a) (λ l m. listed' l (Memᴰ.tail m)),
      ))

  pub all_lines_caught : AllCaught a b (walk_over call a) (walk_over call b)
  unfolding walk_over
  all_lines_caught = rw (← d.long) (all_caught (length a) 0 (λ l m. m))

pub either_caught : (call : Bytes → Outcome) (P Q : Bytes → Bytes → Type 0) → CatchesBy call P → CatchesBy call Q → CatchesBy call (Either P Q)
either_caught call P Q p q x y bx by long = ⊎_elim (p x y bx by long) (q x y bx by long)
