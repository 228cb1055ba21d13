-- Of two texts with the pattern of a TIMESTAMP the one that is later byte by byte is later by the parts of its date: the pattern
-- alone counts, and not the ranges of the parts. Of two TIMESTAMPs that one has the greater number of seconds. And later is an
-- order of TIMESTAMPs.
-- Assumes nothing.
use Prim.Native.Nat.{ℕ, zero, suc, ◌+◌, ◌-◌, ◌*◌, ◌<◌}
use mathlib.Core.Path.{◌≡◌, refl, sym, ap, ap₂, subst, ◌∙◌}
use mathlib.Core.Bool.{Bool, true, false, not, true≢false, false≢true}
use mathlib.Core.List.{List, [], ◌∷◌, ◌++◌}
use native.Mathlib.Omega.{arith}
use lib.ListN.{length, take, drop, take-append-drop}
use lib.Seq.{drop-drop}
use lib.Dec.{T, eqb, eqb→eq}
use lib.IntN.{ℤ, pos, negsuc}
use lib.Signed.{◌<ℤ◌, lt_z, <ℤ_irrefl}
use mir.Facts.{and_yes, yes_and}
use borrow.Author.Tests.{le-ltb, lt-ltb, ltb-true}
use Rattle.text.specs.Text.{Bytes, ascii, after, one_of, every, part, decimal, fits, looks, number_from, number, year, month, day, hour, minute, second, is_timestamp}
use Rattle.text.proofs.Tests.{T_true, T_false, by_test, cond_yes, cond_no, between_low, between_high}
use Rattle.text.proofs.Loops.{looks_pairwise, pairwise_length}
use Rattle.text.proofs.Types.{stamp, timestamp_looks}
use Rattle.text.specs.Seconds.{since_year_one, seconds, moment_of}
use Rattle.text.specs.Later.{instant, later}
use Rattle.text.proofs.Counting.{earlier_year, earlier_month, earlier_day}
use Rattle.text.proofs.Seconds.{parts, moment_seconds, seconds_less, sooner_day}
use Rattle.text.proofs.Order.{by_order, after_less, after_equal, after_more, after_neither}

-- ---- digits: two numbers of as many digits compare as their digits do

digits_less : (u v : Bytes) → length u ≡ length v → T (every decimal u) → T (every decimal v) → (m n : ℕ) → m < n
    → number_from m u < number_from n v
unfolding number_from
digits_less [] [] l hu hv m n h = h
digits_less [] (d ∷ v) l hu hv m n h = absurd (omega arith)
digits_less (c ∷ u) [] l hu hv m n h = absurd (omega arith)
digits_less (c ∷ u) (d ∷ v) l hu hv m n h =
    let hu' = and_yes (decimal c) (every decimal u) hu in
    let hv' = and_yes (decimal d) (every decimal v) hv in
    digits_less u v (omega arith) hu'.1 hv'.1 (10 * m + (c - 48)) (10 * n + (d - 48)) (omega (arith, between_high 48 57 c hu'.0))

module _ (s t : Bytes) (xs ys : List ℕ) (rest : after s t ≡ after xs ys) where
  digits_first : (u v : Bytes) → length u ≡ length v → T (every decimal u) → T (every decimal v) → (n : ℕ)
      → after (u ++ s) (v ++ t) ≡ after (number_from n u ∷ xs) (number_from n v ∷ ys)
  unfolding number_from
  digits_first [] [] l hu hv n = rest ∙ sym (after_equal n n xs ys refl)
  digits_first [] (d ∷ v) l hu hv n = absurd (omega arith)
  digits_first (c ∷ u) [] l hu hv n = absurd (omega arith)
  digits_first (c ∷ u) (d ∷ v) l hu hv n =
      let hu' = and_yes (decimal c) (every decimal u) hu in
      let hv' = and_yes (decimal d) (every decimal v) hv in
      let l' : length u ≡ length v = omega arith in
      let lc = between_low 48 57 c hu'.0 in
      let ld = between_low 48 57 d hv'.0 in
      let x : ℕ = 10 * n + (c - 48) in
      let y : ℕ = 10 * n + (d - 48) in
      by_order c d
      (λ h. after_less c d (u ++ s) (v ++ t) h
      ∙ sym (after_less (number_from x u) (number_from y v) xs ys (digits_less u v l' hu'.1 hv'.1 x y (omega arith))))
      (λ e. after_equal c d (u ++ s) (v ++ t) e
      ∙ digits_first u v l' hu'.1 hv'.1 x
      ∙ ap (λ (z : ℕ). after (number_from x u ∷ xs) (number_from z v ∷ ys)) (omega arith))
      (λ h. after_more c d (u ++ s) (v ++ t) h
      ∙ sym (after_more (number_from x u) (number_from y v) xs ys (digits_less v u (sym l') hv'.1 hu'.1 y x (omega arith))))

letters_first : (u s t : Bytes) → after (u ++ s) (u ++ t) ≡ after s t
letters_first [] s t = refl
letters_first (c ∷ u) s t = after_equal c c (u ++ s) (u ++ t) refl ∙ letters_first u s t

-- ---- a pattern, part by part

looks_drop : (i : ℕ) (p s : Bytes) → T (looks p s) → T (looks (drop i p) (drop i s))
unfolding looks
looks_drop zero p s h = h
looks_drop (suc i) [] [] h = h
looks_drop (suc i) [] (c ∷ s) h = absurd h
looks_drop (suc i) (q ∷ p) [] h = absurd h
looks_drop (suc i) (q ∷ p) (c ∷ s) h = looks_drop i p s (and_yes (fits q c) (looks p s) h).1

looks_take : (n : ℕ) (p s : Bytes) → T (looks p s) → T (looks (take n p) (take n s))
unfolding looks
looks_take zero p s h = tt
looks_take (suc n) [] [] h = h
looks_take (suc n) [] (c ∷ s) h = absurd h
looks_take (suc n) (q ∷ p) [] h = absurd h
looks_take (suc n) (q ∷ p) (c ∷ s) h =
    let h' = and_yes (fits q c) (looks p s) h in
    yes_and (fits q c) (looks (take n p) (take n s)) h'.0 (looks_take n p s h'.1)

-- a letter of a pattern that stands for itself
abbrev literal : ℕ → Bool
literal p = one_of (ascii "TZ") p

looks_digits : (p s : Bytes) → T (every (λ q. not (literal q)) p) → T (looks p s) → T (every decimal s)
unfolding looks
looks_digits [] [] d h = tt
looks_digits [] (c ∷ s) d h = absurd h
looks_digits (q ∷ p) [] d h = absurd h
looks_digits (q ∷ p) (c ∷ s) d h =
    let d' = and_yes (not (literal q)) (every (λ r. not (literal r)) p) d in
    let h' = and_yes (fits q c) (looks p s) h in
    yes_and (decimal c) (every decimal s) (rw (cond_no (literal q) (eqb c q) (decimal c) d'.0) at h'.0) (looks_digits p s d'.1 h'.1)

looks_letters : (p s : Bytes) → T (every literal p) → T (looks p s) → s ≡ p
unfolding looks
looks_letters [] [] d h = refl
looks_letters [] (c ∷ s) d h = absurd h
looks_letters (q ∷ p) [] d h = absurd h
looks_letters (q ∷ p) (c ∷ s) d h =
    let d' = and_yes (literal q) (every literal p) d in
    let h' = and_yes (fits q c) (looks p s) h in
    ap₂ {C = Bytes} (λ x r. x ∷ r) (eqb→eq c q (rw (cond_yes (literal q) (eqb c q) (decimal c) d'.0) at h'.0)) (looks_letters p s d'.1 h'.1)

-- ---- two texts of one pattern

-- n bytes from place i on, and what follows them
from_place : (i n : ℕ) (s : Bytes) → drop i s ≡ part i n s ++ drop (i + n) s
from_place i n s = sym (take-append-drop n (drop i s)) ∙ ap (λ (r : Bytes). part i n s ++ r) (drop-drop n i s)

module _ (p s t : Bytes) (hs : T (looks p s)) (ht : T (looks p t)) where
  looks_part : (i n : ℕ) (r : Bytes) → T (looks p r) → T (looks (part i n p) (part i n r))
  looks_part i n r h = looks_take n (drop i p) (drop i r) (looks_drop i p r h)

  as_long : (i n : ℕ) (r : Bytes) → T (looks p r) → length (part i n p) ≡ length (part i n r)
  as_long i n r h = pairwise_length fits looks looks_pairwise (part i n p) (part i n r) (looks_part i n r h)

  number_at : (i n : ℕ) → T (every (λ q. not (literal q)) (part i n p)) → (xs ys : List ℕ)
      → after (drop (i + n) s) (drop (i + n) t) ≡ after xs ys
      → after (drop i s) (drop i t) ≡ after (number (part i n s) ∷ xs) (number (part i n t) ∷ ys)
  number_at i n d xs ys e =
      ap₂ after (from_place i n s) (from_place i n t)
      ∙ digits_first (drop (i + n) s) (drop (i + n) t) xs ys e (part i n s) (part i n t) (sym (as_long i n s hs) ∙ as_long i n t ht)
      (looks_digits (part i n p) (part i n s) d (looks_part i n s hs)) (looks_digits (part i n p) (part i n t) d (looks_part i n t ht)) 0

  letters_at : (i n : ℕ) → T (every literal (part i n p)) → after (drop i s) (drop i t) ≡ after (drop (i + n) s) (drop (i + n) t)
  letters_at i n d =
      ap₂ after (from_place i n s) (from_place i n t)
      ∙ ap₂ (λ (u v : Bytes). after (u ++ drop (i + n) s) (v ++ drop (i + n) t))
      (looks_letters (part i n p) (part i n s) d (looks_part i n s hs)) (looks_letters (part i n p) (part i n t) d (looks_part i n t ht))
      ∙ letters_first (part i n p) (drop (i + n) s) (drop (i + n) t)

-- ---- TIMESTAMPs

stamp_end : (s : Bytes) → T (looks stamp s) → drop 16 s ≡ []
unfolding looks
stamp_end s h = looks_letters [] (drop 16 s) tt (looks_drop 16 stamp s h)

parts_by_bytes : (s t : Bytes) → T (looks stamp s) → T (looks stamp t) → after s t ≡ after (instant s) (instant t)
parts_by_bytes s t hs ht =
    let number = number_at stamp s t hs ht in
    let letters = letters_at stamp s t hs ht in
    let xs = instant s in
    let ys = instant t in
    number 0 4 tt (drop 1 xs) (drop 1 ys)
    (number 4 2 tt (drop 2 xs) (drop 2 ys)
    (number 6 2 tt (drop 3 xs) (drop 3 ys)
    (letters 8 1 tt
    ∙ number 9 2 tt (drop 4 xs) (drop 4 ys)
    (number 11 2 tt (drop 5 xs) (drop 5 ys)
    (number 13 2 tt [] []
    (letters 15 1 tt ∙ ap₂ after (stamp_end s hs) (stamp_end t ht)))))))

-- ---- the seconds of TIMESTAMPs

-- a list that is after another is so by its first part, or that is equal and the rest decides
first {ℓ} : {X : Type ℓ} (x y : ℕ) (xs ys : List ℕ) → after (x ∷ xs) (y ∷ ys) ≡ true → (y < x → X) → (x ≡ y → after xs ys ≡ true → X) → X
first x y xs ys h f g =
    by_order x y
    (λ l. absurd (true≢false (sym h ∙ after_less x y xs ys l)))
    (λ e. g e (sym (after_equal x y xs ys e) ∙ h))
    f

module _ (s t : Bytes) (hs : T (is_timestamp s)) where
  sooner : after (instant t) (instant s) ≡ true → since_year_one s < since_year_one t
  unfolding since_year_one
  sooner h =
      let p = parts s hs in
      let xs = instant t in
      let ys = instant s in
      first (year t) (year s) (drop 1 xs) (drop 1 ys) h
      (λ l. sooner_day s t hs (earlier_year p.date (year t) (month t) (day t) l))
      (λ ey h₁. first (month t) (month s) (drop 2 xs) (drop 2 ys) h₁
      (λ l. sooner_day s t hs (rw ey (earlier_month p.date (month t) (day t) l)))
      (λ em h₂. first (day t) (day s) (drop 3 xs) (drop 3 ys) h₂
      (λ l. sooner_day s t hs (rw (ey, em) (earlier_day p.date (day t) l)))
      (λ ed h₃. first (hour t) (hour s) (drop 4 xs) (drop 4 ys) h₃
      (λ l. rw (ey, em, ed) (omega (arith, p.minute_to, p.second_to)))
      (λ eh h₄. first (minute t) (minute s) (drop 5 xs) (drop 5 ys) h₄
      (λ l. rw (ey, em, ed, eh) (omega (arith, p.second_to)))
      (λ ei h₅. first (second t) (second s) [] [] h₅
      (λ l. rw (ey, em, ed, eh, ei) (omega arith))
      (λ es h₆. absurd (false≢true h₆)))))))

-- the order of the texts is the order of the seconds
pub later_seconds : (s t : Bytes) → T (is_timestamp s) → T (is_timestamp t) → after s t ≡ true → seconds t <ℤ seconds s
later_seconds s t hs ht h =
    seconds_less t s (sooner t s ht (sym (parts_by_bytes s t (timestamp_looks s hs) (timestamp_looks t ht)) ∙ h))

-- equal seconds only for equal texts
pub seconds_inj : (s t : Bytes) → T (is_timestamp s) → T (is_timestamp t) → seconds s ≡ seconds t → s ≡ t
seconds_inj s t hs ht e = after_neither s t (not_after s t hs ht e) (not_after t s ht hs (sym e))
  where
    not_after : (s t : Bytes) → T (is_timestamp s) → T (is_timestamp t) → seconds s ≡ seconds t → after s t ≡ false
    not_after s t hs ht e =
        by_test (after s t)
        (λ l. absurd (<ℤ_irrefl (subst (λ (z : ℤ). seconds t <ℤ z) e (later_seconds s t hs ht (T_true (after s t) l)))))
        (T_false (after s t))

-- ---- later

lt_z_itself : (z : ℤ) → lt_z z z ≡ false
lt_z_itself (pos n) = le-ltb n n (omega arith)
lt_z_itself (negsuc n) = le-ltb n n (omega arith)

lt_z_one_way : (y z : ℤ) → lt_z y z ≡ true → lt_z z y ≡ false
lt_z_one_way (pos m) (pos n) h = le-ltb n m (omega (arith, ltb-true m n h))
lt_z_one_way (pos m) (negsuc n) h = absurd (false≢true h)
lt_z_one_way (negsuc m) (pos n) h = refl
lt_z_one_way (negsuc m) (negsuc n) h = le-ltb m n (omega (arith, ltb-true n m h))

lt_z_trans : (x y z : ℤ) → lt_z x y ≡ true → lt_z y z ≡ true → lt_z x z ≡ true
lt_z_trans (pos l) (pos m) (pos n) h k = lt-ltb l n (omega (arith, ltb-true l m h, ltb-true m n k))
lt_z_trans (pos l) (pos m) (negsuc n) h k = k
lt_z_trans (pos l) (negsuc m) z h k = absurd (false≢true h)
lt_z_trans (negsuc l) y (pos n) h k = refl
lt_z_trans (negsuc l) (pos m) (negsuc n) h k = absurd (false≢true k)
lt_z_trans (negsuc l) (negsuc m) (negsuc n) h k = lt-ltb n l (omega (arith, ltb-true m l h, ltb-true n m k))

pub later_itself : (s : Bytes) → later s s ≡ false
unfolding later
later_itself s = lt_z_itself (moment_of s).seconds

pub later_trans : (s t u : Bytes) → later s t ≡ true → later t u ≡ true → later s u ≡ true
unfolding later
later_trans s t u h k = lt_z_trans (moment_of u).seconds (moment_of t).seconds (moment_of s).seconds k h

pub later_one_way : (s t : Bytes) → later s t ≡ true → later t s ≡ false
unfolding later
later_one_way s t = lt_z_one_way (moment_of t).seconds (moment_of s).seconds

module _ (s t : Bytes) (hs : T (is_timestamp s)) (ht : T (is_timestamp t)) where
  pub later_by_seconds : later s t ≡ lt_z (seconds t) (seconds s)
  unfolding later
  later_by_seconds = ap₂ lt_z (moment_seconds t ht) (moment_seconds s hs)

  -- of two TIMESTAMPs, it is the order of the texts, and so that of the parts of the date
  pub later_by_bytes : later s t ≡ after s t
  later_by_bytes =
      later_by_seconds
      ∙ by_test (after s t)
      (λ h. let e = T_true (after s t) h in T_true (lt_z (seconds t) (seconds s)) (later_seconds s t hs ht e).lt ∙ sym e)
      (λ h. let e = T_false (after s t) h in
      by_test (after t s)
      (λ k. lt_z_one_way (seconds s) (seconds t) (T_true (lt_z (seconds s) (seconds t)) (later_seconds t s ht hs (T_true (after t s) k)).lt) ∙ sym e)
      (λ k. ap (λ (x : Bytes). lt_z (seconds t) (seconds x)) (after_neither s t e (T_false (after t s) k)) ∙ lt_z_itself (seconds t) ∙ sym e))

  pub later_by_parts : later s t ≡ after (instant s) (instant t)
  later_by_parts = later_by_bytes ∙ parts_by_bytes s t (timestamp_looks s hs) (timestamp_looks t ht)

pub later_neither : (s t : Bytes) → T (is_timestamp s) → T (is_timestamp t) → later s t ≡ false → later t s ≡ false → s ≡ t
later_neither s t hs ht e f = after_neither s t (sym (later_by_bytes s t hs ht) ∙ e) (sym (later_by_bytes t s ht hs) ∙ f)
