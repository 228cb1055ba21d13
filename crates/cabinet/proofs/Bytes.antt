-- Bytes of a place: where it stands, what is written there, and the names in it, as the code looks at them.
-- Assumes nothing.
use native.Mathlib.Numerals.{add-one}
use Prim.Native.Nat.{zero, suc, ℕ, ◌+◌, ◌-◌, ◌*◌, ◌≤◌, ◌<◌}
use Prim.Native.Char.{code}
use mathlib.Core.Path.{◌≡◌, refl, sym, ap, ap₂, ◌∙◌}
use mathlib.Core.Logic.{inl, inr}
use mathlib.Core.Bool.{Bool, ◌&&◌}
use mathlib.Core.List.{[], ◌∷◌, ◌++◌, append_assoc, append-nil}
use native.Mathlib.Omega.{arith}
use lib.ListN.{get_or, set, get_or-eq_default, length, take, drop, length-append, length-drop, drop_of_length-le, take-append-drop}
use lib.Seq.{take_all, paste, paste-zero, paste-suc, length-paste, drop-drop, drop_at, drop-append-le, take_at, take-add, take-append-add, take-take, length-take-le}
use lib.Dec.{eqb, eqb→eq}
use lib.Pointwise.{pointwise}
use mir.Facts.{T_not, yes_eqb}
use borrow.Author.Tests.{eq-eqb, ne_eqb, le-leb, lt-leb}
use borrow.Rule.Slice.PartMut.{put_mid}
use Rattle.std.specs.Option.{unwrap_or}
use Rattle.std.specs.Slice.{IsGetRangeResult}
use Rattle.std.specs.List.{starts_with}
use Rattle.std.specs.Borrow.{Bor}
use Rattle.std.proofs.Common.{Option, None, Some}
use Rattle.text.specs.Text.{Bytes, same}
use Rattle.text.specs.Seconds.{start}
use Rattle.text.proofs.Tests.{T_true, T_false, by_test}
use Rattle.frame.specs.Frame.{part_start}
use Rattle.shelf.specs.Cabinet.{zeros}
use Rattle.shelf.proofs.Images.{length_zeros}
use Rattle.cabinet.specs.Steps.{part_at, with_part, padded, filled_with, key_in, tvp_between, names_in, starts_so, PlaceIn, PlaceFits, KeyFits, TvpFits, Fits}

-- ---- place i

-- the part that the code takes
abbrev pub taken : Bytes → ℕ → Bytes
taken s i = take (i * 1024 + 1024 - i * 1024) (drop (i * 1024) s)

pub taken_part : (s : Bytes) (i : ℕ) → taken s i ≡ part_at s i
taken_part s i = let n : i * 1024 + 1024 - i * 1024 ≡ 1024 = omega arith in rw n

pub length_part : (s : Bytes) (i : ℕ) → length s ≡ 65536 → i < 64 → length (part_at s i) ≡ 1024
length_part s i l h = length-take-le 1024 (drop (i * 1024) s) (omega (arith, length-drop (i * 1024) s))

-- ---- the text, and zeros after it

length_padded : (n : ℕ) (t : Bytes) → length t ≤ n → length (padded n t) ≡ n
length_padded n t l = length-append t (zeros (n - length t)) ∙ omega (arith, length_zeros (n - length t))

-- a text of that length is itself
pub padded_whole : (n : ℕ) (t : Bytes) → length t ≡ n → padded n t ≡ t
padded_whole n t e = let z : n - length t ≡ 0 = omega arith in rw z (append-nil t)

get_d_zeros : (n i : ℕ) → get_or (zeros n) i 0 ≡ 0
get_d_zeros zero zero = refl
get_d_zeros zero (suc i) = refl
get_d_zeros (suc n) zero = refl
get_d_zeros (suc n) (suc i) = get_d_zeros n i

get_d_padded : (t : Bytes) (m j : ℕ) → get_or (t ++ zeros m) j 0 ≡ get_or t j 0
get_d_padded [] m j = get_d_zeros m j ∙ sym (get_or-eq_default [] 0 {n = j} (omega arith))
get_d_padded (c ∷ t) m zero = refl
get_d_padded (c ∷ t) m (suc j) = get_d_padded t m j

-- j bytes are written
pub record Filled (o t out : Bytes) (j : ℕ) : Type 0 where
  pub short : length t ≤ length o
  pub within : j ≤ length o
  pub written : out ≡ paste o 0 (padded (length o) t) j

pub filled_none : (o t : Bytes) → length t ≤ length o → Filled o t o 0
filled_none o t l = record { short = l; within = omega arith; written = paste-zero o 0 (padded (length o) t) }

pub filled_length : {o t out : Bytes} {j : ℕ} → Filled o t out j → length out ≡ length o
filled_length {o} {t} {out} {j} f =
    ap length f.written ∙ length-paste o 0 (padded (length o) t) j (omega (arith, f.within)) (omega (arith, f.within, length_padded (length o) t f.short))

pub filled_more : {o t out : Bytes} {j b : ℕ} → Filled o t out j → j < length out → b ≡ get_or t j 0 → Filled o t (set out j b) (j + 1)
filled_more {o} {t} {out} {j} {b} f l e =
    let l' : j < length o = omega (arith, filled_length f) in
    record {
      short = f.short;
      within = omega arith;
      written =
          ap₂ (λ (x : Bytes) (y : ℕ). set x j y) f.written (e ∙ sym (get_d_padded t (length o - length t) j))
          ∙ ap (λ (n : ℕ). set (paste o 0 (padded (length o) t) j) n (get_or (padded (length o) t) j 0)) (omega arith)
          ∙ paste-suc o 0 (padded (length o) t) j 0 (omega arith) (omega (arith, length_padded (length o) t f.short))
          ∙ ap (paste o 0 (padded (length o) t)) (sym (add-one j));
    }

pub filled_all : {o t out : Bytes} {j : ℕ} → Filled o t out j → length out ≤ j → out ≡ padded (length o) t
filled_all {o} {t} {out} {j} f l =
    let w = padded (length o) t in
    let e : j ≡ length o = omega (arith, f.within, filled_length f) in
    let n = length_padded (length o) t f.short in
    f.written
    ∙ ap₂ (λ (x y : Bytes). x ++ y) (take_all j w (omega arith)) (drop_of_length-le o {i = 0 + j} (omega arith))
    ∙ append-nil w

-- ---- text and number in a place, where the TVP between them stays

module _ {p t v : Bytes} (w : PlaceFits p t v) where
  length_front : length (padded 1000 t) ≡ 1000
  length_front = length_padded 1000 t w.short

  -- what is left to be written after the text
  abbrev half : Bytes
  half = padded 1000 t ++ drop 1000 p

  pub front_written : {y : Bytes} → y ≡ padded (length (take (1000 - 0) p)) t → put_mid 0 (1000 - 0) p y ≡ half
  front_written e = ap (λ (x : Bytes). x ++ drop 1000 p) (e ∙ ap (λ (n : ℕ). padded n t) (length-take-le 1000 p (omega (arith, w.long))))

  pub length_half : length half ≡ 1024
  length_half = length-append (padded 1000 t) (drop 1000 p) ∙ omega (arith, length_front, length-drop 1000 p, w.long)

  pub back_written : {q y : Bytes} → q ≡ half → y ≡ padded (length (take (1024 - 1016) (drop 1016 q))) v → put_mid 1016 (1024 - 1016) q y ≡ key_in p t v
  back_written {q} {y} e f =
      let eight : length (take 8 (drop 1016 q)) ≡ 8 = length-take-le 8 (drop 1016 q) (omega (arith, length-drop 1016 q, ap length e, length_half)) in
      let n : 1016 ≡ length (padded 1000 t) + 16 = omega (arith, length_front) in
      let front : take 1016 q ≡ padded 1000 t ++ take 16 (drop 1000 p) = ap (take 1016) e ∙ ap (λ (m : ℕ). take m half) n ∙ take-append-add (padded 1000 t) (drop 1000 p) 16 in
      let none_left : drop 8 (drop 1016 q) ≡ [] = drop_of_length-le (drop 1016 q) {i = 8} (omega (arith, length-drop 1016 q, ap length e, length_half)) in
      ap₂ (λ (x z : Bytes). x ++ (y ++ z)) front none_left
      ∙ ap (λ (x : Bytes). (padded 1000 t ++ take 16 (drop 1000 p)) ++ x) (append-nil y ∙ f ∙ ap (λ (n : ℕ). padded n v) eight)

pub place_fits : {s : Bytes} {i : ℕ} {t v : Bytes} → KeyFits s i t v → PlaceFits (taken s i) t v
place_fits {s} {i} w = record { long = ap length (taken_part s i) ∙ length_part s i w.in_place.long w.in_place.place; short = w.short; eight = w.eight }

-- the part that was lent for place i comes back as ys
pub place_written : {s : Bytes} {i : ℕ} {t v ys : Bytes} → KeyFits s i t v → ys ≡ key_in (taken s i) t v
    → put_mid (i * 1024) (i * 1024 + 1024 - i * 1024) s ys ≡ with_part s i (key_in (part_at s i) t v)
place_written {s} {i} {t} {v} {ys} w e =
    let n : i * 1024 + 1024 - i * 1024 ≡ 1024 = omega arith in
    let all = key_in (part_at s i) t v in
    ap₂ (λ (m : ℕ) (y : Bytes). put_mid (i * 1024) m s y) n (e ∙ ap (λ (x : Bytes). key_in x t v) (taken_part s i))
    ∙ ap (λ (x : Bytes). take (i * 1024) s ++ (all ++ x)) (drop-drop 1024 (i * 1024) s)
    ∙ sym (append_assoc (take (i * 1024) s) all (drop (i * 1024 + 1024) s))

-- ---- the TVP alone, in the place that begins at a

module _ (s : Bytes) (a : ℕ) (l : a + 1024 ≤ length s) where
  abbrev its : Bytes
  its = take 1024 (drop a s)

  length_its : length its ≡ 1024
  length_its = length-take-le 1024 (drop a s) (omega (arith, length-drop a s))

  before_tvp : take (a + 1000) s ≡ take a s ++ take 1000 its
  before_tvp = take-add a 1000 s ∙ ap (λ (x : Bytes). take a s ++ x) (sym (take-take 1000 1024 (drop a s) (omega arith)))

  behind_tvp : drop 16 (drop (a + 1000) s) ≡ drop 1016 its ++ drop (a + 1024) s
  behind_tvp =
      drop-drop 16 (a + 1000) s
      ∙ (let n : a + 1000 + 16 ≡ a + 1016 = omega arith in ap (λ (m : ℕ). drop m s) n)
      ∙ sym (drop-drop 1016 a s)
      ∙ ap (drop 1016) (sym (take-append-drop 1024 (drop a s)))
      ∙ drop-append-le 1016 its (drop 1024 (drop a s)) (omega (arith, length_its))
      ∙ ap (λ (x : Bytes). drop 1016 its ++ x) (drop-drop 1024 a s)

  tvp_written_at : (t : Bytes) {y : Bytes} → y ≡ padded (length (take (a + 1016 - (a + 1000)) (drop (a + 1000) s))) t
      → put_mid (a + 1000) (a + 1016 - (a + 1000)) s y ≡ (take a s ++ tvp_between its t) ++ drop (a + 1024) s
  tvp_written_at t {y} e =
      let n : a + 1016 - (a + 1000) ≡ 16 = omega arith in
      let sixteen : length (take 16 (drop (a + 1000) s)) ≡ 16 = length-take-le 16 (drop (a + 1000) s) (omega (arith, length-drop (a + 1000) s)) in
      let v : y ≡ padded 16 t = e ∙ ap (λ (m : ℕ). padded (length (take m (drop (a + 1000) s))) t) n ∙ ap (λ (m : ℕ). padded m t) sixteen in
      ap₂ (λ (m : ℕ) (z : Bytes). put_mid (a + 1000) m s z) n v
      ∙ ap₂ (λ (x z : Bytes). x ++ (padded 16 t ++ z)) before_tvp behind_tvp
      ∙ joined (take a s) (take 1000 its) (padded 16 t) (drop 1016 its) (drop (a + 1024) s)
    where
      joined : (u v w x z : Bytes) → (u ++ v) ++ (w ++ (x ++ z)) ≡ (u ++ ((v ++ w) ++ x)) ++ z
      joined u v w x z = simp append_assoc

-- the same, said of the bytes s alone
pub tvp_alone : {s : Bytes} {i : ℕ} (t : Bytes) → PlaceIn s i → length t ≡ 16 → with_part s i (tvp_between (part_at s i) t) ≡ (take (i * 1024 + 1000) s ++ t) ++ drop (i * 1024 + 1016) s
tvp_alone {s} {i} t w l =
    let a = i * 1024 in
    let in-s : a + 1024 ≤ length s = omega (arith, w.long, w.place) in
    let n : a + 1016 - (a + 1000) ≡ 16 = omega arith in
    let m : a + 1000 + 16 ≡ a + 1016 = omega arith in
    sym (tvp_written_at s a in-s t (sym (ap (λ (k : ℕ). padded (length (take k (drop (a + 1000) s))) t) n ∙ ap (λ (k : ℕ). padded k t) (length-take-le 16 (drop (a + 1000) s) (omega (arith, length-drop (a + 1000) s))) ∙ padded_whole 16 t l)))
    ∙ ap (λ (k : ℕ). take (a + 1000) s ++ (t ++ drop k (drop (a + 1000) s))) n
    ∙ sym (append_assoc (take (a + 1000) s) t (drop 16 (drop (a + 1000) s)))
    ∙ ap (λ (x : Bytes). (take (a + 1000) s ++ t) ++ x) (drop-drop 16 (a + 1000) s ∙ ap (λ (k : ℕ). drop k s) m)

pub tvp_written : {s : Bytes} {i : ℕ} {t y : Bytes} → TvpFits s i t → y ≡ padded (length (take (i * 1024 + 1016 - (i * 1024 + 1000)) (drop (i * 1024 + 1000) s))) t
    → put_mid (i * 1024 + 1000) (i * 1024 + 1016 - (i * 1024 + 1000)) s y ≡ with_part s i (tvp_between (part_at s i) t)
tvp_written {s} {i} {t} w = tvp_written_at s (i * 1024) (omega (arith, w.in_place.long, w.in_place.place)) t

-- ---- both

module _ {s : Bytes} {i : ℕ} (w : PlaceIn s i) where
  front_length : length (take (i * 1024) s) ≡ i * 1024
  front_length = length-take-le (i * 1024) s (omega (arith, w.long, w.place))

  module _ (v : Bytes) (l : length v ≡ 1024) where
    -- what was written into place i is read there
    pub part_with : part_at (with_part s i v) i ≡ v
    part_with =
        ap (λ (x : Bytes). take 1024 (drop (i * 1024) x)) (append_assoc (take (i * 1024) s) v (drop (i * 1024 + 1024) s))
        ∙ ap (take 1024) (drop_at (take (i * 1024) s) (v ++ drop (i * 1024 + 1024) s) (i * 1024) front_length)
        ∙ take_at v (drop (i * 1024 + 1024) s) 1024 l

    -- and written over
    pub with_with : (x : Bytes) → with_part (with_part s i v) i x ≡ with_part s i x
    with_with x =
        ap₂ (λ (a b : Bytes). (a ++ x) ++ b)
        (ap (take (i * 1024)) (append_assoc (take (i * 1024) s) v (drop (i * 1024 + 1024) s)) ∙ take_at (take (i * 1024) s) (v ++ drop (i * 1024 + 1024) s) (i * 1024) front_length)
        (drop_at (take (i * 1024) s ++ v) (drop (i * 1024 + 1024) s) (i * 1024 + 1024) (length-append (take (i * 1024) s) v ∙ ap₂ ◌+◌ front_length l))

    length_with : length (with_part s i v) ≡ 65536
    length_with =
        length-append (take (i * 1024) s ++ v) (drop (i * 1024 + 1024) s)
        ∙ omega (arith, length-append (take (i * 1024) s) v, front_length, length-drop (i * 1024 + 1024) s, w.long, w.place)

module _ {s : Bytes} {i : ℕ} {t d v : Bytes} (w : Fits s i t d v) where
  abbrev key : Bytes
  key = key_in (part_at s i) t v

  -- text and TVP
  front_two : length (padded 1000 t ++ take 16 (drop 1000 (part_at s i))) ≡ 1016
  front_two =
      let b = part_at s i in
      length-append (padded 1000 t) (take 16 (drop 1000 b))
      ∙ omega (arith, length_padded 1000 t w.key.short, length-take-le 16 (drop 1000 b) (omega (arith, length-drop 1000 b, length_part s i w.key.in_place.long w.key.in_place.place)))

  length_key : length key ≡ 1024
  length_key = length-append (padded 1000 t ++ take 16 (drop 1000 (part_at s i))) (padded 8 v) ∙ ap₂ ◌+◌ front_two (length_padded 8 v w.key.eight)

  -- where the key was written, the TVP fits too
  pub date_fits : {x : Bytes} → x ≡ with_part s i key → TvpFits x i d
  date_fits e = record { in_place = record { long = ap length e ∙ length_with w.key.in_place key length_key; place = w.key.in_place.place }; sixteen = w.date.sixteen }

  between_key : tvp_between key d ≡ filled_with t d v
  between_key =
      ap₂ (λ (x y : Bytes). (x ++ padded 16 d) ++ y)
      (ap (take 1000) (append_assoc (padded 1000 t) (take 16 (drop 1000 (part_at s i))) (padded 8 v)) ∙ take_at (padded 1000 t) _ 1000 (length_padded 1000 t w.key.short))
      (drop_at (padded 1000 t ++ take 16 (drop 1000 (part_at s i))) (padded 8 v) 1016 front_two)

  pub both_written : {x y : Bytes} → x ≡ with_part s i key → y ≡ with_part x i (tvp_between (part_at x i) d) → y ≡ with_part s i (filled_with t d v)
  both_written e f =
      f ∙ ap (λ (x : Bytes). with_part x i (tvp_between (part_at x i) d)) e
      ∙ ap (λ (b : Bytes). with_part (with_part s i key) i (tvp_between b d)) (part_with w.key.in_place key length_key)
      ∙ ap (with_part (with_part s i key) i) between_key
      ∙ with_with w.key.in_place key length_key (filled_with t d v)

-- nothing at all fits, and so does the start beside a key
pub empty_fits : {s : Bytes} {i : ℕ} → PlaceIn s i → Fits s i [] [] []
empty_fits w = record { key = record { in_place = w; short = omega arith; eight = omega arith }; date = record { in_place = w; sixteen = omega arith } }

pub start_fits : {s : Bytes} {i : ℕ} {t v : Bytes} → KeyFits s i t v → Fits s i t start v
start_fits w = record { key = w; date = record { in_place = w.in_place; sixteen = omega arith } }

-- ---- the names in a text

pub names_short : (s : Bytes) {n : ℕ} → n ≡ part_start (code ":") s 3 → length s < n → [] ≡ names_in s
unfolding names_in
names_short s {n} e l = rw (lt-leb (part_start (code ":") s 3) (length s) (rw e at l))

pub names_there : (s : Bytes) {n : ℕ} → n ≡ part_start (code ":") s 3 → n ≤ length s → take (n - 0) s ≡ names_in s
unfolding names_in
names_there s {n} e l = rw (le-leb (part_start (code ":") s 3) (length s) (rw e at l)) (let m : n - 0 ≡ part_start (code ":") s 3 = omega (arith, e) in rw m)

-- as the code takes them from a range that may not be there
pub names_got : (s : Bytes) {n : ℕ} → n ≡ part_start (code ":") s 3 → (r : Option (Bor Bytes)) (d : Bor Bytes) → d.now ≡ [] → IsGetRangeResult s 0 n r → (unwrap_or r d).now ≡ names_in s
names_got s e None d z (inl h, there) = absurd (omega arith)
names_got s e None d z (inr h, there) = z ∙ names_short s e h
names_got s e (Some x) d z ((from, to, is, long), there) = is ∙ names_there s e to

eqb_swap : (a b : ℕ) → eqb a b ≡ eqb b a
eqb_swap a b =
    by_test (eqb a b)
    (λ t. T_true (eqb a b) t ∙ sym (eq-eqb b a (sym (eqb→eq a b t))))
    (λ t. T_false (eqb a b) t ∙ sym (ne_eqb b a (λ e. T_not (eqb a b) (yes_eqb (sym e)) t)))

same_swap : (s v : Bytes) → pointwise eqb v s ≡ same s v
same_swap [] [] = refl
same_swap [] (d ∷ v) = refl
same_swap (c ∷ s) [] = refl
same_swap (c ∷ s) (d ∷ v) = ap₂ (λ (x y : Bool). x && y) (eqb_swap d c) (same_swap s v)

pub starts_there : (s v : Bytes) {n : ℕ} → n ≡ part_start (code "|") s 1 → {x : Bytes} → x ≡ drop n s → starts_with eqb x v ≡ starts_so s v
unfolding starts_so
starts_there s v e q = same_swap (take (length v) _) v ∙ rw (q, e)
