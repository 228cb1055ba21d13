-- Whether bytes are a place of a cabinet, as the code asks it.
-- Assumes nothing.
use Prim.Native.Nat.{ℕ, zero, suc, ◌+◌, ◌-◌, ◌≤◌, ◌<◌}
use mathlib.Core.Path.{◌≡◌, refl, sym, ap, ap₂, ◌∙◌}
use mathlib.Core.Bool.{Bool, true, false, not, cond, ◌&&◌, and-true, and-false}
use mathlib.Core.Option.{Option, none, some}
use mathlib.Core.List.{[], ◌∷◌, ◌++◌}
use native.Mathlib.Omega.{arith}
use native.Mathlib.Nat.{zero-add}
use lib.ListN.{length, take, drop, length-append, length-drop, length-take, take-append-drop}
use lib.Seq.{take_all, take-add, length-take-le}
use lib.Dec.{eqb}
use lib.IntN.{ℤ, pos, negsuc}
use lib.Signed.{le_z, lt_z}
use mir.Syntax.{w64}
use mir.Val.{of_z, to_z}
use borrow.Author.Tests.{eq-eqb, ne_eqb, le-leb, le-ltb}
use Rattle.text.specs.Text.{Bytes, same, every}
use Rattle.text.specs.Seconds.{moment_of, seconds_bytes}
use Rattle.text.specs.Later.{later}
use Rattle.text.specs.declared.moment.Moment.{Moment}
use Rattle.text.proofs.Tests.{T_true, T_false, by_test, same_true, same_false, same_append}
use Rattle.text.proofs.Seconds.{moment_valid, moment_back, start_moment, bytes_length}
use Rattle.format.specs.Kinds.{pubkey_kinds}
use Rattle.format.specs.Build.{BuiltUnder}
use Rattle.format.specs.Read.{Outcome, accepted, refused, read_under, read_of}
use Rattle.format.specs.Files.{up_to}
use Rattle.format.specs.declared.Rules.TheVariants.{UpToE10, Today}
use Rattle.format.proofs.Lines.{take_up_to}
use Rattle.format.proofs.Exactly.{under_says}
use Rattle.format.proofs.Outcomes.{Honest}
use Rattle.frame.specs.Frame.{next_mark}
use Rattle.reading.specs.Reading.{answer_of}
use Rattle.reading.specs.declared.Answer.{Answer}
use Rattle.subjects.proofs.Keys.{key_under}
use Rattle.expiry.specs.Expiry.{expiry_by, expiry_under}
use Rattle.expiry.specs.declared.Expiry.{Expiry}
use Rattle.expiry.proofs.Expiries.{expiry_back}
use Rattle.shelf.specs.Places.{Names, Place, free}
use Rattle.shelf.specs.Cabinet.{width, tvp_at, number_at, number_of, Reading, about, declined, stands, zeros, encode, entry, is_tvp, decode_as, decode, is_refused, is_old}
use Rattle.shelf.proofs.Readings.{Fitting, fitting, reads_accepted, reads_refused}
use Rattle.shelf.proofs.Images.{length_zeros, up_to_zeros}
use Rattle.cabinet.specs.Steps.{is_zero, is_place}

-- ---- zeros

same_zeros : (m : Bytes) → same m (zeros (length m)) ≡ every is_zero m
same_zeros [] = refl
same_zeros (c ∷ m) = ap (λ (b : Bool). is_zero c && b) (same_zeros m)

-- ---- the record that is read

abbrev is_about : Reading → Bool
is_about (about k g) = true
is_about (declined n i) = false

-- x is what the call about Expiry answered for t, under the rules up to E10
module _ (t : Bytes) {x : Expiry} (e : x ≡ expiry_under UpToE10 t) where
  about_so : eqb x.no 0 ≡ is_about (stands t)
  unfolding expiry_under
  about_so = rw e (go (read_under UpToE10 pubkey_kinds t) refl (under_says UpToE10 pubkey_kinds t))
    where
      go : (o : Outcome) → read_under UpToE10 pubkey_kinds t ≡ o → Honest (BuiltUnder UpToE10 pubkey_kinds t) o → eqb (expiry_by o).no 0 ≡ is_about (stands t)
      go (accepted k fs) h w = rw (reads_accepted t (key_under UpToE10 t k fs h))
      go (refused zero i) h w = absurd w
      go (refused (suc n) i) h w = rw (reads_refused UpToE10 t (suc n) i h) (ne_eqb (suc n) 0 (λ z. omega arith))

  pub number_so : {v : Bytes} → v ≡ seconds_bytes (to_z w64 (of_z w64 x.seconds)) → v ≡ number_of t
  unfolding number_of
  number_so f = f ∙ ap seconds_bytes (expiry_back UpToE10 t e)

pub number_short : {v : Bytes} (z : ℤ) → v ≡ seconds_bytes z → length v ≤ 8
number_short z e = omega (arith, ap length e, bytes_length z)

-- ---- bytes of a place's length

pub text_end : (b : Bytes) → next_mark 0 b 0 ≡ length (up_to 0 b)
unfolding next_mark
text_end b = zero-add (length (up_to 0 b))

pub text_within : (b : Bytes) → length (up_to 0 b) ≤ length b
text_within b = omega (arith, ap length (take_up_to 0 b), length-take (length (up_to 0 b)) b)

module _ (b : Bytes) (l : length b ≡ 1024) {n : ℕ} (m : n ≡ next_mark 0 b 0) where
  abbrev text : Bytes
  text = up_to 0 b

  ends : n ≡ length text
  ends = m ∙ text_end b

  fits_so : (x : Reading) → stands text ≡ x → is_about x ≡ true → Fitting text
  fits_so (about k g) e f = fitting text k g e
  fits_so (declined i j) e f = let z : ◌≡◌ {A = ℕ} 0 1 = cc in absurd (omega arith)

  no_record : (x : Reading) → is_about x ≡ false → is_place (decode_as b text x) ≡ false
  no_record (about k g) f = let z : ◌≡◌ {A = ℕ} 0 1 = cc in absurd (omega arith)
  no_record (declined i j) f = refl

  -- where a text of this length is no record
  unfitting : (Fitting text → ⊥) → is_about (stands text) ≡ false
  unfitting h = by_test (is_about (stands text)) (λ t. absurd (h (fits_so (stands text) refl (T_true (is_about (stands text)) t)))) (T_false (is_about (stands text)))

  -- no text: all zeros, or no place
  pub place_free : n ≡ 0 → every is_zero b ≡ is_place (decode b)
  unfolding decode encode width
  place_free e =
      let none_read = no_record (stands text) (unfitting (λ f. f.some_byte (sym ends ∙ e))) in
      sym (go (same b (zeros 1024)) (decode_as b text (stands text)) none_read ∙ ap (λ (k : ℕ). same b (zeros k)) (sym l) ∙ same_zeros b)
    where
      go : (q : Bool) (r : Option Place) → is_place r ≡ false → is_place (cond q (some free) r) ≡ q
      go true r f = refl
      go false r f = f

  -- and else not all zeros
  held_so : (n ≡ 0 → ⊥) → is_place (decode b) ≡ is_place (decode_as b text (stands text))
  unfolding decode encode
  held_so z = rw (same_false b (zeros width) (λ f. z (ends ∙ ap length (ap (up_to 0) f ∙ up_to_zeros width))))

  module _ (z : n ≡ 0 → ⊥) where
    pub place_long : 1000 < n → false ≡ is_place (decode b)
    unfolding tvp_at
    place_long h = sym (held_so z ∙ no_record (stands text) (unfitting (λ f. omega (arith, ends, f.long))))

    module _ (h : n ≤ 1000) where
      -- the bytes between the text and the TVP, and the TVP
      abbrev between : Bytes
      between = take (1000 - n) (drop n b)

      abbrev date : Bytes
      date = take 16 (drop 1000 b)

      split : b ≡ ((text ++ between) ++ date) ++ drop 1016 b
      split =
          let all : 1000 ≡ n + (1000 - n) = omega arith in
          let front : take 1000 b ≡ text ++ between =
          ap (λ (k : ℕ). take k b) all ∙ take-add n (1000 - n) b ∙ ap (λ (x : Bytes). x ++ between) (ap (λ (k : ℕ). take k b) ends ∙ take_up_to 0 b) in
          sym (take-append-drop 1016 b) ∙ ap (λ (x : Bytes). x ++ drop 1016 b) (take-add 1000 16 b ∙ ap (λ (x : Bytes). x ++ date) front)

      length_between : length between ≡ 1000 - length text
      length_between = length-take-le (1000 - n) (drop n b) (omega (arith, length-drop n b)) ∙ ap (λ (k : ℕ). 1000 - k) ends

      -- a record's place: zeros stand there, and the number is its own
      whole_so : (k : Names) (g : Bytes) → same b (encode (entry k g text date)) ≡ (every is_zero between && same (drop 1016 b) (number_of text))
      unfolding encode tvp_at
      whole_so k g =
          let pad = zeros (1000 - length text) in
          let padded : same between pad ≡ every is_zero between = ap (λ (i : ℕ). same between (zeros i)) (sym length_between) ∙ same_zeros between in
          let front : same (text ++ between) (text ++ pad) ≡ every is_zero between = same_append text between text pad refl ∙ rw (same_true text text refl) padded in
          let as_long : length (text ++ between) ≡ length (text ++ pad) =
          length-append text between ∙ omega (arith, length_between, length-append text pad, length_zeros (1000 - length text)) in
          let two : same ((text ++ between) ++ date) ((text ++ pad) ++ date) ≡ every is_zero between =
          same_append (text ++ between) date (text ++ pad) date as_long ∙ rw (front, same_true date date refl) (and-true (every is_zero between)) in
          let two-long : length ((text ++ between) ++ date) ≡ length ((text ++ pad) ++ date) =
          length-append (text ++ between) date ∙ ap (λ (m : ℕ). m + length date) as_long ∙ sym (length-append (text ++ pad) date) in
          ap (λ (x : Bytes). same x (((text ++ pad) ++ date) ++ number_of text)) split
          ∙ same_append ((text ++ between) ++ date) (drop 1016 b) ((text ++ pad) ++ date) (number_of text) two-long
          ∙ ap (λ (q : Bool). q && same (drop 1016 b) (number_of text)) two

      as_read : (x : Reading) → is_place (decode_as b text x) ≡ (is_about x && (is_tvp date && (every is_zero between && same (drop 1016 b) (number_of text))))
      unfolding tvp_at number_at
      as_read (declined i j) = refl
      as_read (about k g) = go (is_tvp date) (same b (encode (entry k g text date))) ∙ ap (λ (q : Bool). is_tvp date && q) (whole_so k g)
        where
          go : (p q : Bool) → is_place (cond p (cond q (some (entry k g text date)) none) none) ≡ (p && q)
          go true true = refl
          go true false = refl
          go false q = refl

      held_as : is_place (decode b) ≡ (is_about (stands text) && (is_tvp date && (every is_zero between && same (drop 1016 b) (number_of text))))
      held_as = held_so z ∙ as_read (stands text)

      -- something else stands between
      pub place_gap : every is_zero between ≡ false → false ≡ is_place (decode b)
      place_gap e = sym (held_as ∙ rw (e, and-false (is_tvp date)) (and-false (is_about (stands text))))

      -- no TVP
      pub place_dateless : is_tvp date ≡ false → false ≡ is_place (decode b)
      place_dateless e = sym (held_as ∙ rw e (and-false (is_about (stands text))))

      module _ (e : every is_zero between ≡ true) (d : is_tvp date ≡ true) {x : Expiry} (f : x ≡ expiry_under UpToE10 (take (n - 0) b)) where
        read_so : x ≡ expiry_under UpToE10 text
        read_so =
            let q : n - 0 ≡ length text = omega (arith, ends) in
            f ∙ ap (expiry_under UpToE10) (ap (λ (k : ℕ). take k b) q ∙ take_up_to 0 b)

        -- no record
        pub place_other : (x.no ≡ 0 → ⊥) → false ≡ is_place (decode b)
        place_other w = sym (held_as ∙ rw (sym (about_so text read_so) ∙ ne_eqb x.no 0 w))

        -- a record: the number decides
        pub place_number : x.no ≡ 0 → {v : Bytes} → v ≡ seconds_bytes (to_z w64 (of_z w64 x.seconds)) → same (take (length b - 1016) (drop 1016 b)) v ≡ is_place (decode b)
        place_number w {v} g =
            ap₂ same (take_all (length b - 1016) (drop 1016 b) (omega (arith, length-drop 1016 b))) (number_so text read_so g)
            ∙ sym (held_as ∙ rw (e, d, sym (about_so text read_so) ∙ eq-eqb x.no 0 w))

-- ---- an old record, as the code asks for it: r is what the reading answered for what stands before the first zero

pub old_so : (b : Bytes) {n : ℕ} → n ≡ next_mark 0 b 0 → {r : Answer} → r ≡ answer_of (read_of pubkey_kinds (take (n - 0) b)) → not (eqb r.no 0) ≡ is_old (up_to 0 b)
unfolding is_old
old_so b {n} m {r} e =
    let q : n - 0 ≡ length (up_to 0 b) = omega (arith, m, text_end b) in
    let text : take (n - 0) b ≡ up_to 0 b = ap (λ (k : ℕ). take k b) q ∙ take_up_to 0 b in
    go (read_of pubkey_kinds (up_to 0 b)) (e ∙ ap (λ (x : Bytes). answer_of (read_of pubkey_kinds x)) text) (under_says Today pubkey_kinds (up_to 0 b))
  where
    go : (o : Outcome) → r ≡ answer_of o → Honest (BuiltUnder Today pubkey_kinds (up_to 0 b)) o → not (eqb r.no 0) ≡ is_refused o
    go (accepted k fs) h w = rw h
    go (refused zero i) h w = absurd w
    go (refused (suc k) i) h w = rw h (ap not (ne_eqb (suc k) 0 (λ z. omega arith)))

-- ---- the TVP, as the code asks for it: m is what the date call answered

from_start : (z : ℤ) → le_z (pos 0) z ≡ not (lt_z z (pos 0))
from_start (pos n) = le-leb 0 n (omega arith) ∙ ap not (sym (le-ltb n 0 (omega arith)))
from_start (negsuc n) = refl

module _ (t : Bytes) {m : Moment} (e : m ≡ moment_of t) where
  pub tvp_invalid : m.valid ≡ false → false ≡ is_tvp t
  unfolding is_tvp
  tvp_invalid f = sym (rw (sym (moment_valid t) ∙ ap (λ (x : Moment). x.valid) (sym e) ∙ f))

  pub tvp_valid : m.valid ≡ true → le_z (pos 0) (to_z w64 (of_z w64 m.seconds)) ≡ is_tvp t
  unfolding is_tvp later
  tvp_valid f =
      ap (le_z (pos 0)) (moment_back t e)
      ∙ from_start (moment_of t).seconds
      ∙ sym (rw (sym (moment_valid t) ∙ ap (λ (x : Moment). x.valid) (sym e) ∙ f, start_moment))
