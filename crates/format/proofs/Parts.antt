-- Cutting at a mark undoes joining, and joining undoes cutting: the title, the mark, the body, the check and the fields of a
-- built record, and the record that is built of such parts.
-- Assumes nothing.
use Prim.Native.Nat.{ℕ, suc, ◌+◌, ◌-◌, ◌<◌}
use mathlib.Core.Path.{◌≡◌, refl, sym, ap, ◌∙◌}
use mathlib.Core.Bool.{Bool, true, false, not, cond}
use mathlib.Core.List.{List, [], ◌∷◌, ◌++◌, append_assoc, append-nil}
use native.Mathlib.Omega.{arith}
use lib.Dec.{T, T_not, eqb, eqb→eq, eqb_refl}
use lib.ListN.{length, drop, get_or, length-append, take-append-drop}
use lib.Seq.{length-take-le, take_at, drop_at}
use mir.Facts.{and_yes, yes_and, yes_eqb, no_eqb}
use Rattle.crc16.specs.Crc.{crc_of}
use Rattle.text.specs.Text.{Bytes, every, without, ident_character, Hex}
use Rattle.text.specs.Base16.{check_text}
use Rattle.text.proofs.Tests.{T_false, by_test, T_true, every_append}
use Rattle.text.proofs.Types.{plain, plain_without, hex_length}
use Rattle.text.proofs.Hexadecimal.{check_hex}
use Rattle.format.specs.Kinds.{Kind, name, mark}
use Rattle.format.specs.Build.{joined, WithoutAll, with_check, record_of}
use Rattle.format.specs.Read.{is_mark, title, mark_after, body, check, last_or, ends_in, on_first, cut, fields_in}
use Rattle.format.proofs.Table.{mark_is_mark, mark_no_character, name_markless, name_plain}

-- ---- the last byte

pub last_after : (c : ℕ) (s : Bytes) → get_or (c ∷ s) (length s) 0 ≡ last_or c s
last_after c [] = refl
last_after c (d ∷ s) = last_after d s

pub last_at : (s : Bytes) (k : ℕ) → length s ≡ suc k → get_or s k 0 ≡ last_or 0 s
last_at s k e = rw e at (last_after 0 s)

pub last_append : (c : ℕ) (s t : Bytes) → last_or c (s ++ t) ≡ last_or (last_or c s) t
last_append c [] t = refl
last_append c (d ∷ s) t = last_append d s t

-- of what is not empty
pub last_any : (c d : ℕ) (s : Bytes) → 0 < length s → last_or c s ≡ last_or d s
last_any c d [] h = absurd (omega arith)
last_any c d (e ∷ s) h = refl

pub last_every : (p : ℕ → Bool) (c : ℕ) (s : Bytes) → T (p c) → T (every p s) → T (p (last_or c s))
last_every p c [] h t = h
last_every p c (d ∷ s) h t = let t' = and_yes (p d) (every p s) t in last_every p d s t'.0 t'.1

pub ends_last : (m : ℕ) (s : Bytes) → T (ends_in m s) → last_or 0 s ≡ m
ends_last m [] h = absurd h
ends_last m (c ∷ s) h = eqb→eq (last_or c s) m h

pub last_ends : (m : ℕ) (s : Bytes) → 0 < length s → last_or 0 s ≡ m → T (ends_in m s)
last_ends m [] h e = absurd (omega arith)
last_ends m (c ∷ s) h e = yes_eqb e

-- ---- joined after cut

on-first : (m c d : ℕ) (b : Bool) (ps qs : List Bytes)
    → joined m (on_first c (cond b ([] ∷ ps) (on_first d qs))) ≡ c ∷ joined m (cond b ([] ∷ ps) (on_first d qs))
on-first m c d true ps qs = refl
on-first m c d false ps [] = refl
on-first m c d false ps (q ∷ qs) = refl

pub joined_cut : (b m : ℕ) (s : Bytes) → last_or b s ≡ m → joined m (cut m s) ≡ s
joined_cut b m [] e = refl
joined_cut b m (c ∷ []) e = rw (T_true (eqb c m) (yes_eqb e), e)
joined_cut b m (c ∷ d ∷ s) e =
    let i = joined_cut c m (d ∷ s) e in
    by_test (eqb c m)
    (λ t. rw (T_true (eqb c m) t, i, eqb→eq c m t))
    (λ t. rw (T_false (eqb c m) t) (on-first m c d (eqb d m) (cut m s) (cut m s) ∙ rw i))

pub joined_append : (m : ℕ) (fs gs : List Bytes) → joined m (fs ++ gs) ≡ joined m fs ++ joined m gs
joined_append m [] gs = refl
joined_append m (f ∷ fs) gs = rw (joined_append m fs gs) (sym (append_assoc f (m ∷ joined m fs) (joined m gs)))

-- ---- cut of a text that is empty or ends with the mark, and another behind it

cut_more : (m c d : ℕ) (a : Bytes) (qs : List Bytes) → on_first c (cut m (d ∷ a) ++ qs) ≡ on_first c (cut m (d ∷ a)) ++ qs
cut_more m c d a qs = go (eqb d m) (cut m a)
  where
    go : (b : Bool) (ps : List Bytes) → on_first c (cond b ([] ∷ ps) (on_first d ps) ++ qs) ≡ on_first c (cond b ([] ∷ ps) (on_first d ps)) ++ qs
    go true ps = refl
    go false [] = refl
    go false (p ∷ ps) = refl

pub cut_append : (m c : ℕ) (a b : Bytes) → last_or c a ≡ m → cut m (a ++ b) ≡ cut m a ++ cut m b
cut_append m c [] b e = refl
cut_append m c (d ∷ []) b e = rw (T_true (eqb d m) (yes_eqb e))
cut_append m c (d ∷ f ∷ a) b e =
    let i = cut_append m d (f ∷ a) b e in
    by_test (eqb d m)
    (λ t. rw (T_true (eqb d m) t, i))
    (λ t. rw (T_false (eqb d m) t, i) (cut_more m d f a (cut m b)))

-- ---- the first part is what stands before the first mark

cut_title : (m : ℕ) (s : Bytes) → T (is_mark m) → mark_after s ≡ m → cut m s ≡ title s ∷ drop 1 (cut m s)
cut_title m [] h e = absurd (rw (← e) at h)
cut_title m (c ∷ s) h e =
    by_test (is_mark c)
    (λ t. let e' : c ≡ m = rw (T_true (is_mark c) t) at e in rw (T_true (is_mark c) t, T_true (eqb c m) (yes_eqb e')))
    (λ t.
    let n = T_false (is_mark c) t in
    let apart : T (not (eqb c m)) = no_eqb (λ (e' : c ≡ m). T_not (is_mark m) (rw e' at t) h) in
    rw (n, T_false (eqb c m) apart, cut_title m s h (rw n at e)))

-- ---- cut after joined

cut_through : (m : ℕ) (f r : Bytes) → T (without m f) → cut m (f ++ m ∷ r) ≡ f ∷ cut m r
cut_through m [] r h = rw (T_true (eqb m m) (eqb_refl m))
cut_through m (c ∷ f) r h =
    let h' = and_yes (not (eqb c m)) (without m f) h in
    rw (T_false (eqb c m) h'.0, cut_through m f r h'.1)

-- parts that are joined, and what follows them
pub cut_parts : (m : ℕ) (fs : List Bytes) (r : Bytes) → WithoutAll m fs → cut m (joined m fs ++ r) ≡ fs ++ cut m r
cut_parts m [] r h = refl
cut_parts m (f ∷ fs) r h = rw append_assoc (cut_through m f (joined m fs ++ r) h.0 ∙ rw (cut_parts m fs r h.1))

pub cut_joined : (m : ℕ) (fs : List Bytes) → WithoutAll m fs → cut m (joined m fs) ≡ fs
cut_joined m fs h = ap (cut m) (sym (append-nil (joined m fs))) ∙ cut_parts m fs [] h ∙ append-nil fs

pub last_joined : (c m : ℕ) (fs : List Bytes) (f : Bytes) → last_or c (joined m (f ∷ fs)) ≡ m
last_joined c m [] [] = refl
last_joined c m (g ∷ fs) [] = last_joined m m fs g
last_joined c m [] (d ∷ f) = last_joined d m [] f
last_joined c m (g ∷ fs) (d ∷ f) = last_joined d m (g ∷ fs) f

-- ---- the title and the mark after it

title_through : (m : ℕ) (f r : Bytes) → T (is_mark m) → T (every (λ c. not (is_mark c)) f) → (title (f ++ m ∷ r) ≡ f) × (mark_after (f ++ m ∷ r) ≡ m)
title_through m [] r h t = rw (T_true (is_mark m) h) (refl, refl)
title_through m (c ∷ f) r h t =
    let t' = and_yes (not (is_mark c)) (every (λ d. not (is_mark d)) f) t in
    let i = title_through m f r h t'.1 in
    rw (T_false (is_mark c) t'.0) (ap {B = Bytes} (λ s. c ∷ s) i.0, i.1)

-- if the last byte of r is a mark, what follows r is not looked at
title_front : (d : ℕ) (r t : Bytes) → T (not (is_mark d)) → T (is_mark (last_or d r))
    → (title (r ++ t) ≡ title r) × (mark_after (r ++ t) ≡ mark_after r)
title_front d [] t n h = absurd (T_not (is_mark d) n h)
title_front d (c ∷ r) t n h =
    by_test (is_mark c)
    (λ u. rw (T_true (is_mark c) u) (refl, refl))
    (λ u. let i = title_front c r t u h in rw (T_false (is_mark c) u) (ap {B = Bytes} (λ s. c ∷ s) i.0, i.1))

-- ---- a text with its check

module _ (r : Bytes) where
  abbrev its_check : Bytes
  its_check = check_text (crc_of r)

  check_length : length its_check ≡ 4
  check_length = hex_length 4 its_check (check_hex (crc_of r))

  pub length-of : length (with_check r) ≡ length r + 4
  unfolding with_check
  length-of = omega (arith, check_length, length-append r its_check)

  pub body_of : body (with_check r) ≡ r
  unfolding with_check
  body_of = take_at r its_check (length (r ++ its_check) - 4) (omega (arith, length-of))

  pub check_of : check (with_check r) ≡ check_text (crc_of (body (with_check r)))
  unfolding with_check
  check_of = drop_at r its_check (length (r ++ its_check) - 4) (omega (arith, length-of)) ∙ ap (λ (b : Bytes). check_text (crc_of b)) (sym body_of)

-- ---- the parts of a built record

module _ (k : Kind) (fs : List Bytes) where
  pub record_length : length (record_of k fs) ≡ length (name k) + length (joined (mark k) fs) + 5
  unfolding record_of
  record_length = omega (arith, length-of (joined (mark k) (name k ∷ fs)), length-append (name k) (mark k ∷ joined (mark k) fs))

  pub built_title : (title (record_of k fs) ≡ name k) × (mark_after (record_of k fs) ≡ mark k)
  unfolding record_of with_check
  built_title = rw append_assoc (title_through (mark k) (name k) _ (mark_is_mark k) (name_markless k))

  pub built_last : last_or 0 (body (record_of k fs)) ≡ mark k
  unfolding record_of
  built_last = rw body_of (last_joined 0 (mark k) fs (name k))

  pub built_ends : T (ends_in (mark k) (body (record_of k fs)))
  built_ends = last_ends (mark k) (body (record_of k fs)) (omega (arith, record_length, length-take-le (length (record_of k fs) - 4) (record_of k fs) (omega arith))) built_last

  pub built_check : check (record_of k fs) ≡ check_text (crc_of (body (record_of k fs)))
  unfolding record_of
  built_check = check_of (joined (mark k) (name k ∷ fs))

  pub built_parts : WithoutAll (mark k) fs → cut (mark k) (body (record_of k fs)) ≡ name k ∷ fs
  unfolding record_of
  built_parts h =
      let n = plain_without (mark k) (mark_no_character k) (name k) (name_plain k) in
      rw body_of (cut_joined (mark k) (name k ∷ fs) (n, h))

-- ---- a byte that stands in no part

joined_without : (m c : ℕ) → T (not (eqb m c)) → (fs : List Bytes) → WithoutAll c fs → T (without c (joined m fs))
joined_without m c n [] w = tt
joined_without m c n (f ∷ fs) w =
    every_append (λ d. not (eqb d c)) f (m ∷ joined m fs) w.0
    (yes_and (not (eqb m c)) (without c (joined m fs)) n (joined_without m c n fs w.1))

pub record_without : (c : ℕ) → T (not (ident_character c)) → (k : Kind) (fs : List Bytes) → T (not (eqb (mark k) c)) → WithoutAll c fs
    → T (without c (record_of k fs))
unfolding record_of with_check
record_without c u k fs n w =
    let r : Bytes = joined (mark k) (name k ∷ fs) in
    every_append (λ d. not (eqb d c)) r (check_text (crc_of r))
    (joined_without (mark k) c n (name k ∷ fs) (plain_without c u (name k) (name_plain k), w))
    (plain_without c u (check_text (crc_of r)) (plain (Hex 4) (check_text (crc_of r)) (check_hex (crc_of r))))

-- ---- a record that is built of the parts found in it

module _ (k : Kind) (s : Bytes) (t : title s ≡ name k) (m : mark_after s ≡ mark k) (l : last_or 0 (body s) ≡ mark k) where
  whole : body s ++ check s ≡ s
  whole = take-append-drop (length s - 4) s

  found_parts : cut (mark k) (body s) ≡ name k ∷ fields_in k s
  found_parts =
      let front = title_front 0 (body s) (check s) tt (rw l (mark_is_mark k)) in
      let t' : title (body s) ≡ name k = sym front.0 ∙ ap title whole ∙ t in
      let m' : mark_after (body s) ≡ mark k = sym front.1 ∙ ap mark_after whole ∙ m in
      cut_title (mark k) (body s) (mark_is_mark k) m' ∙ rw t'

  pub found_built : check s ≡ check_text (crc_of (body s)) → s ≡ record_of k (fields_in k s)
  unfolding record_of with_check
  found_built c =
      let back : joined (mark k) (name k ∷ fields_in k s) ≡ body s = ap (joined (mark k)) (sym found_parts) ∙ joined_cut 0 (mark k) (body s) l in
      sym whole ∙ ap (λ (d : Bytes). body s ++ d) c ∙ ap with_check (sym back)
