-- A place and its bytes, a cabinet and its image: each gives the other.
-- Assumes nothing.
use Prim.Native.Nat.{ℕ, zero, suc, ◌+◌, ◌-◌, ◌*◌, ◌<◌}
use mathlib.Core.Path.{◌≡◌, refl, sym, ap, ap₂, ◌∙◌, subst}
use mathlib.Core.Bool.{Bool, true, false, not, cond}
use mathlib.Core.Option.{Option, none, some}
use mathlib.Core.List.{List, [], ◌∷◌, ◌++◌, append_assoc}
use native.Mathlib.Omega.{arith}
use native.Mathlib.Nat.{suc-mul, zero-mul, add_comm}
use lib.ListN.{length, take, drop, length-append, length-replicate, length-drop, take-append-drop}
use lib.Seq.{take_at, drop_at}
use lib.Dec.{T, eqb, eqb→eq, eqb_refl}
use Rattle.text.specs.Text.{Bytes, same, without}
use Rattle.text.proofs.Tests.{by_test, cond_yes, cond_no, same→eq, same_refl}
use Rattle.text.proofs.Seconds.{bytes_length}
use Rattle.format.specs.Files.{up_to}
use Rattle.format.proofs.Lines.{up_to_first}
use Rattle.format.specs.declared.Rules.TheVariants.{UpToE10}
use Rattle.expiry.specs.Expiry.{expiry_under}
use Rattle.shelf.specs.Places.{Names, Held, Place, free, held, holds, contents, lookup, distinct}
use Rattle.shelf.specs.Cabinet.{places, width, tvp_at, number_at, number_of, Reading, about, declined, stands, zeros, encode, whole, entry, tvp_in, is_tvp, decode_as, decode, parts, both, decode_all, provided, where_distinct, shelf, image}
use Rattle.shelf.proofs.Places.{lookup_here, lookup_there}
use Rattle.shelf.proofs.Tvps.{tvp_length}
use Rattle.shelf.proofs.Readings.{fitting}

-- ---- zeros

pub length_zeros : (n : ℕ) → length (zeros n) ≡ n
length_zeros n = length-replicate n 0

pub up_to_zeros : (n : ℕ) → up_to 0 (zeros n) ≡ []
up_to_zeros zero = refl
up_to_zeros (suc n) = refl

-- a text that has no zero byte, with a zero or more after it, and anything behind them
up_to_text : (r t : Bytes) (n : ℕ) → 0 < n → T (without 0 r) → up_to 0 ((r ++ zeros n) ++ t) ≡ r
up_to_text r t n l h = rw (append_assoc r (zeros n) t) (up_to_first 0 r (zeros n ++ t) h (go n l))
  where
    go : (n : ℕ) → 0 < n → up_to 0 (zeros n ++ t) ≡ []
    go zero l = absurd (omega arith)
    go (suc n) l = refl

-- ---- the number of Expiry

pub number_length : (r : Bytes) → length (number_of r) ≡ 8
unfolding number_of
number_length r = bytes_length (expiry_under UpToE10 r).seconds

-- ---- the tests of a cabinet, each by what it gives

no_length : (s : Bytes) → length s ≡ 0 → s ≡ []
no_length [] e = refl
no_length (c ∷ s) e = absurd (omega arith)

pub both_some : (x : Option Place) (y : Option (List Place)) (ps : List Place) → both x y ≡ some ps
    → (p : Place) × (qs : List Place) × (x ≡ some p) × (y ≡ some qs) × (p ∷ qs ≡ ps)
both_some none y ps e = let z : ◌≡◌ {A = ℕ} 0 1 = cc in absurd (omega arith)
both_some (some p) none ps e = let z : ◌≡◌ {A = ℕ} 0 1 = cc in absurd (omega arith)
both_some (some p) (some qs) ps e = (p, qs, refl, refl, cc)

pub provided_yes : (b : Bool) (x : Option (List Place)) → T b → provided b x ≡ x
provided_yes true x t = refl
provided_yes false x t = absurd t

pub provided_some : (b : Bool) (x : Option (List Place)) (ps : List Place) → provided b x ≡ some ps → T b × (x ≡ some ps)
provided_some true x ps e = (tt, e)
provided_some false x ps e = let z : ◌≡◌ {A = ℕ} 0 1 = cc in absurd (omega arith)

pub distinct_some : (x : Option (List Place)) (ps : List Place) → where_distinct x ≡ some ps → T (distinct ps) × (x ≡ some ps)
distinct_some none ps e = let z : ◌≡◌ {A = ℕ} 0 1 = cc in absurd (omega arith)
distinct_some (some qs) ps e =
    let h = provided_some (distinct qs) (some qs) ps e in
    let f : qs ≡ ps = let g = h.1 in cc in
    (subst (λ (x : List Place). T (distinct x)) f h.0, h.1)

-- a place that may stand in a cabinet
abbrev pub Good : Place → Type 0
Good free = Unit {0}
Good (held h) = (stands h.text ≡ about h.names h.gnt) × T (is_tvp h.tvp)

abbrev pub AllGood : List Place → Type 0
AllGood [] = Unit {0}
AllGood (p ∷ ps) = Good p × AllGood ps

whole_some : (b : Bytes) (p q : Place) → whole b p ≡ some q → (encode q ≡ b) × (p ≡ q)
whole_some b p q e =
    by_test (same b (encode p))
    (λ t.
    let f : some p ≡ some q = sym (cond_yes (same b (encode p)) (some p) none t) ∙ e in
    let g : p ≡ q = cc in
    (ap encode (sym g) ∙ sym (same→eq b (encode p) t), g))
    (λ t.
    let f : none ≡ some q = sym (cond_no (same b (encode p)) (some p) none t) ∙ e in
    let z : ◌≡◌ {A = ℕ} 0 1 = cc in absurd (omega arith))

-- what was decoded is good, and its bytes are those
decode_as_some : (b r : Bytes) (x : Reading) → stands r ≡ x → (p : Place) → decode_as b r x ≡ some p → (encode p ≡ b) × Good p
decode_as_some b r (declined n i) s p e = let z : ◌≡◌ {A = ℕ} 0 1 = cc in absurd (omega arith)
decode_as_some b r (about k g) s p e =
    by_test (is_tvp (tvp_in b))
    (λ t.
    let h = whole_some b (entry k g r (tvp_in b)) p (sym (cond_yes (is_tvp (tvp_in b)) (whole b (entry k g r (tvp_in b))) none t) ∙ e) in
    (h.0, subst Good h.1 (s, t)))
    (λ t.
    let f : none ≡ some p = sym (cond_no (is_tvp (tvp_in b)) (whole b (entry k g r (tvp_in b))) none t) ∙ e in
    let z : ◌≡◌ {A = ℕ} 0 1 = cc in absurd (omega arith))

pub decode_some : (b : Bytes) (p : Place) → decode b ≡ some p → (encode p ≡ b) × Good p
unfolding decode
decode_some b p e =
    by_test (same b (encode free))
    (λ t.
    let f : some free ≡ some p = sym (cond_yes (same b (encode free)) (some free) _ t) ∙ e in
    let g : free ≡ p = cc in
    (ap encode (sym g) ∙ sym (same→eq b (encode free) t), subst Good g tt))
    (λ t. decode_as_some b (up_to 0 b) (stands (up_to 0 b)) refl p (sym (cond_no (same b (encode free)) (some free) _ t) ∙ e))

-- the record, and zeros after it up to the TVP
abbrev pub text_zeros : Bytes → Bytes
text_zeros r = r ++ zeros (tvp_at - length r)

module _ (h : Held) (g : Good (held h)) where
  length_front : length (text_zeros h.text) ≡ tvp_at
  length_front = length-append h.text (zeros (tvp_at - length h.text)) ∙ omega (arith, length_zeros (tvp_at - length h.text), (fitting h.text h.names h.gnt g.0).long)

  length_held : length (encode (held h)) ≡ width
  unfolding encode width tvp_at
  length_held = simp (length-append, number_length) (omega (arith, length_front, tvp_length h.tvp g.1, length-append h.text (zeros (tvp_at - length h.text))))

  pub text_back : up_to 0 (encode (held h)) ≡ h.text
  unfolding encode
  text_back =
      let f = fitting h.text h.names h.gnt g.0 in
      ap (up_to 0) (append_assoc (text_zeros h.text) h.tvp (number_of h.text))
      ∙ up_to_text h.text (h.tvp ++ number_of h.text) (tvp_at - length h.text) (omega (arith, f.long)) f.no_zero

  pub front_back : take tvp_at (encode (held h)) ≡ text_zeros h.text
  unfolding encode
  front_back =
      ap (take tvp_at) (append_assoc (text_zeros h.text) h.tvp (number_of h.text))
      ∙ take_at (text_zeros h.text) (h.tvp ++ number_of h.text) tvp_at length_front

  pub number_back : drop number_at (encode (held h)) ≡ number_of h.text
  unfolding encode tvp_at number_at
  number_back =
      drop_at (text_zeros h.text ++ h.tvp) (number_of h.text) number_at
      (length-append (text_zeros h.text) h.tvp ∙ omega (arith, length_front, tvp_length h.tvp g.1))

  pub tvp_back : tvp_in (encode (held h)) ≡ h.tvp
  unfolding encode tvp_at number_at
  tvp_back =
      ap (λ (x : Bytes). take 16 (drop tvp_at x)) (append_assoc (text_zeros h.text) h.tvp (number_of h.text))
      ∙ ap (take 16) (drop_at (text_zeros h.text) (h.tvp ++ number_of h.text) tvp_at length_front)
      ∙ take_at h.tvp (number_of h.text) 16 (tvp_length h.tvp g.1)

  pub held_not_free : T (not (same (encode (held h)) (encode free)))
  unfolding encode
  held_not_free =
      by_test (same (encode (held h)) (encode free))
      (λ t.
      let e = sym text_back ∙ ap (up_to 0) (same→eq (encode (held h)) (encode free) t) ∙ up_to_zeros width in
      absurd ((fitting h.text h.names h.gnt g.0).some_byte (ap length e)))
      (λ t. t)

  decode_held : decode (encode (held h)) ≡ some (held h)
  unfolding decode
  decode_held =
      let b = encode (held h) in
      cond_no (same b (encode free)) (some free) _ held_not_free
      ∙ ap (λ (x : Bytes). decode_as b x (stands x)) text_back
      ∙ ap (decode_as b h.text) g.0
      ∙ ap (λ (t : Bytes). cond (is_tvp t) (whole b (entry h.names h.gnt h.text t)) none) tvp_back
      ∙ cond_yes (is_tvp h.tvp) (whole b (held h)) none g.1
      ∙ cond_yes (same b b) (some (held h)) none (same_refl b)

pub length_encode : (p : Place) → Good p → length (encode p) ≡ width
unfolding encode width
length_encode free g = length_zeros width
length_encode (held h) g = length_held h g

pub decode_encode : (p : Place) → Good p → decode (encode p) ≡ some p
unfolding decode
decode_encode free g = cond_yes (same (encode free) (encode free)) (some free) _ (same_refl (encode free))
decode_encode (held h) g = decode_held h g

-- ---- the image

pub length_image : (ps : List Place) → AllGood ps → length (image ps) ≡ length ps * width
length_image [] g = sym (zero-mul width)
length_image (p ∷ ps) g = length-append (encode p) (image ps) ∙ ap₂ ◌+◌ (length_encode p g.0) (length_image ps g.1) ∙ add_comm width (length ps * width) ∙ sym (suc-mul (length ps) width)

pub decode_image : (ps : List Place) → AllGood ps → decode_all (parts width (length ps) (image ps)) ≡ some ps
decode_image [] g = refl
decode_image (p ∷ ps) g =
    let l = length_encode p g.0 in
    rw (take_at (encode p) (image ps) width l, drop_at (encode p) (image ps) width l)
    (ap₂ both (decode_encode p g.0) (decode_image ps g.1))

-- a list of places that is a cabinet's
pub record Shelved (ps : List Place) : Type 0 where
  pub good : AllGood ps
  pub apart : T (distinct ps)
  pub number : length ps ≡ places

eq_eqb' : (a b : ℕ) → a ≡ b → T (eqb a b)
eq_eqb' a b e = subst (λ (x : ℕ). T (eqb a x)) e (eqb_refl a)

pub shelf_image : (ps : List Place) → Shelved ps → shelf (image ps) ≡ some ps
unfolding shelf
shelf_image ps h =
    provided_yes (eqb (length (image ps)) (places * width)) (where_distinct (decode_all (parts width places (image ps))))
    (eq_eqb' (length (image ps)) (places * width) (length_image ps h.good ∙ ap (λ (x : ℕ). x * width) h.number))
    ∙ ap (λ (x : ℕ). where_distinct (decode_all (parts width x (image ps)))) (sym h.number)
    ∙ ap where_distinct (decode_image ps h.good)
    ∙ provided_yes (distinct ps) (some ps) h.apart

-- ---- what shelf gives is a cabinet's places, and their image is those bytes

pub parts_some : (n : ℕ) (s : Bytes) (ps : List Place) → length s ≡ n * width → decode_all (parts width n s) ≡ some ps
    → (image ps ≡ s) × AllGood ps × (length ps ≡ n)
parts_some zero s ps l e =
    let f : [] ≡ ps = cc in
    let t : (image [] ≡ s) × AllGood [] × (length {A = Place} [] ≡ 0) = (sym (no_length s (l ∙ zero-mul width)), tt, refl) in
    subst (λ (x : List Place). (image x ≡ s) × AllGood x × (length x ≡ 0)) f t
parts_some (suc n) s ps l e =
    let (p, qs, ep, eq, f) = both_some (decode (take width s)) (decode_all (parts width n (drop width s))) ps e in
    let d = decode_some (take width s) p ep in
    let ih = parts_some n (drop width s) qs (length-drop width s ∙ omega (arith, l, suc-mul n width)) eq in
    let t : (image (p ∷ qs) ≡ s) × AllGood (p ∷ qs) × (length (p ∷ qs) ≡ suc n) =
    (ap₂ ◌++◌ d.0 ih.0 ∙ take-append-drop width s, (d.1, ih.1), ap suc ih.2) in
    subst (λ (x : List Place). (image x ≡ s) × AllGood x × (length x ≡ suc n)) f t

pub shelf_some : (s : Bytes) (ps : List Place) → shelf s ≡ some ps → (image ps ≡ s) × Shelved ps
unfolding shelf
shelf_some s ps e =
    let h = provided_some (eqb (length s) (places * width)) _ ps e in
    let g = distinct_some (decode_all (parts width places s)) ps h.1 in
    let t = parts_some places s ps (eqb→eq (length s) (places * width) h.0) g.1 in
    (t.0, record { good = t.1; apart = g.0; number = t.2 })

-- what is found in them may stand in a place
pub lookup_good : (k : Names) (ps : List Place) (h : Held) → AllGood ps → lookup k ps ≡ some h → Good (held h)
lookup_good k [] h a e = let z : ◌≡◌ {A = ℕ} 0 1 = cc in absurd (omega arith)
lookup_good k (p ∷ ps) h a e =
    by_test (holds k p)
    (λ t. this p (sym (lookup_here k p ps t) ∙ e) a.0)
    (λ t. lookup_good k ps h a.1 (sym (lookup_there k p ps t) ∙ e))
  where
    this : (q : Place) → contents q ≡ some h → Good q → Good (held h)
    this free f g = let z : ◌≡◌ {A = ℕ} 0 1 = cc in absurd (omega arith)
    this (held i) f g = let j : i ≡ h = cc in subst (λ (x : Held). Good (held x)) j g
