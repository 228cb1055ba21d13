-- The names of a Subject, where they stand: the code compares the front of one identity, up to its third ':', with the front of another, and that is comparing
-- kind, Manufacturer and MID.
-- Assumes nothing.
use Prim.Native.Nat.{ℕ, zero, suc, ◌-◌}
use Prim.Native.Char.{code}
use mathlib.Core.Path.{◌≡◌, refl, sym, ap, ◌∙◌, subst}
use mathlib.Core.Logic.{◌≢◌}
use mathlib.Core.Bool.{Bool, true, false, not, ◌&&◌}
use mathlib.Core.List.{List, [], ◌∷◌, ◌++◌, append_assoc, append-nil}
use native.Mathlib.Omega.{arith}
use lib.ListN.{length, take, drop, get_or, length-append}
use lib.Seq.{take-append_seam, drop-append_seam}
use lib.Dec.{T, eqb, eqb_refl, eqb→eq}
use mir.Facts.{and_yes}
use borrow.Author.Tests.{eq-eqb, ne_eqb, le-leb}
use Rattle.crc16.specs.Crc.{crc_of}
use Rattle.text.specs.Text.{Bytes, same, without}
use Rattle.text.specs.Base16.{check_text}
use Rattle.text.specs.Later.{later}
use Rattle.text.proofs.Tests.{T_true, T_false, by_test}
use Rattle.text.proofs.Types.{plain_without}
use Rattle.format.specs.Kinds.{Kind, name, mark, identity_kinds, pubkey_kinds}
use Rattle.format.specs.Build.{joined, WithoutAll, with_check, record_of, IsIdentity, Built, BuiltUnder}
use Rattle.format.specs.Read.{cut}
use Rattle.format.specs.declared.Rules.TheVariants.{UpToE10}
use Rattle.format.proofs.Table.{every_kind, all_among, identity_row, pubkey_row, name_plain, mark_no_character}
use Rattle.format.proofs.Parts.{joined_append, cut_parts}
use Rattle.format.proofs.Fields.{record_clean}
use Rattle.format.proofs.Exactly.{identity_exact, identity_tame, under_exact, its_count}
use Rattle.frame.specs.Frame.{part_of, part_start}
use Rattle.subjects.specs.Subjects.{manufacturer, mid}
use Rattle.subjects.specs.Keys.{subject, KeyUnder}
use Rattle.subjects.proofs.Subjects.{identity-field}
use Rattle.shelf.specs.Places.{Names, named, same_names, Held, held}
use Rattle.shelf.specs.Cabinet.{width, tvp_at, number_of, stands, about, zeros, encode}
use Rattle.shelf.proofs.Readings.{Asked, held_of}
use Rattle.cabinet.specs.Steps.{names_in, subject_at, starts_so, is_later_than}

-- ---- fronts

-- t begins with v
abbrev begins : Bytes → Bytes → Bool
begins v t = same (take (length v) t) v

-- a part, its mark and u in front of a part, its mark and t
begins_part : (m : ℕ) (a x u t : Bytes) → T (without m a) → T (without m x) → begins (a ++ m ∷ u) (x ++ m ∷ t) ≡ (same a x && begins u t)
begins_part m [] [] u t p q = rw (T_true (eqb m m) (eqb_refl m))
begins_part m [] (y ∷ x) u t p q = rw (T_false (eqb y m) (and_yes (not (eqb y m)) (without m x) q).0)
begins_part m (c ∷ a) [] u t p q =
    rw (ne_eqb m c (λ e. let n = T_false (eqb c m) (and_yes (not (eqb c m)) (without m a) p).0 in let z = sym n ∙ eq-eqb c m (sym e) in let w : ◌≡◌ {A = ℕ} 0 1 = cc in omega arith))
begins_part m (c ∷ a) (y ∷ x) u t p q =
    by_test (eqb c y)
    (λ h.
    let e = eqb→eq c y h in
    rw (eq-eqb y c (sym e), T_true (eqb c y) h)
    (begins_part m a x u t (and_yes (not (eqb c m)) (without m a) p).1 (and_yes (not (eqb y m)) (without m x) q).1))
    (λ h. rw (T_false (eqb c y) h, ne_eqb y c (λ e. let z = sym (T_false (eqb c y) h) ∙ eq-eqb c y (sym e) in let w : ◌≡◌ {A = ℕ} 0 1 = cc in omega arith)))

-- ---- the names' own text: each followed by ':'

abbrev pub names_text : Names → Bytes
names_text (named a b c) = joined (code ":") (a ∷ b ∷ c ∷ [])

-- no mark stands in a name, and the first has a character that is not 0
pub record Clean (k : Names) : Type 0 where
  pub kind : Bytes
  pub maker : Bytes
  pub id : Bytes
  pub is : k ≡ named kind maker id
  pub kind_clean : T (without (code ":") kind)
  pub maker_clean : T (without (code ":") maker)
  pub id_clean : T (without (code ":") id)
  pub front : get_or kind 0 0 ≢ 0

begins_names : (k l : Names) (r : Bytes) → Clean k → Clean l → begins (names_text k) (names_text l ++ r) ≡ same_names k l
begins_names k l r p q =
    rw (p.is, q.is, append_assoc q.kind _ r, append_assoc q.maker _ r, append_assoc q.id _ r)
    (begins_part (code ":") p.kind q.kind _ _ p.kind_clean q.kind_clean
    ∙ ap (λ (b : Bool). same p.kind q.kind && b)
    (begins_part (code ":") p.maker q.maker _ _ p.maker_clean q.maker_clean
    ∙ ap (λ (b : Bool). same p.maker q.maker && b) (begins_part (code ":") p.id q.id [] r p.id_clean q.id_clean ∙ and_yes_true (same p.id q.id))))
  where
    and_yes_true : (b : Bool) → (b && true) ≡ b
    and_yes_true true = refl
    and_yes_true false = refl

three_taken : (a b c r : Bytes) → T (without (code ":") a) → T (without (code ":") b) → T (without (code ":") c)
    → names_in (joined (code ":") (a ∷ b ∷ c ∷ []) ++ r) ≡ joined (code ":") (a ∷ b ∷ c ∷ [])
unfolding names_in part_start
three_taken a b c r p q o =
    let v : Bytes = joined (code ":") (a ∷ b ∷ c ∷ []) in
    let at : length (joined (code ":") (take 3 (cut (code ":") (v ++ r)))) ≡ length v =
    ap (λ (l : List Bytes). length (joined (code ":") (take 3 l))) (cut_parts (code ":") (a ∷ b ∷ c ∷ []) r (p, (q, (o, tt)))) in
    rw (at, le-leb (length v) (length (v ++ r)) (omega (arith, length-append v r))) (take-append_seam v r)

-- the code takes the names from the front
front_taken : (k : Names) → Clean k → (r : Bytes) → names_in (names_text k ++ r) ≡ names_text k
front_taken k p r = rw p.is (three_taken p.kind p.maker p.id r p.kind_clean p.maker_clean p.id_clean)

-- ---- an accepted identity begins with its names

kind_front : (k : Kind) → get_or (name k) 0 0 ≢ 0
kind_front k e = let h = every_kind (λ j. not (eqb (get_or (name j) 0 0) 0)) tt k in let f : T (not (eqb (get_or (name k) 0 0) 0)) = h in rw (eq-eqb (get_or (name k) 0 0) 0 e) at f

module _ {i : Bytes} {k : Names} {g : Bytes} (a : Asked i k g) where
  built : Built identity_kinds i a.who a.fields
  built = (identity_exact i a.who a.fields).0 a.known

  its_mark : mark a.who ≡ code ":"
  its_mark = (identity_row a.who built.of-kind).0

  parts_clean : WithoutAll (code ":") (name a.who ∷ a.fields)
  parts_clean =
      let P : ℕ → Type 0 = λ m. WithoutAll m (name a.who ∷ a.fields) in
      subst P its_mark (
        plain_without (mark a.who) (mark_no_character a.who) (name a.who) (name_plain a.who),
        record_clean IsIdentity identity_tame a.who a.fields built.permitted.fit,
      )

  four : length a.fields ≡ 4
  four = its_count built ∙ ap length (identity_row a.who built.of-kind).1

  pub clean : Clean k
  clean = go a.fields four parts_clean.1 a.names_so
    where
      go : (fs : List Bytes) → length fs ≡ 4 → WithoutAll (code ":") fs → k ≡ named (name a.who) (manufacturer fs) (mid fs) → Clean k
      go [] l w e = absurd (omega arith)
      go (x ∷ []) l w e = absurd (omega arith)
      go (x ∷ y ∷ fs) l w e =
          record { kind = name a.who; maker = x; id = y; is = e; kind_clean = parts_clean.0; maker_clean = w.0; id_clean = w.1.0; front = kind_front a.who }

  -- its bytes: the names, and what follows
  pub begins_so : (r : Bytes) × (i ≡ names_text k ++ r)
  unfolding record_of with_check
  begins_so = go a.fields four a.names_so built.built
    where
      go : (fs : List Bytes) → length fs ≡ 4 → k ≡ named (name a.who) (manufacturer fs) (mid fs) → i ≡ record_of a.who fs → (r : Bytes) × (i ≡ names_text k ++ r)
      go [] l e f = absurd (omega arith)
      go (x ∷ []) l e f = absurd (omega arith)
      go (x ∷ y ∷ fs) l e f =
          let parts : List Bytes = name a.who ∷ x ∷ y ∷ fs in
          let c = check_text (crc_of (joined (code ":") parts)) in
          (joined (code ":") fs ++ c, f ∙ ap (λ (m : ℕ). joined m parts ++ check_text (crc_of (joined m parts))) its_mark ∙ rw e (ap (λ (z : Bytes). z ++ c) (joined_append (code ":") (name a.who ∷ x ∷ y ∷ []) fs) ∙ append_assoc (joined (code ":") (name a.who ∷ x ∷ y ∷ [])) (joined (code ":") fs) c))

  -- and those are what the code takes
  pub names_taken : names_in i ≡ names_text k
  names_taken = ap names_in begins_so.1 ∙ front_taken k clean begins_so.0

-- ---- a free place, and one that holds a record

-- names do not begin with a zero
zeros_begin : (m n : ℕ) (v : Bytes) → get_or v 0 0 ≢ 0 → begins v (drop m (zeros n)) ≡ false
zeros_begin m n [] h = absurd (h refl)
zeros_begin zero zero (c ∷ v) h = refl
zeros_begin (suc m) zero (c ∷ v) h = refl
zeros_begin zero (suc n) (c ∷ v) h = rw (ne_eqb 0 c (λ e. h (sym e)))
zeros_begin (suc m) (suc n) (c ∷ v) h = zeros_begin m n (c ∷ v) h

pub free_names : (k : Names) → Clean k → starts_so (zeros width) (names_text k) ≡ false
unfolding starts_so
free_names k p = zeros_begin (part_start (code "|") (zeros width) 1) width (names_text k) (rw p.is (front_joined p.kind _ p.front))
  where
    front_joined : (a u : Bytes) → get_or a 0 0 ≢ 0 → get_or (a ++ u) 0 0 ≢ 0
    front_joined [] u h = absurd (h refl)
    front_joined (c ∷ a) u h = h

module _ (h : Held) (good : stands h.text ≡ about h.names h.gnt) where
  abbrev pub key_so : KeyUnder UpToE10 h.text
  key_so = (held_of UpToE10 h.text h.names h.gnt good).key

  pub its_subject : Asked (subject key_so.fields) h.names h.gnt
  its_subject = (held_of UpToE10 h.text h.names h.gnt good).subject_so

  built_key : BuiltUnder UpToE10 pubkey_kinds h.text key_so.kind key_so.fields
  built_key = (under_exact UpToE10 pubkey_kinds h.text key_so.kind key_so.fields).0 key_so.is

  key_mark : mark key_so.kind ≡ code "|"
  key_mark = all_among (λ k. mark k ≡ code "|") pubkey_kinds (refl, (refl, tt)) key_so.kind built_key.of-kind

  key_parts : WithoutAll (code "|") (name key_so.kind ∷ key_so.fields)
  key_parts =
      let P : ℕ → Type 0 = λ m. WithoutAll m (name key_so.kind ∷ key_so.fields) in
      subst P key_mark (
        plain_without (mark key_so.kind) (mark_no_character key_so.kind) (name key_so.kind) (name_plain key_so.kind),
        record_clean IsIdentity identity_tame key_so.kind key_so.fields built_key.permitted.fit,
      )

  -- the text, whatever follows it: its kind's name, the Subject, and the rest
  text_so : (t : Bytes) → (r : Bytes) × (h.text ++ t ≡ joined (code "|") (name key_so.kind ∷ subject key_so.fields ∷ []) ++ r)
  unfolding record_of with_check
  text_so t = go key_so.fields (its_count built_key ∙ ap length (pubkey_row key_so.kind built_key.of-kind).1) built_key.built
    where
      go : (fs : List Bytes) → length fs ≡ 5 → h.text ≡ record_of key_so.kind fs → (r : Bytes) × (h.text ++ t ≡ joined (code "|") (name key_so.kind ∷ subject fs ∷ []) ++ r)
      go [] l f = absurd (omega arith)
      go (x ∷ fs) l f =
          let two = joined (code "|") (name key_so.kind ∷ x ∷ []) in
          let parts : List Bytes = name key_so.kind ∷ x ∷ fs in
          let c = check_text (crc_of (joined (code "|") parts)) in
          let text : h.text ≡ two ++ (joined (code "|") fs ++ c) =
          f ∙ ap (λ (m : ℕ). joined m parts ++ check_text (crc_of (joined m parts))) key_mark
          ∙ ap (λ (t : Bytes). t ++ c) (joined_append (code "|") (name key_so.kind ∷ x ∷ []) fs) ∙ append_assoc two (joined (code "|") fs) c in
          ((joined (code "|") fs ++ c) ++ t, ap (λ (u : Bytes). u ++ t) text ∙ append_assoc two (joined (code "|") fs ++ c) t)

  -- and so the bytes of its place
  place_so : (r : Bytes) × (encode (held h) ≡ joined (code "|") (name key_so.kind ∷ subject key_so.fields ∷ []) ++ r)
  unfolding encode
  place_so =
      let rest = zeros (tvp_at - length h.text) in
      let (r, e) = text_so (rest ++ (h.tvp ++ number_of h.text)) in
      (r, append_assoc (h.text ++ rest) h.tvp (number_of h.text) ∙ append_assoc h.text rest (h.tvp ++ number_of h.text) ∙ e)

  two_parts : WithoutAll (code "|") (name key_so.kind ∷ subject key_so.fields ∷ [])
  two_parts = (key_parts.0, (go key_so.fields key_parts.1, tt))
    where
      go : (fs : List Bytes) → WithoutAll (code "|") fs → T (without (code "|") (subject fs))
      go [] w = tt
      go (x ∷ fs) w = w.0

  -- what the code takes for its Subject, alone and in its place
  subject_first : (s r : Bytes) → s ≡ joined (code "|") (name key_so.kind ∷ subject key_so.fields ∷ []) ++ r → subject_at s ≡ subject key_so.fields
  unfolding subject_at part_of
  subject_first s r e = rw e (ap (λ (l : List Bytes). get_or l 1 []) (cut_parts (code "|") (name key_so.kind ∷ subject key_so.fields ∷ []) r two_parts))

  pub subject_alone : subject_at h.text ≡ subject key_so.fields
  subject_alone = let (r, e) = text_so [] in subject_first h.text r (sym (append-nil h.text) ∙ e)

  pub subject_taken : subject_at (encode (held h)) ≡ subject key_so.fields
  subject_taken = let (r, e) = place_so in subject_first (encode (held h)) r e

  pub held_names : (k : Names) → Clean k → starts_so (encode (held h)) (names_text k) ≡ same_names k h.names
  unfolding starts_so part_start
  held_names k p =
      let (r, e) = place_so in
      let (u, f) = begins_so its_subject in
      let n : Bytes = joined (code "|") (name key_so.kind ∷ []) in
      let s : Bytes = subject key_so.fields in
      let at : part_start (code "|") (encode (held h)) 1 ≡ length n =
      rw e (ap (λ (l : List Bytes). length (joined (code "|") (take 1 l))) (cut_parts (code "|") (name key_so.kind ∷ s ∷ []) r two_parts)) in
      let rest : drop (length n) (encode (held h)) ≡ names_text h.names ++ (u ++ (code "|" ∷ r)) =
      ap (drop (length n)) (e ∙ ap (λ (t : Bytes). t ++ r) (joined_append (code "|") (name key_so.kind ∷ []) (s ∷ [])) ∙ append_assoc n (joined (code "|") (s ∷ [])) r)
      ∙ drop-append_seam n (joined (code "|") (s ∷ []) ++ r)
      ∙ append_assoc s (code "|" ∷ []) r
      ∙ ap (λ (t : Bytes). t ++ code "|" ∷ r) f
      ∙ append_assoc (names_text h.names) u (code "|" ∷ r) in
      rw (at, rest) (begins_names k h.names (u ++ (code "|" ∷ r)) p (clean its_subject))

  -- its GNT
  pub held_later : {i : Bytes} {k : Names} {g : Bytes} → Asked i k g → is_later_than i (encode (held h)) ≡ later g h.gnt
  unfolding is_later_than
  held_later {i} {k} {g} a =
      let b = its_subject in
      rw (subject_taken, identity-field i a.known 2, identity-field (subject key_so.fields) b.known 2, ← a.gnt_so, ← b.gnt_so)
