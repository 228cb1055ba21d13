-- The choice step by step, as the code makes it: the two records' own refusals, then number 13, then the later GNT.
-- Assumes nothing.
use mathlib.Core.Path.{◌≡◌, refl, sym, ap, ◌∙◌}
use mathlib.Core.Bool.{Bool, true, false, cond}
use mathlib.Core.List.{List}
use native.Mathlib.Omega.{arith}
use lib.Dec.{T}
use denote.Ref.{Bor}
use Rattle.text.specs.Text.{Bytes}
use Rattle.text.specs.Part.{NoPart}
use Rattle.text.proofs.Tests.{by_test, cond_yes, cond_no}
use Rattle.text.specs.Later.{later}
use Rattle.numbers.specs.Numbers.{not_alike}
use Rattle.format.specs.Kinds.{Kind, pubkey_kinds}
use Rattle.format.specs.Build.{Built}
use Rattle.format.specs.Read.{Outcome, accepted, refused, answer, read_identity, read_of}
use Rattle.format.proofs.Exactly.{read_says, read_honest}
use Rattle.places.specs.Places.{field_at}
use Rattle.reading.specs.Reading.{answer_of}
use Rattle.reading.specs.declared.Answer.{Answer}
use Rattle.reading.proofs.Answers.{Taken, taken, untaken}
use Rattle.subjects.specs.Subjects.{alike, identity_part, are_alike}
use Rattle.subjects.proofs.Subjects.{identity-field, alike_identities}
use Rattle.newer.specs.Newer.{Decision, theFirst, theSecond, no_choice, subject, by_subjects, by_records, newer, choice_no, choice_which, choice_said, IsChosen, Chosen}
use Rattle.newer.specs.declared.Choice.{Choice}
use Rattle.newer.specs.Keys.{Key, gnt_of}
use Rattle.newer.specs.Steps.{Named}
use Rattle.subjects.proofs.Keys.{key, its_field}

-- ---- by the two Subjects

module _ (i j : Bytes) (p : Named i) (q : Named j) where
  by_names : by_subjects (read_identity i) (read_identity j) ≡ cond (are_alike i j) (cond (later (identity_part j 3) (identity_part i 3)) theSecond theFirst) (no_choice 0 not_alike 0)
  by_names =
      rw (
        p.known,
        q.known,
        alike_identities i j p.known q.known,
        identity-field i p.known 2,
        identity-field j q.known 2,
      )

  pub said_unlike : are_alike i j ≡ false → record { no = not_alike; field = 0; which = 0 } ≡ choice_said (by_subjects (read_identity i) (read_identity j))
  said_unlike e = sym (ap choice_said by_names ∙ rw e)

  pub said_alike : are_alike i j ≡ true → (l : Bool) → later (identity_part j 3) (identity_part i 3) ≡ l → choice_said (cond l theSecond theFirst) ≡ choice_said (by_subjects (read_identity i) (read_identity j))
  said_alike e l f = sym (ap choice_said by_names ∙ rw (e, f))

-- ---- by the two records, of which r and t are what was answered

module _ (a b : Bytes) (r : Answer) (e : r ≡ answer_of (read_of pubkey_kinds a)) where
  pub said_first : (r.no ≡ 0 → ⊥) → record { no = r.no; field = r.field; which = 1 } ≡ choice_said (newer a b)
  unfolding newer
  said_first z = rw (untaken (read_of pubkey_kinds a) r e z)

  module _ (z : r.no ≡ 0) (t : Answer) (f : t ≡ answer_of (read_of pubkey_kinds b)) where
    one : Taken (Built pubkey_kinds a) (read_of pubkey_kinds a) r.kind
    one = taken (Built pubkey_kinds a) (read_of pubkey_kinds a) r (read_says pubkey_kinds a) e z

    first_key : Key a
    first_key = key a one.kind one.fields one.is

    pub said_second : (t.no ≡ 0 → ⊥) → record { no = t.no; field = t.field; which = 2 } ≡ choice_said (newer a b)
    unfolding newer
    said_second y = rw (one.is, untaken (read_of pubkey_kinds b) t f y)

    -- i and j are the Subjects as the code has them
    module _ (y : t.no ≡ 0) (i j : Bytes) (ei : i ≡ field_at a r.starts r.lens 1) (ej : j ≡ field_at b t.starts t.lens 1) where
      other : Taken (Built pubkey_kinds b) (read_of pubkey_kinds b) t.kind
      other = taken (Built pubkey_kinds b) (read_of pubkey_kinds b) t (read_says pubkey_kinds b) f y

      second_key : Key b
      second_key = key b other.kind other.fields other.is

      named : (s : Bytes) (k : Key s) (u : Bytes) → u ≡ subject k.fields → Named u
      named s k u q = record { who = k.who; names = k.names; known = rw q k.known }

      first_subject : i ≡ subject first_key.fields
      first_subject = ei ∙ its_field a first_key r e 0

      second_subject : j ≡ subject second_key.fields
      second_subject = ej ∙ its_field b second_key t f 0

      pub first_named : Named i
      first_named = named a first_key i first_subject

      pub second_named : Named j
      second_named = named b second_key j second_subject

      pub by_keys : by_subjects (read_identity i) (read_identity j) ≡ newer a b
      unfolding newer
      by_keys = rw (first_subject, second_subject, first_key.is, second_key.is)

module _ (a b : Bytes) where
  -- ---- two accepted public keys

  module _ (p : Key a) (q : Key b) where
    abbrev agree : Bool
    agree = alike p.who p.names q.who q.names

    abbrev by_gnt : Decision
    by_gnt = cond (later (gnt_of q) (gnt_of p)) theSecond theFirst

    pub newer_keys : newer a b ≡ cond agree by_gnt (no_choice 0 not_alike 0)
    unfolding newer
    newer_keys = rw (p.is, q.is, p.known, q.known)

  -- ---- a choice with no number

  module _ (z : choice_no (newer a b) ≡ 0) where
    pub chosen_keys : Key a × Key b
    unfolding newer
    chosen_keys =
        let (k, fs, e) = read_honest pubkey_kinds a (first (read_of pubkey_kinds a) (read_of pubkey_kinds b) z) in
        let (j, gs, f) = read_honest pubkey_kinds b (second k fs (read_of pubkey_kinds b) (rw e at z)) in
        (key a k fs e, key b j gs f)
      where
        first : (o p : Outcome) → choice_no (by_records o p) ≡ 0 → answer o ≡ 0
        first (accepted k fs) p h = refl
        first (refused n i) p h = h

        second : (k : Kind) (fs : List Bytes) (p : Outcome) → choice_no (by_records (accepted k fs) p) ≡ 0 → answer p ≡ 0
        second k fs (accepted j gs) h = refl
        second k fs (refused n i) h = h

    module _ (p : Key a) (q : Key b) where
      pub chosen_agree : T (agree p q)
      chosen_agree =
          by_test (agree p q)
          (λ t. t)
          (λ t.
          let n : not_alike ≡ 0 = sym (ap choice_no (newer_keys p q ∙ cond_no (agree p q) (by_gnt p q) (no_choice 0 not_alike 0) t)) ∙ z in
          absurd (omega arith))

      pub chosen_later : newer a b ≡ by_gnt p q
      chosen_later = newer_keys p q ∙ cond_yes (agree p q) (by_gnt p q) (no_choice 0 not_alike 0) chosen_agree

    one_of_two : (l : Bool) × (newer a b ≡ cond l theSecond theFirst)
    one_of_two = (later (gnt_of chosen_keys.1) (gnt_of chosen_keys.0), chosen_later chosen_keys.0 chosen_keys.1)

  -- ---- which of the two it is, as the code tells it

  module _ (c : Choice) (e : c ≡ choice_said (newer a b)) (z : c.no ≡ 0) where
    two : (l : Bool) × (newer a b ≡ cond l theSecond theFirst)
    two = one_of_two (sym (ap (λ (x : Choice). x.no) e) ∙ z)

    which_so : (d : Decision) → newer a b ≡ d → c.which ≡ choice_which d
    which_so d q = ap (λ (x : Choice). x.which) (e ∙ ap choice_said q)

    is_second : c.which ≡ 2 → newer a b ≡ theSecond
    is_second h = go two.0 two.1
      where
        go : (l : Bool) → newer a b ≡ cond l theSecond theFirst → newer a b ≡ theSecond
        go true q = q
        go false q = absurd (omega (arith, which_so theFirst q))

    is_first : (c.which ≡ 2 → ⊥) → newer a b ≡ theFirst
    is_first h = go two.0 two.1
      where
        go : (l : Bool) → newer a b ≡ cond l theSecond theFirst → newer a b ≡ theFirst
        go true q = absurd (h (which_so theSecond q))
        go false q = q

-- ---- the part r that is handed back

module _ {first second r : Bor Bytes} where
  chosen : (d : Decision) (c : Choice) → c ≡ choice_said d → IsChosen d first second r → Chosen d first second r c.no c.field
  chosen d c e p = rw e (record { part_so = p; number_so = refl; field_so = refl })

  pub chosen_none : (d : Decision) (c : Choice) → c ≡ choice_said d → (c.no ≡ 0 → ⊥) → NoPart first r → Chosen d first second r c.no c.field
  chosen_none theFirst c e z p = absurd (z (ap (λ (x : Choice). x.no) e))
  chosen_none theSecond c e z p = absurd (z (ap (λ (x : Choice). x.no) e))
  chosen_none (no_choice w n i) c e z p = chosen (no_choice w n i) c e p

  pub chosen_second : (c : Choice) → c ≡ choice_said (newer first.now second.now) → c.no ≡ 0 → c.which ≡ 2 → r ≡ second
      → Chosen (newer first.now second.now) first second r c.no c.field
  chosen_second c e z h p = chosen (newer first.now second.now) c e (rw (is_second first.now second.now c e z h) p)

  pub chosen_first : (c : Choice) → c ≡ choice_said (newer first.now second.now) → c.no ≡ 0 → (c.which ≡ 2 → ⊥) → r ≡ first
      → Chosen (newer first.now second.now) first second r c.no c.field
  chosen_first c e z h p = chosen (newer first.now second.now) c e (rw (is_first first.now second.now c e z h) p)
