-- The fields together: numbers 8, 14 and 28, by the row of the kind; and the fields each and together.
-- Assumes nothing.
use Prim.Native.Nat.{ℕ, ◌≤◌, ◌<◌}
use mathlib.Core.Path.{◌≡◌, refl, ap, sym, ◌∙◌}
use mathlib.Core.Logic.{⊎_elim}
use mathlib.Core.Bool.{Bool, true, false, cond, not, ◌&&◌, ◌||◌, beq}
use mathlib.Core.Option.{none, some}
use mathlib.Core.List.{List, []}
use native.Mathlib.Omega.{arith}
use lib.ListN.{length, get_or}
use lib.Dec.{T, eqb, eqb→eq}
use mir.Facts.{or_yes}
use borrow.Author.Tests.{ne_eqb}
use Rattle.text.specs.Text.{Bytes, same}
use Rattle.text.proofs.Tests.{less_or, true_T, all_below, below}
use Rattle.format.specs.Kinds.{Kind, SMID, ECDSA, ECDH, KEY, Field, name, fields_of, title}
use Rattle.format.specs.Attributes.{are_attributes}
use Rattle.format.specs.Build.{empty, signed}
use Rattle.format.specs.Read.{accepted, refused, passing, whole_answer, judged, read_identity}
use Rattle.format.specs.declared.Rules.{Rules}
use Rattle.format.specs.declared.Rules.TheVariants.{UpToE10, Today}
use Rattle.format.proofs.Earlier.{other_signed}
use Rattle.table.specs.Table.{row_of, row_count, missing_row, of_row, fields_at, count_of, is_pubkey}
use Rattle.table.proofs.Rows.{kind_at, row_at, in_row, of-kind, past_rows, pubkey_rows}
use Rattle.places.specs.Places.{seven, field_at}
use Rattle.places.proofs.Stands.{parts_at}
use Rattle.reading.specs.Reading.{kinds_within, kinds_of, judged_by}
use Rattle.reading.specs.declared.Refused.{Refused}
use Rattle.reading.specs.Steps.{parts_by, AllPass, FirstRefused, whole_no, unsigned_no, module_no, pubkey_no}
use Rattle.reading.proofs.Types.{empty_is}
use Rattle.reading.proofs.Fields.{judged_on, judged_stop}
use Rattle.reading.proofs.Outcomes.{passing_stop, passing_on, passing_as}

-- ---- the unsigned key of a module

-- what is asked of the Subject and of the Signature
abbrev unsigned : Bytes → Bytes → Bool
unsigned subject signature = same (title subject) (name SMID) && empty signature

-- the number by the test of the definition is that by the steps of the code
module_as : (rules : Rules) (fs : List Bytes) → cond (signed rules ECDH fs) 0 28 ≡ module_no rules (get_or fs 0 []) (get_or fs 4 [])
unfolding module_no
module_as UpToE10 fs = go (unsigned (get_or fs 0 []) (get_or fs 4 []))
  where
    go : (b : Bool) → ◌≡◌ {A = ℕ} 0 (cond b 0 0)
    go true = refl
    go false = refl
module_as Today fs = go (unsigned (get_or fs 0 []) (get_or fs 4 []))
  where
    go : (b : Bool) → ◌≡◌ {A = ℕ} (cond (not b) 0 28) (cond b 28 0)
    go true = refl
    go false = refl

-- with the title, and whether it is the module's, as the code has them
module _ (rules : Rules) (subject signature : Bytes) where
  pub signed_so : eqb (length signature) 0 ≡ false → 0 ≡ module_no rules subject signature
  unfolding module_no
  signed_so n = rw (empty_is signature, n) (go (same (title subject) (name SMID)))
    where
      go : (b : Bool) → 0 ≡ cond (b && false) (unsigned_no rules) 0
      go true = refl
      go false = refl

  pub unsigned_so : (t : Bytes) → t ≡ title subject → (b : Bool) → of_row (λ k. same t (name k)) false 1 ≡ b → eqb (length signature) 0 ≡ true → cond b (unsigned_no rules) 0 ≡ module_no rules subject signature
  unfolding of_row module_no
  unsigned_so t et b eb z = rw (← eb, et, empty_is signature, z) (go (same (title subject) (name SMID)))
    where
      go : (b : Bool) → cond b (unsigned_no rules) 0 ≡ cond (b && true) (unsigned_no rules) 0
      go true = refl
      go false = refl

-- the lengths of Issuer and Signature, as the code has them
module _ (rules : Rules) (row : ℕ) (subject issuer signature : Bytes) where
  pub pubkey_unpaired : beq (eqb (length issuer) 0) (eqb (length signature) 0) ≡ false → 8 ≡ pubkey_no rules row subject issuer signature
  unfolding pubkey_no
  pubkey_unpaired e = rw (empty_is issuer, empty_is signature, e)

  pub pubkey_paired : beq (eqb (length issuer) 0) (eqb (length signature) 0) ≡ true → (b : Bool) → eqb row 4 ≡ b → cond b (module_no rules subject signature) 0 ≡ pubkey_no rules row subject issuer signature
  unfolding pubkey_no
  pubkey_paired e b eb = rw (empty_is issuer, empty_is signature, e, eb)

-- ---- numbers 8, 14 and 28, by the row: what is said of each row is computed

module _ (rules : Rules) (row : ℕ) (fs : List Bytes) where
  pub whole_pubkey : is_pubkey row ≡ true → whole_no rules row fs ≡ pubkey_no rules row (get_or fs 0 []) (get_or fs 3 []) (get_or fs 4 [])
  unfolding whole_no whole_answer of_row pubkey_no
  whole_pubkey e =
      let paired : ℕ → ℕ = λ n. cond (beq (empty (get_or fs 3 [])) (empty (get_or fs 4 []))) n 8 in
      ⊎_elim (λ t. let z : row ≡ 3 = eqb→eq row 3 t in rw z (ap (λ (b : Bool). paired (cond b 0 28)) (other_signed rules ECDSA fs tt)))
      (λ t. let z : row ≡ 4 = eqb→eq row 4 t in rw z (ap paired (module_as rules fs)))
      (or_yes (eqb row 3) (eqb row 4) (true_T _ (pubkey_rows row ∙ e)))

  pub whole_key : row ≡ 7 → whole_no rules row fs ≡ cond (are_attributes (get_or fs 1 [])) 0 14
  unfolding whole_no whole_answer of_row
  whole_key e = rw e (ap (λ (b : Bool). cond (are_attributes (get_or fs 1 [])) (cond b 0 28) 14) (other_signed rules KEY fs tt))

  pub whole_other : is_pubkey row ≡ false → (row ≡ 7 → ⊥) → whole_no rules row fs ≡ 0
  unfolding whole_no whole_answer all_below of_row
  whole_other e n =
      less_or row row_count
      (λ h. eqb→eq (whole_no rules row fs) 0 (rw (e, ne_eqb row 7 n) at (below row_count (λ r. is_pubkey r || (eqb r 7 || eqb (whole_no rules r fs) 0)) (others rules) row h)))
      (λ h. past_rows (λ k. whole_answer rules k fs) 0 row h)
    where
      others : (rules : Rules) → T (all_below row_count (λ r. is_pubkey r || (eqb r 7 || eqb (whole_no rules r fs) 0)))
      others UpToE10 = tt
      others Today = tt

-- a public key has five fields
pubkey_five : (row : ℕ) → is_pubkey row ≡ true → count_of row ≡ 5
unfolding of_row
pubkey_five row e =
    ⊎_elim (λ t. let z : row ≡ 3 = eqb→eq row 3 t in rw z) (λ t. let z : row ≡ 4 = eqb→eq row 4 t in rw z)
    (or_yes (eqb row 3) (eqb row 4) (true_T _ (pubkey_rows row ∙ e)))

-- the same of the parts at places, with the fields as the code has them
module _ (rules : Rules) (row : ℕ) (s : Bytes) (starts lens : List ℕ) where
  -- Subject, Issuer and Signature
  pub pubkey-fields : (u x y : Bytes) → is_pubkey row ≡ true → u ≡ field_at s starts lens 1 → x ≡ field_at s starts lens 4 → y ≡ field_at s starts lens 5
      → whole_no rules row (parts_by row s starts lens) ≡ pubkey_no rules row u x y
  unfolding field_at
  pubkey-fields u x y e eu ex ey =
      let n = pubkey_five row e in
      whole_pubkey rules row (parts_by row s starts lens) e
      ∙ rw (eu, ex, ey, parts_at s starts lens (count_of row) 0 (omega (arith, n)), parts_at s starts lens (count_of row) 3 (omega (arith, n)), parts_at s starts lens (count_of row) 4 (omega (arith, n)))

  -- Attributes
  pub list_field : (x : Bytes) → row ≡ 7 → x ≡ field_at s starts lens 2
      → whole_no rules row (parts_by row s starts lens) ≡ cond (are_attributes x) 0 14
  unfolding field_at of_row
  list_field x e ex =
      let n : count_of row ≡ 3 = rw e in
      whole_key rules row (parts_by row s starts lens) e ∙ rw (ex, parts_at s starts lens (count_of row) 1 (omega (arith, n)))

-- ---- the fields each and together, by the row

pub judged_none : (rules : Rules) (row : ℕ) (fs : List Bytes) → row_count ≤ row → judged_by rules row fs ≡ refused 2 0
unfolding judged_by
judged_none rules row fs h = rw (past_rows some none row h)

pub judged_kind : (rules : Rules) (k : Kind) (row : ℕ) (fs : List Bytes) → row ≡ row_of k → judged_by rules row fs ≡ judged rules read_identity k fs (accepted k fs)
unfolding judged_by
judged_kind rules k row fs e = rw (e, of-kind some none k)

module _ (rules : Rules) (row : ℕ) (fs : List Bytes) (h : row < row_count) where
  its_row : row ≡ row_of (kind_at row)
  its_row = sym (row_at row h)

  pub judged_field : {r : Refused} → FirstRefused read_identity row fs r → judged_by rules row fs ≡ refused r.no r.field
  judged_field c = judged_kind rules (kind_at row) row fs its_row ∙ judged_stop rules (kind_at row) its_row c _

  -- each is accepted, and the number of all is w
  module _ (c : AllPass read_identity row fs) {w : ℕ} (ew : w ≡ whole_no rules row fs) where
    whole : judged_by rules row fs ≡ passing w 0 (accepted (kind_at row) fs)
    unfolding whole_no
    whole =
        judged_kind rules (kind_at row) row fs its_row
        ∙ judged_on rules (kind_at row) its_row c _
        ∙ passing_as 0 _ (sym (ew ∙ in_row (λ k. whole_answer rules k fs) 0 row h))

    pub judged_whole : (w ≡ 0 → ⊥) → judged_by rules row fs ≡ refused w 0
    judged_whole u = whole ∙ passing_stop w 0 _ u

    pub judged_all : w ≡ 0 → judged_by rules row fs ≡ accepted (kind_at row) fs
    judged_all u = whole ∙ passing_on w 0 _ u

-- the kinds of the fields by the row are those by the kind
pub kinds_said : (row : ℕ) (fs : List Bytes) → row < row_count → (kinds : List ℕ) → kinds ≡ seven missing_row (kinds_within 0 (fields_at row) fs) → kinds ≡ kinds_of (kind_at row) fs
unfolding kinds_of
kinds_said row fs h kinds e = e ∙ ap (λ (ts : List Field). seven missing_row (kinds_within 0 ts fs)) (in_row fields_of [] row h)
