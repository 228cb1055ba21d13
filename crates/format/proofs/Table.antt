-- The table of kinds: a kind is known by its name, and what holds of every kind is one computed test.
-- Assumes nothing.
use Prim.Native.Nat.{ℕ, suc, ◌+◌, ◌≤◌, max}
use Prim.Native.Char.{code}
use mathlib.Core.Path.{◌≡◌, refl, sym, ap, ◌∙◌, subst}
use mathlib.Core.Logic.{⊎_elim}
use mathlib.Core.Option.{Option, some, none-ne-some, some-injective}
use mathlib.Core.Bool.{Bool, true, false, not, cond, ◌&&◌, ◌||◌}
use mathlib.Core.List.{List, [], ◌∷◌, map}
use lib.Dec.{T, T_not, eqb, leb, lit≤, eqb→eq, leb→le}
use lib.ListN.{length, get_or}
use mir.Facts.{and_yes, or_yes, yes_eqb}
use Rattle.text.specs.Text.{Bytes, same, every, all_of, ident_character, printable, longest}
use Rattle.text.proofs.Tests.{by_test, T_true, T_false, or_left, or_right, same→eq, same_refl, at_every}
use Rattle.format.specs.Kinds.{Kind, SMMAN, SMID, KMCID, ECDSA, ECDH, REQ, RESP, KEY, Field, Text, Printable, Identity, OrEmpty, name, mark, fields_of, identity_fields, pubkey_fields, identity_kinds, pubkey_kinds, key_kinds, all_kinds, among, is_mark}
use Rattle.format.specs.Read.{kind_in}

-- ---- a kind is known by its name

-- where the name t stands in the table
abbrev index : List Kind → Bytes → ℕ
index [] t = 0
index (k ∷ ks) t = cond (same t (name k)) 0 (suc (index ks t))

at_index : (k : Kind) → get_or all_kinds (index all_kinds (name k)) SMMAN ≡ k
at_index SMMAN = refl
at_index SMID = refl
at_index KMCID = refl
at_index ECDSA = refl
at_index ECDH = refl
at_index REQ = refl
at_index RESP = refl
at_index KEY = refl

pub name_inj : (j k : Kind) → name j ≡ name k → j ≡ k
name_inj j k e = sym (at_index j) ∙ ap (λ (t : Bytes). get_or all_kinds (index all_kinds t) SMMAN) e ∙ at_index k

-- ---- what holds of every kind, and of those in a list

pub every_kind : (p : Kind → Bool) → T (all_of (map p all_kinds)) → (k : Kind) → T (p k)
every_kind p t k =
    subst (λ (j : Kind). T (p j)) (at_index k) (at_every p SMMAN (and_yes (p SMMAN) _ t).0 all_kinds t (index all_kinds (name k)))

abbrev pub All : {A : Type 0} → (A → Type 0) → List A → Type 0
All P [] = Unit {0}
All P (x ∷ xs) = P x × All P xs

pub all-of : (P : Kind → Type 0) → ((k : Kind) → P k) → (ks : List Kind) → All P ks
all-of P h [] = tt
all-of P h (k ∷ ks) = (h k, all-of P h ks)

pub all_among : (P : Kind → Type 0) (ks : List Kind) → All P ks → (k : Kind) → T (among k ks) → P k
all_among P [] h k t = absurd t
all_among P (j ∷ ks) h k t =
    ⊎_elim (λ e. subst P (sym (name_inj k j (same→eq (name k) (name j) e))) h.0) (all_among P ks h.1 k)
    (or_yes (same (name k) (name j)) (among k ks) t)

pub among_one : (k j : Kind) → T (among k (j ∷ [])) → k ≡ j
among_one k j = all_among (λ i. i ≡ j) (j ∷ []) (refl, tt) k

-- ---- the kind of a name and a mark

pub kind_in_some : (ks : List Kind) (t : Bytes) (m : ℕ) (k : Kind) → kind_in ks t m ≡ some k → T (among k ks) × (t ≡ name k) × (m ≡ mark k)
kind_in_some [] t m k e = absurd (none-ne-some k e)
kind_in_some (j ∷ ks) t m k e =
    by_test (same t (name j) && eqb m (mark j))
    (λ h.
    let e₂ : j ≡ k = some-injective j k (rw (T_true (same t (name j) && eqb m (mark j)) h) at e) in
    let h' = and_yes (same t (name j)) (eqb m (mark j)) h in
    let P : Kind → Type 0 = λ i. T (among i (j ∷ ks)) × (t ≡ name i) × (m ≡ mark i) in
    subst P e₂ (or_left (same (name j) (name j)) (among j ks) (same_refl (name j)), same→eq t (name j) h'.0, eqb→eq m (mark j) h'.1))
    (λ h.
    let i = kind_in_some ks t m k (rw (T_false (same t (name j) && eqb m (mark j)) h) at e) in
    (or_right (same (name k) (name j)) (among k ks) i.0, i.1, i.2))

pub kind_in_known : (ks : List Kind) (k : Kind) → T (among k ks) → kind_in ks (name k) (mark k) ≡ some k
kind_in_known [] k h = absurd h
kind_in_known (j ∷ ks) k h =
    by_test (same (name k) (name j))
    (λ t.
    let e : k ≡ j = name_inj k j (same→eq (name k) (name j) t) in
    rw (T_true (same (name k) (name j)) t, T_true (eqb (mark k) (mark j)) (yes_eqb (ap mark e))) (ap {B = Option Kind} some (sym e)))
    (λ t. let e = T_false (same (name k) (name j)) t in rw e (kind_in_known ks k (rw e at h)))

-- ---- no kind has more than seven fields

pub seven_fields : (k : Kind) → length (fields_of k) ≤ 7
seven_fields k = leb→le (length (fields_of k)) 7 (every_kind (λ j. leb (length (fields_of j)) 7) tt k)

-- ---- marks and names

pub mark_is_mark : (k : Kind) → T (is_mark (mark k))
mark_is_mark = every_kind (λ k. is_mark (mark k)) tt

pub mark_no_character : (k : Kind) → T (not (ident_character (mark k)))
mark_no_character = every_kind (λ k. not (ident_character (mark k))) tt

pub name_markless : (k : Kind) → T (every (λ c. not (is_mark c)) (name k))
name_markless = every_kind (λ k. every (λ c. not (is_mark c)) (name k)) tt

pub name_plain : (k : Kind) → T (every ident_character (name k))
name_plain = every_kind (λ k. every ident_character (name k)) tt

-- ---- fields

-- m stands in no identity: it is neither a character of a text nor the mark of an identity
abbrev pub alien : ℕ → Bool
alien m = not (ident_character m) && not (eqb (code ":") m)

-- m stands in no such field
abbrev pub absent : ℕ → Field → Bool
absent m (Text t) = not (ident_character m)
absent m Printable = not (printable m)
absent m (Identity ks) = alien m
absent m (OrEmpty t) = absent m t

pub mark_absent : (k : Kind) → T (all_of (map (absent (mark k)) (fields_of k)))
mark_absent = every_kind (λ k. all_of (map (absent (mark k)) (fields_of k))) tt

-- ---- lengths, which the checker computes from the table: n is the length of the longest identity

-- whether a field has a longest text of its own
abbrev pub bounded : Field → Bool
bounded (Text t) = true
bounded Printable = false
bounded (Identity ks) = true
bounded (OrEmpty t) = bounded t

abbrev longest_over : ℕ → Field → ℕ
longest_over n (Text t) = longest t
longest_over n Printable = 0
longest_over n (Identity ks) = n
longest_over n (OrEmpty t) = longest_over n t

-- the longest fields, with a mark after each
abbrev room_over : ℕ → List Field → ℕ
room_over n [] = 0
room_over n (t ∷ ts) = longest_over n t + 1 + room_over n ts

-- the longest record of the kinds ks whose fields are bounded: its name and its mark, its fields, its check
abbrev longest_in : ℕ → List Kind → ℕ
longest_in n [] = 0
longest_in n (k ∷ ks) =
    cond (all_of (map bounded (fields_of k))) (max (length (name k) + room_over n (fields_of k) + 5) (longest_in n ks)) (longest_in n ks)

-- an identity has no identity in it
abbrev pub longest_identity : ℕ
longest_identity = longest_in 0 identity_kinds

abbrev pub longest_bounded : ℕ
longest_bounded = longest_in longest_identity all_kinds

abbrev pub longest_of : Field → ℕ
longest_of t = longest_over longest_identity t

abbrev pub field_room : List Field → ℕ
field_room ts = room_over longest_identity ts

-- all fields of every kind but the wrapped key have a longest text
pub bounded_fields : (k : Kind) → T (not (among k key_kinds)) → T (all_of (map bounded (fields_of k)))
bounded_fields k other =
    ⊎_elim (λ key. absurd (T_not (among k key_kinds) other key)) (λ b. b)
    (or_yes (among k key_kinds) _ (every_kind (λ j. among j key_kinds || all_of (map bounded (fields_of j))) tt k))

pub record_room : (k : Kind) → T (not (among k key_kinds)) → length (name k) + field_room (fields_of k) + 5 ≤ longest_bounded
record_room k other =
    leb→le (length (name k) + field_room (fields_of k) + 5) longest_bounded
    (⊎_elim (λ key. absurd (T_not (among k key_kinds) other key)) (λ b. b)
    (or_yes (among k key_kinds) _ (every_kind (λ j. among j key_kinds || leb (length (name j) + field_room (fields_of j) + 5) longest_bounded) tt k)))

-- ---- the rows of identities and of public keys

pub identity_row : (k : Kind) → T (among k identity_kinds)
    → (mark k ≡ code ":") × (fields_of k ≡ identity_fields) × (length (name k) + field_room (fields_of k) + 5 ≤ longest_identity)
    × T (not (among k key_kinds))
identity_row = all_among _ identity_kinds ((refl, refl, lit≤ tt, tt), ((refl, refl, lit≤ tt, tt), ((refl, refl, lit≤ tt, tt), tt)))

pub pubkey_row : (k : Kind) → T (among k pubkey_kinds) → (ks : List Kind) × (fields_of k ≡ pubkey_fields ks)
pubkey_row = all_among _ pubkey_kinds ((SMMAN ∷ [], refl), ((SMID ∷ KMCID ∷ [], refl), tt))
