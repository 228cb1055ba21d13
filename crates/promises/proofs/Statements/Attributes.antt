-- Document 02, E1: the attributes of a wrapped key; STS 600-4-2, clause 7.5.1. A list that is permitted is what DFCONCAT writes from its cards, and from
-- no others; the attribute calls hand back those cards, each where it stands. That the list itself is field 2, untouched, `record_fields` says
-- (Reading.antt).
-- Assumes nothing.
use Rattle.std.specs.Prelude.{ℕ, ◌+◌, ◌-◌, ◌≤◌, ◌<◌, ◌≡◌, ◌↔◌, ◌≢◌, false, cond, List, [], ◌∷◌, length, take, drop, get_or, T}
use Prim.Native.Char.{code}
use Rattle.std.specs.Borrow.{Bor}
use Rattle.text.specs.Text.{Bytes, between, every, printable}
use Rattle.text.specs.Part.{Part}
use Rattle.numbers.specs.Numbers.{missing_item}
use Rattle.format.specs.Parts.{joined}
use Rattle.format.specs.Kinds.{KEY, key_kinds}
use Rattle.format.specs.Attributes.{name_of, has_name, cards_in, are_attributes, Listed}
use Rattle.format.specs.Build.{Built}
use Rattle.format.specs.Read.{read_of}
use Rattle.fields.specs.Fields.{start_in}
use Rattle.fields.specs.declared.Place.{Place}
use Rattle.fields.proofs.attribute_place.Reads as attribute-place
use Rattle.fields.proofs.attribute_named_place.Reads as attribute-named-place
use Rattle.fields.proofs.attribute.Reads as attribute
use Rattle.fields.proofs.attribute_named.Reads as attribute-named
use Rattle.promises.proofs.Statements.Reading.{OwnFirst, NothingRefused, NowhereRefused}

-- s is the wrapped key of the fields fs, and its list is written from the cards cs
pub record Wrapped (s : Bytes) (fs cs : List Bytes) : Type 0 where
  pub its_fields : Built key_kinds s KEY fs
  pub its_cards : Listed (get_or fs 1 []) cs

-- where card i, from 1, stands: behind what comes before the list, and the cards before it, each with its ';'
abbrev pub card_start : List Bytes → List Bytes → ℕ → ℕ
card_start fs cs i = start_in KEY fs 2 + length (joined (code ";") (take (i - 1) cs))

-- card i as a part, and as start and length
abbrev pub IsCard : List Bytes → List Bytes → ℕ → Bor Bytes → Bor Bytes → Type 0
IsCard fs cs i lent part = Part lent (card_start fs cs i) (get_or ([] ∷ cs) i []) part

abbrev pub CardAt : List Bytes → List Bytes → ℕ → Bytes → Place → Type 0
CardAt fs cs i s r = (r.start ≡ card_start fs cs i) × (r.start + r.len ≤ length s) × (take r.len (drop r.start s) ≡ get_or ([] ∷ cs) i [])

-- the call Q is lent a wrapped key; it hands back the card of the number that is wanted, with number 0, and 12 where there is none; `Card fs cs i` says
-- what it is to hand back card i
abbrev pub ByNumber : {K : Type 0} {A R S : K → Type 0} → ((κs : K) → A κs → R κs → S κs → Type 0) → ((κs : K) → A κs → Bytes) → ((κs : K) → A κs → ℕ)
    → ((κs : K) → R κs → S κs → ℕ) → ((κs : K) → A κs → R κs → List Bytes → List Bytes → ℕ → Type 0) → Type 0
ByNumber {K} {A} {R} {S} Q bytes wanted number Card =
    (κs : K) (a : A κs) (r : R κs) (s : S κs) → Q κs a r s → (fs cs : List Bytes) → Wrapped (bytes κs a) fs cs
    → (T (between 1 (length cs) (wanted κs a)) → Card κs a r fs cs (wanted κs a))
    × (number κs r s ≡ cond (between 1 (length cs) (wanted κs a)) 0 missing_item)

-- the same by name: the card that has it, with number 0, and 12 where none has it
abbrev pub ByName : {K : Type 0} {A R S : K → Type 0} → ((κs : K) → A κs → R κs → S κs → Type 0) → ((κs : K) → A κs → Bytes) → ((κs : K) → A κs → Bytes)
    → ((κs : K) → R κs → S κs → ℕ) → ((κs : K) → A κs → R κs → List Bytes → List Bytes → ℕ → Type 0) → Type 0
ByName {K} {A} {R} {S} Q bytes name number Card =
    (κs : K) (a : A κs) (r : R κs) (s : S κs) → Q κs a r s → (fs cs : List Bytes) → Wrapped (bytes κs a) fs cs
    → ((i : ℕ) → T (between 1 (length cs) i) → name_of (get_or ([] ∷ cs) i []) ≡ name κs a → Card κs a r fs cs i × (number κs r s ≡ 0))
    × (has_name cs (name κs a) ≡ false → number κs r s ≡ missing_item)

pub record Attributes : Type 0 where
  -- a list is permitted, with these cards, exactly where DFCONCAT writes it from them; they are unique, and no two have one name
  pub listed : (s : Bytes) (cs : List Bytes) → (T (are_attributes s) × (cards_in s ≡ cs)) ↔ Listed s cs
  pub one_list : (s : Bytes) (cs ds : List Bytes) → Listed s cs → Listed s ds → cs ≡ ds
  pub names_once : (s : Bytes) (cs : List Bytes) → Listed s cs → (i j : ℕ) → i < j → j < length cs → name_of (get_or cs i []) ≢ name_of (get_or cs j [])
  -- every wrapped key that is accepted has such cards, of printable characters
  pub wrapped : (s : Bytes) (fs : List Bytes) → Built key_kinds s KEY fs → Wrapped s fs (cards_in (get_or fs 1 [])) × T (every printable (get_or fs 1 []))
  -- one attribute by its number
  pub by_number : ByNumber attribute.Post (λ κs a. a.0.now) (λ κs a. a.1.0) (λ κs r s. s.1.1.0.now) (λ κs a r fs cs i. IsCard fs cs i a.0 r)
  pub place_by_number : ByNumber attribute-place.Post (λ κs a. a.0.now) (λ κs a. a.1.0) (λ κs r s. r.no) (λ κs a r fs cs i. CardAt fs cs i a.0.now r)
  -- and by its name
  pub by_name : ByName attribute-named.Post (λ κs a. a.0.now) (λ κs a. a.1.0.now) (λ κs r s. s.1.1.0.now) (λ κs a r fs cs i. IsCard fs cs i a.0 r)
  pub place_by_name : ByName attribute-named-place.Post (λ κs a. a.0.now) (λ κs a. a.1.0.now) (λ κs r s. r.no) (λ κs a r fs cs i. CardAt fs cs i a.0.now r)
  -- the record's own refusal comes first, and a record of another kind has one
  pub own : OwnFirst attribute.Post (λ κs a. read_of key_kinds a.0.now) (λ κs r s. s.1.1.0.now) (λ κs r s. s.1.1.1.0.now)
  pub place_own : OwnFirst attribute-place.Post (λ κs a. read_of key_kinds a.0.now) (λ κs r s. r.no) (λ κs r s. r.field)
  pub named_own : OwnFirst attribute-named.Post (λ κs a. read_of key_kinds a.0.now) (λ κs r s. s.1.1.0.now) (λ κs r s. s.1.1.1.0.now)
  pub named_place_own : OwnFirst attribute-named-place.Post (λ κs a. read_of key_kinds a.0.now) (λ κs r s. r.no) (λ κs r s. r.field)
  -- demand 1: with a refusal nothing is handed back
  pub nothing : NothingRefused attribute.Post (λ κs a. a.0) (λ κs s. s.1.1.0.now)
  pub nowhere : NowhereRefused attribute-place.Post
  pub named_nothing : NothingRefused attribute-named.Post (λ κs a. a.0) (λ κs s. s.1.1.0.now)
  pub named_nowhere : NowhereRefused attribute-named-place.Post
