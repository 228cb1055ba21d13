-- Demand 2, the reading half: a byte string is accepted exactly when the build rules write it from a permitted list of fields, and
-- that list is the one handed back. Demand 1 for the reading calls: a refused field call hands back an empty part.
-- The statements are about the contracts of the calls (`Post`), whatever the lifetimes κs, the arguments a, the result and what the
-- parameters hold afterwards, s.
-- Assumes nothing.
use Rattle.std.specs.Prelude.{ℕ, ◌+◌, ◌≤◌, ◌<◌, ◌≡◌, ◌↔◌, ◌≢◌, cond, not, List, [], ◌∷◌, length, take, drop, get_or, replicate, T}
use Rattle.std.specs.Borrow.{Bor}
use Rattle.text.specs.Text.{Bytes, between, Ident}
use Rattle.text.specs.Part.{Part, NoPart}
use Rattle.numbers.specs.Numbers.{missing_item}
use Rattle.format.specs.Kinds.{Kind, KEY, Text, name, fields_of, identity_kinds, record_kinds, pubkey_kinds, key_kinds, among}
use Rattle.format.specs.Build.{record_of, empty, Permitted, Built}
use Rattle.format.specs.Read.{Outcome, accepted, refused, read_identity, read_record}
use Rattle.table.specs.Table.{row_of, missing_row}
use Rattle.reading.specs.Reading.{kind_within}
use Rattle.reading.specs.declared.Answer.{Answer}
use Rattle.fields.specs.Fields.{start_in}
use Rattle.fields.specs.declared.Place.{Place}
use Rattle.reading.proofs.read_identity.Reads as read-identity
use Rattle.reading.proofs.read_record.Reads as read-record
use Rattle.fields.proofs.identity_place.Reads as identity-place
use Rattle.fields.proofs.record_place.Reads as record-place
use Rattle.fields.proofs.identity_field.Reads as identity-field
use Rattle.fields.proofs.record_field.Reads as record-field

-- the call Q, which is lent `bytes`, answers 0 if and only if these are the record of permitted fields of one of the kinds ks
abbrev pub Exactly : {K : Type 0} {A S : K → Type 0} → ((κs : K) → A κs → Answer → S κs → Type 0) → ((κs : K) → A κs → Bytes) → List Kind → Type 0
Exactly {K} {A} {S} Q bytes ks =
    (κs : K) (a : A κs) (r : Answer) (s : S κs) → Q κs a r s → (r.no ≡ 0) ↔ ((k : Kind) × (fs : List Bytes) × Built ks (bytes κs a) k fs)

-- and then it answers that kind
abbrev pub SaysKind : {K : Type 0} {A S : K → Type 0} → ((κs : K) → A κs → Answer → S κs → Type 0) → ((κs : K) → A κs → Bytes) → List Kind → Type 0
SaysKind {K} {A} {S} Q bytes ks =
    (κs : K) (a : A κs) (r : Answer) (s : S κs) → Q κs a r s → (k : Kind) (fs : List Bytes) → Built ks (bytes κs a) k fs → r.kind ≡ row_of k

-- and the places of all fields: each starts where the build rules put it, there stands the field, and nothing past the last; the kind
-- of each identity is told
abbrev pub SaysPlaces : {K : Type 0} {A S : K → Type 0} → ((κs : K) → A κs → Answer → S κs → Type 0) → ((κs : K) → A κs → Bytes) → List Kind → Type 0
SaysPlaces {K} {A} {S} Q bytes ks =
    (κs : K) (a : A κs) (r : Answer) (s : S κs) → Q κs a r s → (k : Kind) (fs : List Bytes) → Built ks (bytes κs a) k fs
    → (j : ℕ)
    → (j < length fs → get_or r.starts j 0 ≡ start_in k fs (j + 1))
    × (length fs ≤ j → get_or r.starts j 0 ≡ 0)
    × (get_or r.starts j 0 + get_or r.lens j 0 ≤ length (bytes κs a))
    × (take (get_or r.lens j 0) (drop (get_or r.starts j 0) (bytes κs a)) ≡ get_or fs j [])
    × (get_or r.kinds j missing_row ≡ kind_within (get_or (fields_of k) j (Text Ident)) (get_or fs j []))

-- demand 1: with another number than 0 all of them are 0, and no kind is told
abbrev pub NoPlaces : {K : Type 0} {A S : K → Type 0} → ((κs : K) → A κs → Answer → S κs → Type 0) → Type 0
NoPlaces {K} {A} {S} Q =
    (κs : K) (a : A κs) (r : Answer) (s : S κs) → Q κs a r s → r.no ≢ 0
    → (r.kind ≡ missing_row) × (r.starts ≡ replicate 7 0) × (r.lens ≡ replicate 7 0) × (r.kinds ≡ replicate 7 missing_row)

-- the call Q, which is `lent` bytes, for the field number `wanted` hands back that field where it stands, with number 0; the number is 12
-- where the kind hasn't it
abbrev pub HandsBack : {K : Type 0} {A S : K → Type 0} → ((κs : K) → A κs → Bor Bytes → S κs → Type 0)
    → ((κs : K) → A κs → Bor Bytes) → ((κs : K) → A κs → ℕ) → ((κs : K) → S κs → ℕ) → List Kind → Type 0
HandsBack {K} {A} {S} Q lent wanted number ks =
    (κs : K) (a : A κs) (part : Bor Bytes) (s : S κs) → Q κs a part s → (k : Kind) (fs : List Bytes) → Built ks (lent κs a).now k fs
    → (T (between 1 (length fs) (wanted κs a)) → Part (lent κs a) (start_in k fs (wanted κs a)) (get_or ([] ∷ fs) (wanted κs a) []) part)
    × (number κs s ≡ cond (between 1 (length fs) (wanted κs a)) 0 missing_item)

-- the record's own refusal comes first, with its field's number; the field's number is 0 else
abbrev pub OwnFirst : {K : Type 0} {A R S : K → Type 0} → ((κs : K) → A κs → R κs → S κs → Type 0) → ((κs : K) → A κs → Outcome)
    → ((κs : K) → R κs → S κs → ℕ) → ((κs : K) → R κs → S κs → ℕ) → Type 0
OwnFirst {K} {A} {R} {S} Q outcome number field =
    (κs : K) (a : A κs) (r : R κs) (s : S κs) → Q κs a r s
    → ((n i : ℕ) → outcome κs a ≡ refused n i → (number κs r s ≡ n) × (field κs r s ≡ i))
    × ((k : Kind) (fs : List Bytes) → outcome κs a ≡ accepted k fs → field κs r s ≡ 0)

-- demand 1: with another number than 0 the part is the empty one at the front of what was lent
abbrev pub NothingRefused : {K : Type 0} {A S : K → Type 0} → ((κs : K) → A κs → Bor Bytes → S κs → Type 0)
    → ((κs : K) → A κs → Bor Bytes) → ((κs : K) → S κs → ℕ) → Type 0
NothingRefused {K} {A} {S} Q lent number =
    (κs : K) (a : A κs) (part : Bor Bytes) (s : S κs) → Q κs a part s → number κs s ≢ 0 → NoPart (lent κs a) part

-- the calls that answer with start and length, which C callers have: the same of the field's place
abbrev pub PointsTo : {K : Type 0} {A S : K → Type 0} → ((κs : K) → A κs → Place → S κs → Type 0)
    → ((κs : K) → A κs → Bytes) → ((κs : K) → A κs → ℕ) → List Kind → Type 0
PointsTo {K} {A} {S} Q bytes wanted ks =
    (κs : K) (a : A κs) (r : Place) (s : S κs) → Q κs a r s → (k : Kind) (fs : List Bytes) → Built ks (bytes κs a) k fs
    → (T (between 1 (length fs) (wanted κs a))
    → (r.start ≡ start_in k fs (wanted κs a))
    × (r.start + r.len ≤ length (bytes κs a))
    × (take r.len (drop r.start (bytes κs a)) ≡ get_or ([] ∷ fs) (wanted κs a) []))
    × (r.no ≡ cond (between 1 (length fs) (wanted κs a)) 0 missing_item)

abbrev pub NowhereRefused : {K : Type 0} {A S : K → Type 0} → ((κs : K) → A κs → Place → S κs → Type 0) → Type 0
NowhereRefused {K} {A} {S} Q = (κs : K) (a : A κs) (r : Place) (s : S κs) → Q κs a r s → r.no ≢ 0 → (r.start ≡ 0) × (r.len ≡ 0)

pub record Reading : Type 0 where
  pub identity_exactly : Exactly read-identity.Post (λ κs a. a.0.now) identity_kinds
  pub record_exactly : Exactly read-record.Post (λ κs a. a.0.now) record_kinds
  pub identity-kind : SaysKind read-identity.Post (λ κs a. a.0.now) identity_kinds
  pub record-kind : SaysKind read-record.Post (λ κs a. a.0.now) record_kinds
  pub identity_places : SaysPlaces read-identity.Post (λ κs a. a.0.now) identity_kinds
  pub record_places : SaysPlaces read-record.Post (λ κs a. a.0.now) record_kinds
  pub identity_no_places : NoPlaces read-identity.Post
  pub record_no_places : NoPlaces read-record.Post
  pub identity-fields : HandsBack identity-field.Post (λ κs a. a.0) (λ κs a. a.1.0) (λ κs s. s.1.1.0.now) identity_kinds
  pub record_fields : HandsBack record-field.Post (λ κs a. a.0) (λ κs a. a.1.0) (λ κs s. s.1.1.0.now) record_kinds
  pub identity_nothing : NothingRefused identity-field.Post (λ κs a. a.0) (λ κs s. s.1.1.0.now)
  pub record_nothing : NothingRefused record-field.Post (λ κs a. a.0) (λ κs s. s.1.1.0.now)
  pub identity_field_own : OwnFirst identity-field.Post (λ κs a. read_identity a.0.now) (λ κs r s. s.1.1.0.now) (λ κs r s. s.1.1.1.0.now)
  pub record_field_own : OwnFirst record-field.Post (λ κs a. read_record a.0.now) (λ κs r s. s.1.1.0.now) (λ κs r s. s.1.1.1.0.now)
  pub identity_place_own : OwnFirst identity-place.Post (λ κs a. read_identity a.0.now) (λ κs r s. r.no) (λ κs r s. r.field)
  pub record_place_own : OwnFirst record-place.Post (λ κs a. read_record a.0.now) (λ κs r s. r.no) (λ κs r s. r.field)
  pub identity_points : PointsTo identity-place.Post (λ κs a. a.0.now) (λ κs a. a.1.0) identity_kinds
  pub record_points : PointsTo record-place.Post (λ κs a. a.0.now) (λ κs a. a.1.0) record_kinds
  pub identity_nowhere : NowhereRefused identity-place.Post
  pub record_nowhere : NowhereRefused record-place.Post
  -- kind and fields are unique, over all eight kinds
  pub unique : (s : Bytes) (j k : Kind) (fs gs : List Bytes) → Permitted j fs → Permitted k gs → s ≡ record_of j fs → s ≡ record_of k gs
      → (j ≡ k) × (fs ≡ gs)
  -- no built record is longer than 1,024 bytes, and none but a wrapped key's longer than 646
  pub longest : (k : Kind) (fs : List Bytes) → Permitted k fs → length (record_of k fs) ≤ 1024
  pub longest_other : (k : Kind) (fs : List Bytes) → T (not (among k key_kinds)) → Permitted k fs → length (record_of k fs) ≤ 646
  -- an identity is kind name + Manufacturer + MID + 41
  pub identity_length : (k : Kind) (man mid gnt print : Bytes) → T (among k identity_kinds) → Permitted k (man ∷ mid ∷ gnt ∷ print ∷ [])
      → length (record_of k (man ∷ mid ∷ gnt ∷ print ∷ [])) ≡ length (name k) + length man + length mid + 41
  -- an unsigned PUBKEY is kind name + Subject + 220
  pub unsigned_length : (k : Kind) (subject q expiry : Bytes) → T (among k pubkey_kinds) → Permitted k (subject ∷ q ∷ expiry ∷ [] ∷ [] ∷ [])
      → length (record_of k (subject ∷ q ∷ expiry ∷ [] ∷ [] ∷ [])) ≡ length (name k) + length subject + 220
  -- a signed one adds Issuer + 192
  pub signed_length : (k : Kind) (subject q expiry issuer sig : Bytes) → T (among k pubkey_kinds)
      → Permitted k (subject ∷ q ∷ expiry ∷ issuer ∷ sig ∷ []) → T (not (empty sig))
      → length (record_of k (subject ∷ q ∷ expiry ∷ issuer ∷ sig ∷ [])) ≡ length (name k) + length subject + 220 + length issuer + 192
  -- a wrapped key is Attributes + ProtectedKey + 37
  pub key_length : (nonce attributes protected : Bytes) → Permitted KEY (nonce ∷ attributes ∷ protected ∷ [])
      → length (record_of KEY (nonce ∷ attributes ∷ protected ∷ [])) ≡ 37 + length attributes + length protected
