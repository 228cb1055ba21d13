-- Confirmation tags: document 02, E5; STS 600-4-2, clauses 6.3 and 6.4. 18 exactly when a tag is not the HMAC of its text under the derived
-- key; keys are written exactly with 0; and beyond its length Z shows in a number alone that is 0 or 18.
-- Assumes nothing.
use Rattle.std.specs.Prelude.{ℕ, ◌≤◌, ◌<◌, ◌≡◌, ◌⊎◌, ◌↔◌, ◌≢◌, List, [], ◌∷◌, ◌++◌, length, take, drop, get_or, set}
use Rattle.crc16.specs.Damage.{AreBytes}
use Rattle.text.specs.Text.{Bytes}
use Rattle.sha384.specs.Sha384.{sha384}
use Rattle.sha384.specs.State.{added_all, together}
use Rattle.format.specs.Kinds.{REQ, RESP}
use Rattle.format.specs.Requests.{id_sm, id_kmc, tvp}
use Rattle.format.specs.Build.{Permitted, Built, record_of}
use Rattle.format.specs.Read.{refused, read_of}
use Rattle.items.specs.Items.{lv_concat}
use Rattle.agreement.specs.Texts.{shared_items}
use Rattle.hmac.specs.Hmac.{hmac}
use Rattle.hmac.specs.State.{hmac_begun, hmac_ended}
use Rattle.hmac.proofs.hmac_of.Reads as hmac-of
use Rattle.confirm.specs.Confirm.{mac_key, kek, module_tag, centre_tag, request_tag, response_tag, says_of, confirm_request, confirm_response}
use Rattle.confirm.specs.declared.Confirmed.{Confirmed}
use Rattle.confirm.proofs.confirm_request.Reads as request
use Rattle.confirm.proofs.confirm_response.Reads as response
use Rattle.promises.specs.Calls.{Answers, Holds}

-- an answer that is about no record's own fault
abbrev pub plain : ℕ → Confirmed
plain n = record { no = n; field = 0; which = 0 }

-- ---- a request

-- what it takes to look at the tag: an accepted request of these fields, a Z of 96 bytes, room for both keys
pub record Asked (z request mac key : Bytes) (fs : List Bytes) : Type 0 where
  pub built : Built (REQ ∷ []) request REQ fs
  pub z_long : length z ≡ 96
  pub mac_room : 24 ≤ length mac
  pub key_room : 24 ≤ length key

-- the call was lent the outputs mac and key, left them as mac' and key' and answered r
pub record RequestSaid (z request mac key mac' key' : Bytes) (r : Confirmed) : Type 0 where
  -- the request's own refusal first, any kind but VKLOAD.REQ.1 answering 2; then 16, then 10
  pub own : (n i : ℕ) → read_of (REQ ∷ []) request ≡ refused n i → r ≡ record { no = n; field = i; which = 1 }
  pub wrong-z : (fs : List Bytes) → Built (REQ ∷ []) request REQ fs → length z ≢ 96 → r ≡ plain 16
  pub short : (fs : List Bytes) → Built (REQ ∷ []) request REQ fs → length z ≡ 96 → (length mac < 24) ⊎ (length key < 24) → r ≡ plain 10
  -- 0 exactly where the MacTag is that of the module text under the MacKey, and 18 exactly where it is another
  pub agrees : (r.no ≡ 0) ↔ ((fs : List Bytes) × Asked z request mac key fs × (request_tag fs ≡ module_tag z fs))
  pub differs : (r.no ≡ 18) ↔ ((fs : List Bytes) × Asked z request mac key fs × (request_tag fs ≢ module_tag z fs))
  -- with 0 the keys stand at the front, and every byte past them stays
  pub written : (fs : List Bytes) → Built (REQ ∷ []) request REQ fs → r.no ≡ 0 → (mac' ≡ mac_key z fs ++ drop 24 mac) × (key' ≡ kek z fs ++ drop 24 key)
  -- demand 1: with any other number neither is touched
  pub untouched : r.no ≢ 0 → (mac' ≡ mac) × (key' ≡ key)

-- ---- a response, with the request that it answers

-- what it takes to look at the tag: both are accepted, a Z of 96 bytes, and the same identities and TVP, byte for byte
pub record Answered (z request response : Bytes) (fs gs : List Bytes) : Type 0 where
  pub asked : Built (REQ ∷ []) request REQ fs
  pub built : Built (RESP ∷ []) response RESP gs
  pub z_long : length z ≡ 96
  pub same_kmc : id_kmc fs ≡ get_or gs 0 []
  pub same_sm : id_sm fs ≡ get_or gs 1 []
  pub same_tvp : tvp fs ≡ get_or gs 2 []

pub record ResponseSaid (z request response : Bytes) (r : Confirmed) : Type 0 where
  -- the request's own refusal first, then the response's, then 16, then 17
  pub own_request : (n i : ℕ) → read_of (REQ ∷ []) request ≡ refused n i → r ≡ record { no = n; field = i; which = 1 }
  pub own_response : (fs : List Bytes) (n i : ℕ) → Built (REQ ∷ []) request REQ fs → read_of (RESP ∷ []) response ≡ refused n i → r ≡ record { no = n; field = i; which = 2 }
  pub wrong-z : (fs gs : List Bytes) → Built (REQ ∷ []) request REQ fs → Built (RESP ∷ []) response RESP gs → length z ≢ 96 → r ≡ plain 16
  pub other : (fs gs : List Bytes) → Built (REQ ∷ []) request REQ fs → Built (RESP ∷ []) response RESP gs → length z ≡ 96
      → (id_kmc fs ≢ get_or gs 0 []) ⊎ (id_sm fs ≢ get_or gs 1 []) ⊎ (tvp fs ≢ get_or gs 2 []) → r ≡ plain 17
  -- 0 exactly where the MacTag is that of the centre text under the MacKey, and 18 exactly where it is another
  pub agrees : (r.no ≡ 0) ↔ ((fs gs : List Bytes) × Answered z request response fs gs × (response_tag gs ≡ centre_tag z fs))
  pub differs : (r.no ≡ 18) ↔ ((fs gs : List Bytes) × Answered z request response fs gs × (response_tag gs ≢ centre_tag z fs))

-- ---- what shows of Z: the same answer, or each is 0 or 18
abbrev pub OrTag : Confirmed → Type 0
OrTag r = (r ≡ plain 0) ⊎ (r ≡ plain 18)

abbrev pub SameButTag : Confirmed → Confirmed → Type 0
SameButTag r r' = (r ≡ r') ⊎ (OrTag r × OrTag r')

pub record Confirmations : Type 0 where
  -- HMAC: the call, and a text given in slices
  pub hmac-of : Answers hmac-of.Post (λ κs a. hmac a.0.now a.1.0.now)
  pub in_slices : (k : Bytes) (ms : List Bytes) → hmac_ended k (added_all (hmac_begun k) ms) ≡ hmac k (together ms)
  pub size : (k text : Bytes) → length (hmac k text) ≡ 24
  pub are_bytes : (k text : Bytes) → AreBytes (hmac k text)
  -- the keys: SHA-384(Z ∥ 00000001 ∥ SharedInfo), in two halves
  pub keys : (z : Bytes) (fs : List Bytes) → mac_key z fs ++ kek z fs ≡ sha384 (z ++ (0 ∷ 0 ∷ 0 ∷ 1 ∷ []) ++ lv_concat (shared_items fs))
  pub key_sizes : (z : Bytes) (fs : List Bytes) → (length (mac_key z fs) ≡ 24) × (length (kek z fs) ≡ 24)
  -- the calls
  pub requests : Holds request.Post
      (λ κs a r s. RequestSaid a.0.now a.1.0.now a.1.1.0.now a.1.1.1.0.now s.1.1.0.now s.1.1.1.0.now r)
  pub responses : Holds response.Post (λ κs a r s. ResponseSaid a.0.now a.1.0.now a.1.1.0.now r)
  -- two Zs of the same length
  pub request_z : (z z' request : Bytes) (m k : ℕ) → length z ≡ length z' → SameButTag (says_of (confirm_request z request m k)) (says_of (confirm_request z' request m k))
  pub response_z : (z z' request response : Bytes) → length z ≡ length z' → SameButTag (confirm_response z request response) (confirm_response z' request response)
  -- of the request the second call looks at the first six fields, and not at the tag
  pub other_tag : (z request request' response : Bytes) (fs fs' : List Bytes) → Built (REQ ∷ []) request REQ fs → Built (REQ ∷ []) request' REQ fs' → take 6 fs ≡ take 6 fs'
      → confirm_response z request response ≡ confirm_response z request' response
  -- whatever the fields and Z, the request that has the right tag is built and confirmed
  pub confirmed : (z : Bytes) (fs : List Bytes) (m k : ℕ) → Permitted REQ fs → length z ≡ 96 → 24 ≤ m → 24 ≤ k
      → says_of (confirm_request z (record_of REQ (set fs 6 (module_tag z fs))) m k) ≡ plain 0
  -- and so is its response
  pub answered : (z : Bytes) (fs : List Bytes) → Permitted REQ fs → length z ≡ 96
      → confirm_response z (record_of REQ fs) (record_of RESP (id_kmc fs ∷ id_sm fs ∷ tvp fs ∷ centre_tag z fs ∷ [])) ≡ plain 0
