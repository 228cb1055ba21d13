-- Confirmation tags: document 02, E5; STS 600-4-2, clause 6.4, and the steps of sections 11 and 12 that derive the keys and compare the tags.
-- The request's own refusal comes first (any kind but VKLOAD.REQ.1 answers 2, in its normal place), then the response's; 16, 17, 10, 18.
-- Assumes nothing.
use Rattle.std.specs.Prelude.{ℕ, ◌≡◌, Bool, cond, ◌&&◌, List, [], ◌∷◌, ◌++◌, length, take, drop, get_or, leb, eqb}
use Rattle.text.specs.Text.{Bytes, same}
use Rattle.text.specs.Base16.{base16}
use Rattle.sha384.specs.Sha384.{sha384}
use Rattle.hmac.specs.Hmac.{hmac}
use Rattle.numbers.specs.Numbers.{short_output, wrong_z, other_request, wrong_tag}
use Rattle.format.specs.Kinds.{REQ, RESP}
use Rattle.format.specs.Requests.{id_sm, id_kmc, tvp}
use Rattle.format.specs.Read.{Outcome, accepted, refused, read_of}
use Rattle.items.specs.Items.{lv_concat}
use Rattle.agreement.specs.Texts.{shared_items, module_items, centre_items}
use Rattle.put.specs.Made.{Made, made, denied, leaves}
use Rattle.confirm.specs.declared.Confirmed.{Confirmed}

-- ---- the keys

-- KDF-X963-SHA-384 for 384 bits (clause 6.4): SHA-384(Z ∥ counter ∥ SharedInfo), where the counter is x'00000001
unfoldable pub kdf : Bytes → Bytes → Bytes
kdf z shared_info = sha384 (z ++ (0x00 ∷ 0x00 ∷ 0x00 ∷ 0x01 ∷ []) ++ shared_info)

-- of the fields of a request: DKM
abbrev pub derived : Bytes → List Bytes → Bytes
derived z fs = kdf z (lv_concat (shared_items fs))

-- MacKey ∥ KEK = DKM, 192 bits each
abbrev pub mac_key : Bytes → List Bytes → Bytes
mac_key z fs = take 24 (derived z fs)

abbrev pub kek : Bytes → List Bytes → Bytes
kek z fs = drop 24 (derived z fs)

-- ---- the tags, as a record has them: BASE16 of the HMAC

abbrev pub module_tag : Bytes → List Bytes → Bytes
module_tag z fs = base16 (hmac (mac_key z fs) (lv_concat (module_items fs)))

abbrev pub centre_tag : Bytes → List Bytes → Bytes
centre_tag z fs = base16 (hmac (mac_key z fs) (lv_concat (centre_items fs)))

-- MacTag of a request, and of a response
abbrev pub request_tag : List Bytes → Bytes
request_tag fs = get_or fs 6 []

abbrev pub response_tag : List Bytes → Bytes
response_tag gs = get_or gs 3 []

-- a response's ID_KMC, ID_SM and TVP are the request's, byte for byte
abbrev pub answers : List Bytes → List Bytes → Bool
answers fs gs = same (id_kmc fs) (get_or gs 0 []) && same (id_sm fs) (get_or gs 1 []) && same (tvp fs) (get_or gs 2 [])

-- ---- the call for a request

-- the two keys; or the number of the refusal, of the field, and which record is refused (1 the request, 2 the response, 0 neither)
pub data Confirmation : Type 0 where
  keys : Bytes → Bytes → Confirmation
  denies : ℕ → ℕ → ℕ → Confirmation

-- by what the record call says to the request; `room` and `room'` are the lengths of the outputs for MacKey and for KEK
abbrev pub request_by : Bytes → ℕ → ℕ → Outcome → Confirmation
request_by z room room' (accepted k fs) =
    cond (eqb (length z) 96)
    (cond (leb 24 room && leb 24 room')
    (cond (same (request_tag fs) (module_tag z fs)) (keys (mac_key z fs) (kek z fs)) (denies wrong_tag 0 0))
    (denies short_output 0 0))
    (denies wrong_z 0 0)
request_by z room room' (refused n i) = denies n i 1

unfoldable pub confirm_request : Bytes → Bytes → ℕ → ℕ → Confirmation
confirm_request z request room room' = request_by z room room' (read_of (REQ ∷ []) request)

abbrev pub says_of : Confirmation → Confirmed
says_of (keys m k) = record { no = 0; field = 0; which = 0 }
says_of (denies n i w) = record { no = n; field = i; which = w }

-- each key is written at the front of its output, or nothing is
abbrev pub mac_key_of : Confirmation → Made
mac_key_of (keys m k) = made m
mac_key_of (denies n i w) = denied n i

abbrev pub kek_of : Confirmation → Made
kek_of (keys m k) = made k
kek_of (denies n i w) = denied n i

-- a call that was lent m and k, left them as m' and k', and answered r
pub record Confirms (c : Confirmation) (m k m' k' : Bytes) (r : Confirmed) : Type 0 where
  pub said : r ≡ says_of c
  pub mac_key_left : m' ≡ leaves (mac_key_of c) m
  pub kek_left : k' ≡ leaves (kek_of c) k

-- ---- the call for a response

-- by the fields of the request and of the response
abbrev pub response_no : Bytes → List Bytes → List Bytes → ℕ
response_no z fs gs =
    cond (eqb (length z) 96)
    (cond (answers fs gs)
    (cond (same (response_tag gs) (centre_tag z fs)) 0 wrong_tag)
    other_request)
    wrong_z

-- by what the record call says to the request and to the response
abbrev pub response_by : Bytes → Outcome → Outcome → Confirmed
response_by z (accepted j fs) (accepted k gs) = record { no = response_no z fs gs; field = 0; which = 0 }
response_by z (accepted j fs) (refused n i) = record { no = n; field = i; which = 2 }
response_by z (refused n i) o = record { no = n; field = i; which = 1 }

unfoldable pub confirm_response : Bytes → Bytes → Bytes → Confirmed
confirm_response z request response = response_by z (read_of (REQ ∷ []) request) (read_of (RESP ∷ []) response)
