-- What the two calls say, by what was answered and compared.
-- Assumes nothing.
use Prim.Native.Nat.{ℕ, ◌≤◌, ◌<◌}
use mathlib.Core.Path.{◌≡◌, refl, sym, ap, ap₂, ◌∙◌}
use mathlib.Core.Bool.{Bool, true, false, cond}
use mathlib.Core.List.{List, [], ◌∷◌}
use native.Mathlib.Omega.{arith}
use lib.ListN.{length, take, drop, length-drop}
use lib.Seq.{length-take-le, take_all}
use lib.Dec.{T}
use borrow.Author.Tests.{eq-eqb, ne_eqb, le-leb, lt-leb}
use Rattle.text.specs.Text.{Bytes, same, is_hex}
use Rattle.text.specs.Base16.{base16, base16_decode}
use Rattle.numbers.specs.Numbers.{short_output, wrong_z, other_request, wrong_tag}
use Rattle.format.specs.Kinds.{REQ, RESP}
use Rattle.format.specs.Read.{read_of, fields_in}
use Rattle.places.specs.Places.{field_at}
use Rattle.items.specs.Items.{lv_concat}
use Rattle.sha384.proofs.Digest.{digest_size}
use Rattle.hmac.specs.Hmac.{hmac}
use Rattle.hmac.proofs.Tags.{tag_bytes}
use Rattle.put.specs.Put.{Puts}
use Rattle.put.proofs.Pieces.{put_of, put_whole}
use Rattle.reading.specs.Reading.{answer_of}
use Rattle.reading.specs.declared.Answer.{Answer}
use Rattle.reading.proofs.Answers.{untaken}
use Rattle.agreement.specs.Texts.{module_items, centre_items}
use Rattle.agreement.proofs.Request.{one_read, one_permitted, one_field}
use Rattle.confirm.specs.declared.Confirmed.{Confirmed}
use Rattle.confirm.specs.Confirm.{kdf, derived, mac_key, module_tag, centre_tag, request_tag, response_tag, answers, Confirmation, keys, denies, says_of, Confirms, confirm_request, confirm_response}
use Rattle.confirm.specs.Steps.{answers_at}
use Rattle.confirm.proofs.Compared.{same_said}
use Rattle.confirm.proofs.Records.{request-tag, response-tag, answers_so}

-- ---- a MacTag compared with a tag

-- the MacTag f and the tag t as the code has them, and what `is_tag` said
tag_said : {f t : Bytes} {s : Bool} (g k text : Bytes) → T (is_hex 48 g) → f ≡ g → t ≡ hmac k text → s ≡ same (base16_decode f) t → s ≡ same g (base16 (hmac k text))
tag_said g k text h e d c = c ∙ ap₂ (λ (x y : Bytes). same (base16_decode x) y) e d ∙ same_said g (hmac k text) h (tag_bytes k text)

-- a MacTag is of its type, as the code finds it
pub mac_tag : (request : Bytes) (a : Answer) {f : Bytes} → a ≡ answer_of (read_of (REQ ∷ []) request) → a.no ≡ 0 → f ≡ field_at request a.starts a.lens 7 → T (is_hex 48 f)
mac_tag request a e n p = rw (p ∙ one_field REQ request a e n 7) (request-tag (fields_in REQ request) (one_permitted REQ request a e n))

pub its_mac_tag : (response : Bytes) (a : Answer) {f : Bytes} → a ≡ answer_of (read_of (RESP ∷ []) response) → a.no ≡ 0 → f ≡ field_at response a.starts a.lens 4 → T (is_hex 48 f)
its_mac_tag response a e n p = rw (p ∙ one_field RESP response a e n 4) (response-tag (fields_in RESP response) (one_permitted RESP response a e n))

-- ---- the two ways of a call that is lent m and k

denied_so : {m k : Bytes} {n i w : ℕ} (r : Confirmed) → r ≡ says_of (denies n i w) → Confirms (denies n i w) m k m k r
denied_so r e = record { said = e; mac_key_left = refl; kek_left = refl }

keys_so : {a b m k m' k' : Bytes} {i j : ℕ} (r : Confirmed) → length a ≡ 24 → length b ≡ 24 → 24 ≤ length m → 24 ≤ length k → Puts m 0 a m' i → Puts k 0 b k' j
    → r ≡ says_of (keys a b) → Confirms (keys a b) m k m' k' r
keys_so r la lb lm lk p q e =
    record { said = e; mac_key_left = (put_whole (put_of (omega (arith, la)) p)).left; kek_left = (put_whole (put_of (omega (arith, lb)) q)).left }

-- ---- of a request

module _ (z request m k : Bytes) (a : Answer) (e : a ≡ answer_of (read_of (REQ ∷ []) request)) where
  abbrev found : Confirmation
  found = confirm_request z request (length m) (length k)

  pub request_refused : (r : Confirmed) → (a.no ≡ 0 → ⊥) → r ≡ says_of (denies a.no a.field 1) → Confirms found m k m k r
  unfolding confirm_request
  request_refused r n f = rw (untaken (read_of (REQ ∷ []) request) a e n) (denied_so r f)

  module _ (n : a.no ≡ 0) where
    abbrev fs : List Bytes
    fs = fields_in REQ request

    pub z_wrong : (r : Confirmed) → (length z ≡ 96 → ⊥) → r ≡ says_of (denies wrong_z 0 0) → Confirms found m k m k r
    unfolding confirm_request
    z_wrong r h f = rw (one_read REQ request a e n, ne_eqb (length z) 96 h) (denied_so r f)

    module _ (l : length z ≡ 96) where
      pub mac_key_short : (r : Confirmed) → length m < 24 → r ≡ says_of (denies short_output 0 0) → Confirms found m k m k r
      unfolding confirm_request
      mac_key_short r h f = rw (one_read REQ request a e n, eq-eqb (length z) 96 l, lt-leb 24 (length m) h) (denied_so r f)

      pub kek_short : (r : Confirmed) → 24 ≤ length m → length k < 24 → r ≡ says_of (denies short_output 0 0) → Confirms found m k m k r
      unfolding confirm_request
      kek_short r g h f =
          rw (one_read REQ request a e n, eq-eqb (length z) 96 l, le-leb 24 (length m) g, lt-leb 24 (length k) h) (denied_so r f)

      -- the keys d, the tag t and the MacTag f as the code has them, and what `is_tag` said
      module _ (hm : 24 ≤ length m) (hk : 24 ≤ length k) {d t f : Bytes} {s : Bool} (kd : d ≡ derived z fs)
          (kt : t ≡ hmac (take 24 d) (lv_concat (module_items fs))) (kf : f ≡ field_at request a.starts a.lens 7) (ks : s ≡ same (base16_decode f) t) where
        tag_so : same (request_tag fs) (module_tag z fs) ≡ s
        tag_so =
            let key = mac_key z fs in
            let text = lv_concat (module_items fs) in
            sym (tag_said (request_tag fs) key text (request-tag fs (one_permitted REQ request a e n)) (kf ∙ one_field REQ request a e n 7) (kt ∙ ap (λ (x : Bytes). hmac (take 24 x) text) kd) ks)

        pub request_tag_wrong : (r : Confirmed) → s ≡ false → r ≡ says_of (denies wrong_tag 0 0) → Confirms found m k m k r
        unfolding confirm_request
        request_tag_wrong r h g =
            rw (one_read REQ request a e n, eq-eqb (length z) 96 l, le-leb 24 (length m) hm, le-leb 24 (length k) hk, tag_so ∙ h) (denied_so r g)

        pub keys_written : {m' k' : Bytes} {i j : ℕ} (r : Confirmed) → s ≡ true → Puts m 0 (take 24 d) m' i → Puts k 0 (take 24 (drop 24 d)) k' j
            → r ≡ says_of (denies 0 0 0) → Confirms found m k m' k' r
        unfolding confirm_request kdf
        keys_written r h p q g =
            let ld : length d ≡ 48 = ap length kd ∙ digest_size _ in
            let rest : length (drop 24 d) ≡ 24 = length-drop 24 d ∙ omega (arith, ld) in
            let all : take 24 (drop 24 d) ≡ drop 24 d = take_all 24 (drop 24 d) (omega (arith, rest)) in
            rw (one_read REQ request a e n, eq-eqb (length z) 96 l, le-leb 24 (length m) hm, le-leb 24 (length k) hk, tag_so ∙ h, ← kd)
            (keys_so r (length-take-le 24 d (omega (arith, ld))) rest hm hk p (rw all at q) g)

-- ---- of a response, with the request that it answers

module _ (z request response : Bytes) (a : Answer) (e : a ≡ answer_of (read_of (REQ ∷ []) request)) where
  pub first_refused : (r : Confirmed) → (a.no ≡ 0 → ⊥) → r ≡ record { no = a.no; field = a.field; which = 1 } → r ≡ confirm_response z request response
  unfolding confirm_response
  first_refused r n g = g ∙ rw (untaken (read_of (REQ ∷ []) request) a e n)

  module _ (n : a.no ≡ 0) (b : Answer) (f : b ≡ answer_of (read_of (RESP ∷ []) response)) where
    pub second_refused : (r : Confirmed) → (b.no ≡ 0 → ⊥) → r ≡ record { no = b.no; field = b.field; which = 2 } → r ≡ confirm_response z request response
    unfolding confirm_response
    second_refused r o g = g ∙ rw (one_read REQ request a e n, untaken (read_of (RESP ∷ []) response) b f o)

    module _ (o : b.no ≡ 0) where
      abbrev asked : List Bytes
      asked = fields_in REQ request

      abbrev answered : List Bytes
      answered = fields_in RESP response

      pub response_z_wrong : (r : Confirmed) → (length z ≡ 96 → ⊥) → r ≡ record { no = wrong_z; field = 0; which = 0 } → r ≡ confirm_response z request response
      unfolding confirm_response
      response_z_wrong r h g = g ∙ rw (one_read REQ request a e n, one_read RESP response b f o, ne_eqb (length z) 96 h)

      module _ (l : length z ≡ 96) {s : Bool} (q : s ≡ answers_at (field_at request a.starts a.lens) (field_at response b.starts b.lens)) where
        answers_said : answers asked answered ≡ s
        answers_said = sym (q ∙ answers_so (field_at request a.starts a.lens) (field_at response b.starts b.lens) asked answered (one_field REQ request a e n) (one_field RESP response b f o))

        pub other-request : (r : Confirmed) → s ≡ false → r ≡ record { no = other_request; field = 0; which = 0 } → r ≡ confirm_response z request response
        unfolding confirm_response
        other-request r h g = g ∙ rw (one_read REQ request a e n, one_read RESP response b f o, eq-eqb (length z) 96 l, answers_said ∙ h)

        pub response_said : {d t x : Bytes} {v : Bool} (r : Confirmed) (w : Bool) → s ≡ true → d ≡ derived z asked → t ≡ hmac (take 24 d) (lv_concat (centre_items asked))
            → x ≡ field_at response b.starts b.lens 4 → v ≡ same (base16_decode x) t → v ≡ w
            → r ≡ record { no = cond w 0 wrong_tag; field = 0; which = 0 } → r ≡ confirm_response z request response
        unfolding confirm_response
        response_said r w h kd kt kx kv kw g =
            let text = lv_concat (centre_items asked) in
            let tag : same (response_tag answered) (centre_tag z asked) ≡ w =
            sym (tag_said (response_tag answered) (mac_key z asked) text (response-tag answered (one_permitted RESP response b f o)) (kx ∙ one_field RESP response b f o 4) (kt ∙ ap (λ (y : Bytes). hmac (take 24 y) text) kd) kv) ∙ kw in
            g ∙ rw (one_read REQ request a e n, one_read RESP response b f o, eq-eqb (length z) 96 l, answers_said ∙ h, tag)
