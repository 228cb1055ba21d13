-- Which numbers each call can give, from the laws of format.
-- Assumes nothing.
use Prim.Native.Nat.{ℕ}
use mathlib.Core.Bool.{Bool, true, false, cond}
use mathlib.Core.Option.{Option, none, some}
use mathlib.Core.List.{List, [], ◌∷◌}
use lib.Dec.{T, leb, eqb}
use lib.ListN.{length}
use Rattle.text.specs.Text.{Bytes, every, one_of}
use Rattle.text.proofs.Tests.{or_right, one-of}
use Rattle.numbers.specs.Numbers.{short_output}
use Rattle.format.specs.Kinds.{Kind, REQ, RESP, identity_kinds, record_kinds, pubkey_kinds, key_kinds}
use Rattle.format.specs.Read.{Outcome, answer, judged, nobody, read_identity, read_under, read_of, read_record}
use Rattle.format.specs.declared.Rules.{Rules}
use Rattle.format.specs.declared.Rules.TheVariants.{UpToE10, Today}
use Rattle.format.proofs.Table.{All, every_kind, all-of}
use Rattle.format.proofs.Refusals.{Gives, covers, check_given, judged_given, over_given}
use Rattle.table.specs.Table.{kinds_from}
use Rattle.fields.specs.Attributes.{attribute_no}
use Rattle.put.specs.Made as put
use Rattle.put.specs.Made.{made, says}
use Rattle.items.specs.Items.{lv_concat, text_item}
use Rattle.items.specs.Place.{place_from}
use Rattle.agreement.specs.Texts.{shared_items, module_items, centre_items, shared_info, module_text, centre_text}
use Rattle.fingerprint.specs.Fingerprint.{check_fingerprint, write_fingerprint}
use Rattle.confirm.specs.Confirm.{confirm_request, confirm_response}
use Rattle.list_text.specs.Listing.{list_text, list_room, write_list}
use Rattle.trailed.specs.Trailed.{record_in, read_trailed, write_trailed}
use Rattle.mail.specs.Mail.{write_mail}
use Rattle.shelf.specs.Cabinet.{check_cabinet}
use Rattle.promises.proofs.Statements.Refusals.{of_identities, of_records, of_pubkeys, of_keys, of_loads, of_texts, Refusals}
use Rattle.promises.proofs.Answered.{answered, wanted_answered, attribute_answered, given_answered, judge_answered, build_answered, line_answered, last_answered, trailed_answered, mail_answered, make_answered, cabinet_answered, put_answered, remove_answered, admit_answered, find_answered, newer_answered, expiry_answered, check_answered, request_answered, response_answered}

-- n is one of ns, whatever the field's number
abbrev In : List ℕ → ℕ → ℕ → Type 0
In ns n i = T (one_of ns n)

-- ---- reading

identity_given : (s : Bytes) → Gives of_identities (read_identity s)
unfolding read_identity
identity_given s = over_given of_identities tt nobody Today (tt, tt, tt, tt, tt) identity_kinds (tt, (tt, (tt, tt))) s

-- whatever the rules
records_covered : (rules : Rules) (k : Kind) → T (covers rules of_records k)
records_covered UpToE10 = every_kind (covers UpToE10 of_records) tt
records_covered Today = every_kind (covers Today of_records) tt

keys_covered : (rules : Rules) → All (λ k. T (covers rules of_pubkeys k)) pubkey_kinds
keys_covered UpToE10 = (tt, (tt, tt))
keys_covered Today = (tt, (tt, tt))

under_given : (rules : Rules) (ks : List Kind) (s : Bytes) → Gives of_records (read_under rules ks s)
unfolding read_under
under_given rules ks s = over_given of_records tt read_identity rules (tt, tt, tt, tt, tt) ks (all-of (λ k. T (covers rules of_records k)) (records_covered rules) ks) s

pub read_given : (ks : List Kind) (s : Bytes) → Gives of_records (read_of ks s)
read_given = under_given Today

pub record_given : (s : Bytes) → Gives of_records (read_record s)
unfolding read_record
record_given s = read_given record_kinds s

request_given : (s : Bytes) → Gives of_texts (read_of (REQ ∷ []) s)
unfolding read_under
request_given s = over_given of_texts tt read_identity Today (tt, tt, tt, tt, tt) (REQ ∷ []) (tt, tt) s

pub load_given : (s : Bytes) (more : List ℕ) → T (every (one_of more) of_loads) → Gives more (read_of (REQ ∷ []) s) × Gives more (read_of (RESP ∷ []) s)
unfolding read_under
load_given s more t =
    let among = one-of (one_of more) of_loads t in (
      among (answer (read_of (REQ ∷ []) s)) (over_given of_loads tt read_identity Today (tt, tt, tt, tt, tt) (REQ ∷ []) (tt, tt) s),
      among (answer (read_of (RESP ∷ []) s)) (over_given of_loads tt read_identity Today (tt, tt, tt, tt, tt) (RESP ∷ []) (tt, tt) s),
    )

wrapped_given : (s : Bytes) → Gives of_keys (read_of key_kinds s)
unfolding read_under
wrapped_given s = over_given of_keys tt read_identity Today (tt, tt, tt, tt, tt) key_kinds (tt, tt) s

any_key_given : (rules : Rules) (s : Bytes) → Gives of_pubkeys (read_under rules pubkey_kinds s)
unfolding read_under
any_key_given rules s = over_given of_pubkeys tt read_identity rules (tt, tt, tt, tt, tt) pubkey_kinds (keys_covered rules) s

pub pubkey_given : (s : Bytes) → Gives of_pubkeys (read_of pubkey_kinds s)
pubkey_given = any_key_given Today

-- a number more may be given
pub further : (m : ℕ) (ns : List ℕ) (o : Outcome) → Gives ns o → Gives (m ∷ ns) o
further m ns o h = or_right (eqb (answer o) m) (one_of ns (answer o)) h

-- ---- the fields alone, and building

abbrev of_fields : List ℕ
of_fields = 0 ∷ 2 ∷ 6 ∷ 7 ∷ 8 ∷ 9 ∷ 14 ∷ 28 ∷ []

abbrev of_building : List ℕ
of_building = 0 ∷ 1 ∷ 2 ∷ 5 ∷ 6 ∷ 7 ∷ 8 ∷ 9 ∷ 10 ∷ 14 ∷ 28 ∷ []

fields_given : (k : Kind) (fs : List Bytes) (o : Outcome) → Gives of_fields o → Gives of_fields (judged Today read_identity k fs o)
fields_given k fs o h = judged_given of_fields tt read_identity Today k fs o (every_kind (covers Today of_fields) tt k) h

building_given : (k : Kind) (fs : List Bytes) (o : Outcome) → Gives of_building o → Gives of_building (judged Today read_identity k fs o)
building_given k fs o h = judged_given of_building tt read_identity Today k fs o (every_kind (covers Today of_building) tt k) h

-- ---- items, lines, lists and keys

place_given : (start : ℕ) (o : Option Bytes) → T (one_of (0 ∷ 12 ∷ []) (place_from start o).no)
place_given start none = tt
place_given start (some i) = tt

list_given : (file : Bytes) (room : ℕ) → T (one_of (0 ∷ 10 ∷ []) (says (write_list file room)).no)
unfolding write_list
list_given file room = go (leb list_room room)
  where
    go : (b : Bool) → T (one_of (0 ∷ 10 ∷ []) (says (cond b (made (list_text file)) (put.denied short_output 0))).no)
    go true = tt
    go false = tt

line_given : (s : Bytes) → Gives (11 ∷ of_records) (read_record s)
line_given s = further 11 of_records (read_record s) (record_given s)

trailed_given : (s : Bytes) → Gives (19 ∷ 20 ∷ of_records) (read_trailed s)
trailed_given s =
    let o = read_record (record_in s) in
    trailed_answered (In (19 ∷ 20 ∷ of_records)) tt s (further 19 (20 ∷ of_records) o (further 20 of_records o (record_given (record_in s)))) tt tt

mail_given : (ks : List Kind) (s : Bytes) → Gives (10 ∷ 21 ∷ 22 ∷ of_records) (read_of ks s)
mail_given ks s = let o = read_of ks s in further 10 (21 ∷ 22 ∷ of_records) o (further 21 (22 ∷ of_records) o (further 22 of_records o (read_given ks s)))

subject_given : (s : Bytes) → Gives (13 ∷ of_pubkeys) (read_identity s)
subject_given s = one-of (one_of (13 ∷ of_pubkeys)) of_identities tt (answer (read_identity s)) (identity_given s)

key_given : (s : Bytes) → Gives (13 ∷ of_pubkeys) (read_of pubkey_kinds s)
key_given s = further 13 of_pubkeys (read_of pubkey_kinds s) (pubkey_given s)

checked_given : (s : Bytes) → Gives (15 ∷ of_pubkeys) (read_of pubkey_kinds s)
checked_given s = further 15 of_pubkeys (read_of pubkey_kinds s) (pubkey_given s)

print_given : (s : Bytes) → Gives (10 ∷ of_pubkeys) (read_of pubkey_kinds s)
print_given s = further 10 of_pubkeys (read_of pubkey_kinds s) (pubkey_given s)

filed_given : (s : Bytes) → Gives (23 ∷ 24 ∷ 25 ∷ of_pubkeys) (read_of pubkey_kinds s)
filed_given s = one-of (one_of (23 ∷ 24 ∷ 25 ∷ of_pubkeys)) of_pubkeys tt (answer (read_of pubkey_kinds s)) (pubkey_given s)

asked_given : (s : Bytes) → Gives (23 ∷ 26 ∷ of_identities) (read_identity s)
asked_given s = one-of (one_of (23 ∷ 26 ∷ of_identities)) of_identities tt (answer (read_identity s)) (identity_given s)

-- ---- an attribute, by whatever number

attribute_given : (s : Bytes) (wanted : ℕ) → T (one_of (12 ∷ of_keys) (attribute_no (read_of key_kinds s) wanted))
attribute_given s wanted = attribute_answered (In (12 ∷ of_keys)) tt (read_of key_kinds s) wanted (further 12 of_keys (read_of key_kinds s) (wrapped_given s)) tt

pub refusals : Refusals
unfolding shared_info module_text centre_text check_fingerprint write_fingerprint confirm_request confirm_response write_trailed write_mail check_cabinet
refusals = record {
  check-no = λ κs a r s p. rw p (check_given (0 ∷ 3 ∷ 4 ∷ []) tt a.0 a.1.0.now tt tt);
  read-identity = λ κs a r s p. rw p (answered (In of_identities) tt (read_identity a.0.now) (identity_given a.0.now));
  read-record = λ κs a r s p. rw p (answered (In of_records) tt (read_record a.0.now) (record_given a.0.now));
  read_under = λ κs a r s p. rw p (answered (In of_records) tt (read_under a.0 (kinds_from a.1.0 a.1.1.0) a.1.1.1.0.now) (under_given a.0 (kinds_from a.1.0 a.1.1.0) a.1.1.1.0.now));
  read-of = λ κs a r s p. rw p (answered (In of_records) tt (read_of (kinds_from a.0 a.1.0) a.1.1.0.now) (read_given (kinds_from a.0 a.1.0) a.1.1.0.now));
  judge = λ κs a r s p. rw p (judge_answered (In of_fields) tt fields_given tt a.0 a.1.0.now a.1.1.0.now a.1.1.1.0.now);
  identity-place = λ κs a r s p. rw p.said (wanted_answered (In (12 ∷ of_identities)) tt (read_identity a.0.now) a.1.0 (further 12 of_identities (read_identity a.0.now) (identity_given a.0.now)) tt);
  record-place = λ κs a r s p. rw p.said (wanted_answered (In (12 ∷ of_records)) tt (read_record a.0.now) a.1.0 (further 12 of_records (read_record a.0.now) (record_given a.0.now)) tt);
  identity-field = λ κs a r s p. rw p.its_no (wanted_answered (In (12 ∷ of_identities)) tt (read_identity a.0.now) a.1.0 (further 12 of_identities (read_identity a.0.now) (identity_given a.0.now)) tt);
  record-field = λ κs a r s p. rw p.its_no (wanted_answered (In (12 ∷ of_records)) tt (read_record a.0.now) a.1.0 (further 12 of_records (read_record a.0.now) (record_given a.0.now)) tt);
  attribute-place = λ κs a r s p. rw p.said (attribute_given a.0.now a.1.0);
  attribute-named-place = λ κs a r s p. rw p.said (attribute_given a.0.now _);
  attribute = λ κs a r s p. rw p.its_no (attribute_given a.0.now a.1.0);
  attribute-named = λ κs a r s p. rw p.its_no (attribute_given a.0.now _);
  build = λ κs a r s p. rw p.said (build_answered (In of_building) tt building_given tt tt tt tt a.0.now a.1.0.now a.1.1.0.now (length a.1.1.1.0.now));
  shared-info = λ κs a r s p. rw p.said (given_answered (In of_texts) tt (λ k fs. lv_concat (shared_items fs)) (length a.1.0.now) (read_of (REQ ∷ []) a.0.now) (request_given a.0.now) tt);
  module-text = λ κs a r s p. rw p.said (given_answered (In of_texts) tt (λ k fs. lv_concat (module_items fs)) (length a.1.0.now) (read_of (REQ ∷ []) a.0.now) (request_given a.0.now) tt);
  centre-text = λ κs a r s p. rw p.said (given_answered (In of_texts) tt (λ k fs. lv_concat (centre_items fs)) (length a.1.0.now) (read_of (REQ ∷ []) a.0.now) (request_given a.0.now) tt);
  item-place = λ κs a r s p. rw p.said (place_given _ (text_item a.0.now a.1.0));
  text-item = λ κs a r s p. rw p.number_so (place_given _ (text_item a.0.now a.1.0));
  line-at = λ κs a r s p. rw p (line_answered (In (11 ∷ of_records)) tt read_record line_given tt a.0.now a.1.0);
  step_from = λ κs a r s p. rw p (line_answered (In (11 ∷ of_records)) tt read_record line_given tt a.0.now a.1.0);
  last_line = λ κs a r s p. rw p (last_answered (In (0 ∷ 11 ∷ [])) tt tt a.0 a.1.0);
  read-trailed = λ κs a r s p. rw p (answered (In (19 ∷ 20 ∷ of_records)) tt (read_trailed a.0.now) (trailed_given a.0.now));
  trailed-at = λ κs a r s p. rw p (line_answered (In (11 ∷ 19 ∷ 20 ∷ of_records)) tt read_trailed (λ l. further 11 (19 ∷ 20 ∷ of_records) (read_trailed l) (trailed_given l)) tt a.0.now a.1.0);
  write-trailed = λ κs a r s p. rw p.said (given_answered (In (10 ∷ of_records)) tt _ (length a.1.0.now) (read_record a.0.now) (further 10 of_records (read_record a.0.now) (record_given a.0.now)) tt);
  write-mail = λ κs a r s p. rw p.said (given_answered (In (10 ∷ of_records)) tt _ (length a.1.0.now) (read_record a.0.now) (further 10 of_records (read_record a.0.now) (record_given a.0.now)) tt);
  read-mail = λ κs a r s p. rw p.said (mail_answered (In (10 ∷ 21 ∷ 22 ∷ of_records)) tt a.0.now (length a.1.0.now) mail_given tt tt tt);
  write-list = λ κs a r s p. rw p.said (list_given a.0.now (length a.1.0.now));
  make-cabinet = λ κs a r s p. rw p.said (make_answered (In (0 ∷ 23 ∷ [])) tt tt a.0.now);
  check-cabinet = λ κs a r s p. rw p (cabinet_answered (In (0 ∷ 23 ∷ [])) tt tt a.0.now);
  count-keys = λ κs a r s p. rw p (cabinet_answered (In (0 ∷ 23 ∷ [])) tt tt a.0.now);
  put-key = λ κs a r s p. rw p.said (put_answered (In (23 ∷ 24 ∷ 25 ∷ of_pubkeys)) tt tt filed_given tt tt a.0.now a.1.0.now);
  remove_key = λ κs a r s p. rw p.said (remove_answered (In (23 ∷ 26 ∷ of_identities)) tt tt asked_given tt a.0.now a.1.0.now);
  admit = λ κs a r s p. rw p.said (admit_answered (In (23 ∷ 26 ∷ 27 ∷ of_loads)) tt tt (λ q. (load_given q (23 ∷ 26 ∷ 27 ∷ of_loads) tt).0) tt tt a.0.now a.1.0.now);
  key-place = λ κs a r s p. rw p.said (find_answered (In (23 ∷ 26 ∷ of_identities)) tt tt asked_given tt a.0.now a.1.0.now);
  find-key = λ κs a r s p. rw p.its_no (find_answered (In (23 ∷ 26 ∷ of_identities)) tt tt asked_given tt a.0.now a.1.0.now);
  newer-of = λ κs a r s p. rw p (newer_answered (In (13 ∷ of_pubkeys)) tt tt subject_given key_given a.0.now a.1.0.now);
  newer = λ κs a r s p. rw p.number_so (newer_answered (In (13 ∷ of_pubkeys)) tt tt subject_given key_given a.0.now a.1.0.now);
  expiry-under = λ κs a r s p. rw p (expiry_answered (In of_pubkeys) tt a.0 (any_key_given a.0) a.1.0.now);
  expiry-of = λ κs a r s p. rw p (expiry_answered (In of_pubkeys) tt Today pubkey_given a.0.now);
  check-fingerprint = λ κs a r s p. rw p (check_answered (In (15 ∷ of_pubkeys)) tt (read_of pubkey_kinds a.0.now) (checked_given a.0.now) tt);
  write-fingerprint = λ κs a r s p. rw p.said (given_answered (In (10 ∷ of_pubkeys)) tt _ (length a.1.0.now) (read_of pubkey_kinds a.0.now) (print_given a.0.now) tt);
  confirm-request = λ κs a r s p.
      let request = a.1.0.now in
      rw p.said (request_answered (In (16 ∷ 10 ∷ 18 ∷ of_loads)) tt a.0.now (length a.1.1.0.now) (length a.1.1.1.0.now) (read_of (REQ ∷ []) request) (load_given request (16 ∷ 10 ∷ 18 ∷ of_loads) tt).0 tt tt tt);
  confirm-response = λ κs a r s p.
      let request = a.1.0.now in
      let response = a.1.1.0.now in
      rw p (response_answered (In (16 ∷ 17 ∷ 18 ∷ of_loads)) tt a.0.now (read_of (REQ ∷ []) request) (read_of (RESP ∷ []) response) (load_given request (16 ∷ 17 ∷ 18 ∷ of_loads) tt).0 (load_given response (16 ∷ 17 ∷ 18 ∷ of_loads) tt).1 tt tt tt);
}
