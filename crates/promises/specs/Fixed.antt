-- What documents 01 and 02 fix beside 01's starred values: the table, the alphabets, the limits, the labels, 003's checks, the numbers, and
-- examples of each number and of their order; of attribute lists and of days both sides of each rule. A definition that is changed together with the code changes here too, and that is seen.
-- proofs/Fixed.antt proves `AllCome fixed` by computing each.
-- Assumes nothing.
use Prim.Native.Char.{code}
use Rattle.std.specs.Prelude.{Bool, true, false, take, drop, set, ℤ, pos, negsuc}
use Rattle.std.proofs.Math.Option.{Option, none, some}
use mathlib.Core.List.{List, [], ◌∷◌, ◌++◌}
use Rattle.std.proofs.Math.ListN.{replicate}
use Rattle.numbers.specs.Numbers.{too_long, unknown_kind, missing_check, wrong_check, wrong_count, wrong_text, wrong_identity, unpaired, wrong_kind, short_output, unfinished, missing_item, not_alike, wrong_attributes, wrong_fingerprint, wrong_z, other_request, wrong_tag, missing_trailer, wrong_hash, missing_begins, missing_ends, not_cabinet, not_later, no_place, not_there, tvp_not_later, module_unsigned}
use Rattle.text.specs.Text.{Bytes, ascii, is_ident, is_timestamp, is_hex, is_printable, Ident, Timestamp, Point, Sig, Mac, Print, Protected, Hex, is_of}
use Rattle.text.specs.Base16.{base16}
use Rattle.text.specs.Seconds.{moment_of, seconds_bytes}
use Rattle.sha384.specs.Sha384.{sha384}
use Rattle.format.specs.Kinds.{Kind, SMMAN, SMID, KMCID, ECDSA, ECDH, REQ, RESP, KEY, Field, Text, Printable, Identity, OrEmpty, name, mark, fields_of, pubkey_kinds, key_kinds}
use Rattle.format.specs.Attributes.{are_attributes}
use Rattle.format.specs.Build.{joined, record_of}
use Rattle.format.specs.Read.{Outcome, answer, place, check, read_identity, read_under, read_of, read_record}
use Rattle.format.specs.declared.Rules.TheVariants.{UpToE10}
use Rattle.table.specs.Table.{row_of, missing_row}
use Rattle.items.specs.Items.{lv_concat}
use Rattle.agreement.specs.Texts.{shared_items, module_items, centre_items, shared_info, module_text, centre_text}
use Rattle.places.specs.Places.{lengths}
use Rattle.put.specs.Made.{Made, says, leaves}
use Rattle.building.specs.Building.{run, build}
use Rattle.fields.specs.Fields.{wanted_no}
use Rattle.fields.specs.Attributes.{attribute_part, attribute_no, cards_said, number_named}
use Rattle.format.specs.Files.{line_feed, line_at}
use Rattle.files.specs.Walk.{line_said, number_of}
use Rattle.newer.specs.Newer.{newer, choice_no}
use Rattle.fingerprint.specs.Fingerprint.{check_fingerprint, write_fingerprint}
use Rattle.fingerprint.specs.declared.Checked.{Checked}
use Rattle.hmac.specs.Hmac.{hmac}
use Rattle.confirm.specs.Confirm.{says_of, confirm_request, confirm_response}
use Rattle.confirm.specs.declared.Confirmed.{Confirmed}
use Rattle.sha_1.specs.Sha1.{sha1}
use Rattle.trailed.specs.Trailed.{trailer, read_trailed, trailed_at, write_trailed}
use Rattle.mail.specs.Mail.{guarded, write_mail, read_mail}
use Rattle.expiry.specs.Expiry.{expiry_of}
use Rattle.shelf.specs.Places as shelf
use Rattle.shelf.specs.Places.{named}
use Rattle.shelf.specs.Cabinet.{Reading, about, declined, asks, stands, reads, requests, is_tvp, decode, is_old}
use Rattle.promises.specs.Values.{Value, number, signed, bytes, test, types, admitted}
use Rattle.promises.specs.Worked.{manufacturer_id, module_id_fields, module_id, centre_id_fields, centre_id, manufacturer_key_fields, manufacturer_key, module_key_fields, module_key, centre_key_fields, centre_key, request_fields, request, response_fields, response, key_attributes, key_fields, key, unsigned_key_fields, unsigned_module_fields, unsigned_module_key, long_attributes}

-- ---- "Seven kinds of record": names, marks and field types, row by row

abbrev pub identity : List Field
identity = Text Ident ∷ Text Ident ∷ Text Timestamp ∷ Text Print ∷ []

unfoldable pub rows : List Value
rows =
    bytes (name SMMAN) (ascii "SMMAN.1")
    ∷ bytes (name SMID) (ascii "SMID.1")
    ∷ bytes (name KMCID) (ascii "KMCID.1")
    ∷ bytes (name ECDSA) (ascii "PK.ECDSA.1")
    ∷ bytes (name ECDH) (ascii "PK.ECDH.1")
    ∷ bytes (name REQ) (ascii "VKLOAD.REQ.1")
    ∷ bytes (name RESP) (ascii "VKLOAD.RESP.1")
    ∷ bytes (name KEY) (ascii "KEY.1")
    ∷ bytes (mark SMMAN ∷ mark SMID ∷ mark KMCID ∷ mark ECDSA ∷ mark ECDH ∷ mark REQ ∷ mark RESP ∷ mark KEY ∷ []) (ascii ":::|||||")
    ∷ bytes (row_of SMMAN ∷ row_of SMID ∷ row_of KMCID ∷ row_of ECDSA ∷ row_of ECDH ∷ row_of REQ ∷ row_of RESP ∷ row_of KEY ∷ missing_row ∷ []) (0 ∷ 1 ∷ 2 ∷ 3 ∷ 4 ∷ 5 ∷ 6 ∷ 7 ∷ 255 ∷ [])
    ∷ types (fields_of SMMAN) identity
    ∷ types (fields_of SMID) identity
    ∷ types (fields_of KMCID) identity
    ∷ types (fields_of ECDSA)
    (Identity (SMMAN ∷ []) ∷ Text Point ∷ Text Timestamp ∷ OrEmpty (Identity (SMMAN ∷ [])) ∷ OrEmpty (Text Sig) ∷ [])
    ∷ types (fields_of ECDH)
    (Identity (SMID ∷ KMCID ∷ []) ∷ Text Point ∷ Text Timestamp ∷ OrEmpty (Identity (SMMAN ∷ [])) ∷ OrEmpty (Text Sig) ∷ [])
    ∷ types (fields_of REQ)
    (Identity (SMID ∷ []) ∷ Identity (KMCID ∷ []) ∷ Text Timestamp ∷ Text Ident ∷ Text Ident ∷ Text Point ∷ Text Mac ∷ [])
    ∷ types (fields_of RESP) (Identity (KMCID ∷ []) ∷ Identity (SMID ∷ []) ∷ Text Timestamp ∷ Text Mac ∷ [])
    ∷ types (fields_of KEY) (Text (Hex 24) ∷ Printable ∷ Text Protected ∷ [])
    ∷ []

-- ---- "Text types": every byte value that a place admits

unfoldable pub alphabets : List Value
alphabets =
    bytes (admitted is_ident [] []) (ascii "0123456789ABCDEFGHIJKLMNOPQRSTUVWXYZabcdefghijklmnopqrstuvwxyz")
    ∷ bytes (admitted is_ident (ascii "A") []) (ascii ",-.0123456789ABCDEFGHIJKLMNOPQRSTUVWXYZ_abcdefghijklmnopqrstuvwxyz")
    ∷ bytes (admitted (is_hex 1) [] []) (ascii "0123456789ABCDEF")
    ∷ bytes (admitted is_timestamp [] (ascii "0180120T090000Z")) (ascii "0123456789")
    ∷ bytes (admitted is_timestamp (ascii "2018") (ascii "120T090000Z")) (ascii "01")
    ∷ bytes (admitted is_timestamp (ascii "20180") (ascii "20T090000Z")) (ascii "123456789")
    ∷ bytes (admitted is_timestamp (ascii "20181") (ascii "20T090000Z")) (ascii "012")
    ∷ bytes (admitted is_timestamp (ascii "201801") (ascii "0T090000Z")) (ascii "123")
    ∷ bytes (admitted is_timestamp (ascii "2018013") (ascii "T090000Z")) (ascii "01")
    ∷ bytes (admitted is_timestamp (ascii "20180120") (ascii "090000Z")) (ascii "T")
    ∷ bytes (admitted is_timestamp (ascii "20180120T") (ascii "30000Z")) (ascii "012")
    ∷ bytes (admitted is_timestamp (ascii "20180120T2") (ascii "0000Z")) (ascii "0123")
    ∷ bytes (admitted is_timestamp (ascii "20180120T09") (ascii "000Z")) (ascii "012345")
    ∷ bytes (admitted is_timestamp (ascii "20180120T095") (ascii "00Z")) (ascii "0123456789")
    ∷ bytes (admitted is_timestamp (ascii "20180120T0900") (ascii "0Z")) (ascii "012345")
    ∷ bytes (admitted is_timestamp (ascii "20180120T09005") (ascii "Z")) (ascii "0123456789")
    ∷ bytes (admitted is_timestamp (ascii "20180120T090000") []) (ascii "Z")
    ∷ bytes (admitted is_printable [] [])
    (ascii " !" ++ 0x22 ∷ ascii "#$%&'()*+,-./0123456789:;<=>?@ABCDEFGHIJKLMNOPQRSTUVWXYZ[" ++ 0x5C ∷ ascii "]^_`abcdefghijklmnopqrstuvwxyz{}~")
    ∷ []

-- ---- "Text types" and "Numbers given back": the limits

unfoldable pub limits : List Value
limits =
    test (is_ident []) false
    ∷ test (is_ident (replicate 32 (code "A"))) true
    ∷ test (is_ident (replicate 33 (code "A"))) false
    ∷ test (is_timestamp (ascii "00000120T090000Z")) false
    ∷ test (is_timestamp (ascii "00010120T090000Z")) true
    ∷ test (is_timestamp (ascii "99991231T115959Z")) true
    ∷ test (is_of Point (ascii "04" ++ replicate 192 (code "0"))) true
    ∷ test (is_of Point (ascii "02" ++ replicate 192 (code "0"))) false
    ∷ test (is_of Point (ascii "04" ++ replicate 193 (code "0"))) false
    ∷ test (is_of Sig (replicate 192 (code "F"))) true
    ∷ test (is_of Sig (replicate 193 (code "F"))) false
    ∷ test (is_of Mac (replicate 48 (code "F"))) true
    ∷ test (is_of Mac (replicate 47 (code "F"))) false
    ∷ test (is_of Print (replicate 16 (code "F"))) true
    ∷ test (is_of Print (replicate 17 (code "F"))) false
    ∷ test (is_of Protected (replicate 30 (code "F"))) false
    ∷ test (is_of Protected (replicate 32 (code "F"))) true
    ∷ test (is_of Protected (replicate 33 (code "F"))) false
    ∷ test (is_of Protected (replicate 72 (code "F"))) true
    ∷ test (is_of Protected (replicate 74 (code "F"))) false
    ∷ number (answer (read_record (replicate 1024 (code "A")))) 2
    ∷ number (answer (read_record (replicate 1025 (code "A")))) 1
    ∷ number (answer (read_identity (replicate 1024 (code "A")))) 2
    ∷ number (answer (read_identity (replicate 1025 (code "A")))) 1
    ∷ []

-- ---- "Key agreement texts": the labels, behind the number of items and their own lengths

unfoldable pub labels : List Value
labels =
    bytes (take 11 (lv_concat (shared_items request_fields))) (4 ∷ 9 ∷ ascii "STS.KAA.1")
    ∷ bytes (take 5 (lv_concat (module_items request_fields))) (7 ∷ 3 ∷ ascii "U_2")
    ∷ bytes (take 4 (lv_concat (centre_items request_fields))) (5 ∷ 2 ∷ ascii "V2")
    ∷ []

-- ---- "The checks in 003 must come out"

unfoldable pub checks : List Value
checks =
    bytes (check centre_id) (ascii "4C31")
    ∷ bytes (check manufacturer_id) (ascii "8B04")
    ∷ bytes (check module_id) (ascii "8EFF")
    ∷ bytes (check centre_key) (ascii "B8F9")
    ∷ bytes (check manufacturer_key) (ascii "1F11")
    ∷ bytes (check module_key) (ascii "4971")
    ∷ bytes (check request) (ascii "F6B3")
    ∷ bytes (check response) (ascii "D743")
    ∷ bytes (check key) (ascii "4726")
    ∷ []

-- ---- "Numbers given back": each number by its name, and what gives it

-- the number and the field's number
abbrev pub said : Outcome → Bytes
said o = answer o ∷ place o ∷ []

unfoldable pub numbers : List Value
numbers =
    bytes (too_long ∷ unknown_kind ∷ missing_check ∷ wrong_check ∷ wrong_count ∷ wrong_text ∷ wrong_identity ∷ unpaired ∷ wrong_kind ∷ short_output ∷ unfinished ∷ missing_item ∷ not_alike ∷ wrong_attributes ∷ wrong_fingerprint ∷ wrong_z ∷ other_request ∷ wrong_tag ∷ missing_trailer ∷ wrong_hash ∷ missing_begins ∷ missing_ends ∷ not_cabinet ∷ not_later ∷ no_place ∷ not_there ∷ tvp_not_later ∷ module_unsigned ∷ [])
    (1 ∷ 2 ∷ 3 ∷ 4 ∷ 5 ∷ 6 ∷ 7 ∷ 8 ∷ 9 ∷ 10 ∷ 11 ∷ 12 ∷ 13 ∷ 14 ∷ 15 ∷ 16 ∷ 17 ∷ 18 ∷ 19 ∷ 20 ∷ 21 ∷ 22 ∷ 23 ∷ 24 ∷ 25 ∷ 26 ∷ 27 ∷ 28 ∷ [])
    ∷ bytes (said (read_record (ascii "PK.ECDH.1"))) (2 ∷ 0 ∷ [])
    ∷ bytes (said (read_record (ascii "PK.ECDH.1:x"))) (2 ∷ 0 ∷ [])
    ∷ bytes (said (read_record module_id)) (2 ∷ 0 ∷ [])
    ∷ bytes (said (read_identity centre_key)) (2 ∷ 0 ∷ [])
    ∷ bytes (said (read_record (ascii "PK.ECDH.1|x"))) (3 ∷ 0 ∷ [])
    ∷ bytes (said (read_record (ascii "PK.ECDH.1|0000"))) (4 ∷ 0 ∷ [])
    ∷ bytes (said (read_record (record_of ECDH []))) (5 ∷ 0 ∷ [])
    ∷ bytes (said (read_record (record_of ECDH (drop 1 centre_key_fields)))) (5 ∷ 0 ∷ [])
    ∷ bytes (said (read_record (record_of RESP (centre_id ∷ module_id ∷ ascii "20180125T240000Z" ∷ ascii "0" ∷ [])))) (6 ∷ 3 ∷ [])
    ∷ bytes (said (read_record (record_of RESP (centre_id ∷ ascii "SMID.1" ∷ ascii "20180125T240000Z" ∷ ascii "0" ∷ [])))) (7 ∷ 2 ∷ [])
    ∷ bytes (said (read_record (record_of ECDSA (take 4 manufacturer_key_fields ++ [] ∷ [])))) (8 ∷ 0 ∷ [])
    ∷ bytes (said (read_record (record_of ECDSA (set (take 4 manufacturer_key_fields) 2 [] ++ [] ∷ [])))) (6 ∷ 3 ∷ [])
    ∷ bytes (said (read_record (record_of ECDSA centre_key_fields))) (9 ∷ 1 ∷ [])
    ∷ []

-- building: 2, 5, the fields, 8, 10; what is asked first is answered where a later number would do too
abbrev pub said_of : Made → Bytes
said_of m = (says m).no ∷ (says m).field ∷ []

unfoldable pub building : List Value
building =
    bytes (said_of (build (ascii "PK.ECDH.2") [] (1 ∷ []) 0)) (2 ∷ 0 ∷ [])
    ∷ bytes (said_of (build (name RESP) [] [] 0)) (5 ∷ 0 ∷ [])
    ∷ bytes (said_of (build (name RESP) (ascii "abc") (1 ∷ 1 ∷ 1 ∷ 1 ∷ []) 0)) (5 ∷ 0 ∷ [])
    ∷ bytes (said_of (build (name RESP) (ascii "abcd") (1 ∷ 1 ∷ 1 ∷ 1 ∷ []) 0)) (7 ∷ 1 ∷ [])
    ∷ bytes (said_of (build (name SMID) (ascii "abcd") (1 ∷ 1 ∷ 1 ∷ 1 ∷ []) 0)) (6 ∷ 3 ∷ [])
    ∷ bytes (said_of (build (name ECDSA) (run (take 4 manufacturer_key_fields)) (lengths (take 4 manufacturer_key_fields ++ [] ∷ [])) 0)) (8 ∷ 0 ∷ [])
    ∷ bytes (said_of (build (name SMID) (run module_id_fields) (lengths module_id_fields) 59)) (10 ∷ 0 ∷ [])
    ∷ bytes (said_of (build (name SMID) (run module_id_fields) (lengths module_id_fields) 60)) (0 ∷ 0 ∷ [])
    ∷ []

-- texts: the request's own refusal first, any other kind 2 in its normal place, then 10
unfoldable pub texts : List Value
texts =
    bytes (said_of (shared_info (ascii "VKLOAD.RESP.1|x") 0)) (2 ∷ 0 ∷ [])
    ∷ bytes (said_of (module_text (ascii "VKLOAD.REQ.1|x") 0)) (3 ∷ 0 ∷ [])
    ∷ bytes (said_of (centre_text request 253)) (10 ∷ 0 ∷ [])
    ∷ bytes (said_of (centre_text request 254)) (0 ∷ 0 ∷ [])
    ∷ []

-- 12 after every other number; 11 though the check fits; 13 for two Subjects
unfoldable pub others : List Value
others =
    number (wanted_no (read_identity (ascii "SMID.1:x")) 5) 3
    ∷ number (wanted_no (read_identity module_id) 0) 12
    ∷ number (wanted_no (read_identity module_id) 4) 0
    ∷ number (wanted_no (read_identity module_id) 5) 12
    ∷ number (number_of (line_said (line_at response 0))) 11
    ∷ number (number_of (line_said (line_at (line_feed ∷ []) 0))) 2
    ∷ number (choice_no (newer centre_key module_key)) 13
    ∷ number (choice_no (newer request centre_key)) 2
    ∷ []

-- ---- document 02, E1: the attribute list, both sides of each rule of clause 7.5.1 and Appendix B

-- the list with the cards before DKG, and these behind them
abbrev pub dated : Bytes → Bytes
dated s = ascii "ACT19930101T000000Z;BDT19930101T000000Z;" ++ s

-- with all cards before SGC
abbrev pub typed : Bytes → Bytes
typed s = dated (ascii "DKG02;KEN255;KRN1;KTC2;" ++ s)

unfoldable pub lists : List Value
lists =
    test (are_attributes key_attributes) true
    -- every card is ended, and none is empty
    ∷ test (are_attributes (typed (ascii "SGC0000123456"))) false
    ∷ test (are_attributes (typed (ascii "SGC0000123456;;"))) false
    -- a name is three letters or digits
    ∷ test (are_attributes (typed (ascii "SGC0000123456;ZZ;"))) false
    ∷ test (are_attributes (typed (ascii "SGC0000123456;ZZZ;"))) true
    ∷ test (are_attributes (typed (ascii "SGC0000123456;Z-Z;"))) false
    ∷ test (are_attributes (typed (ascii "SGC0000123456;z9z;"))) true
    -- names ascend strictly, by ASCII code: small letters behind capitals
    ∷ test (are_attributes (typed (ascii "SGC0000123456;SGB;"))) false
    ∷ test (are_attributes (typed (ascii "SGC0000123456;SGC0000123456;"))) false
    ∷ test (are_attributes (typed (ascii "SGC0000123456;aaa;ZZZ;"))) false
    ∷ test (are_attributes (typed (ascii "SGC0000123456;ZZZ;aaa;"))) true
    -- each required name
    ∷ test (are_attributes (ascii "BDT19930101T000000Z;DKG02;KEN255;KRN1;KTC2;SGC0000123456;")) false
    ∷ test (are_attributes (ascii "ACT19930101T000000Z;DKG02;KEN255;KRN1;KTC2;SGC0000123456;")) false
    ∷ test (are_attributes (dated (ascii "KEN255;KRN1;KTC2;SGC0000123456;"))) false
    ∷ test (are_attributes (dated (ascii "DKG02;KRN1;KTC2;SGC0000123456;"))) false
    ∷ test (are_attributes (dated (ascii "DKG02;KEN255;KTC2;SGC0000123456;"))) false
    ∷ test (are_attributes (dated (ascii "DKG02;KEN255;KRN1;SGC0000123456;"))) false
    ∷ test (are_attributes (typed [])) false
    -- each known value
    ∷ test (are_attributes (dated (ascii "DKG2;KEN255;KRN1;KTC2;SGC0000123456;"))) false
    ∷ test (are_attributes (dated (ascii "DKG002;KEN255;KRN1;KTC2;SGC0000123456;"))) false
    ∷ test (are_attributes (dated (ascii "DKG02;IUT20990101T000000Z;KEN255;KRN1;KTC2;SGC0000123456;"))) true
    ∷ test (are_attributes (dated (ascii "DKG02;IUT20990101T240000Z;KEN255;KRN1;KTC2;SGC0000123456;"))) false
    ∷ test (are_attributes (dated (ascii "DKG02;KEN000;KRN1;KTC2;SGC0000123456;"))) true
    ∷ test (are_attributes (dated (ascii "DKG02;KEN256;KRN1;KTC2;SGC0000123456;"))) false
    ∷ test (are_attributes (dated (ascii "DKG02;KEN55;KRN1;KTC2;SGC0000123456;"))) false
    ∷ test (are_attributes (dated (ascii "DKG02;KEN255;KRN11;KTC2;SGC0000123456;"))) false
    ∷ test (are_attributes (dated (ascii "DKG02;KEN255;KRN1;KTCA;SGC0000123456;"))) false
    ∷ test (are_attributes (typed (ascii "SGC000123456;"))) false
    ∷ test (are_attributes (typed (ascii "SGC0000123456;SGN;"))) false
    ∷ test (are_attributes (typed (ascii "SGC0000123456;SGN" ++ replicate 99 (code "A") ++ ascii ";"))) true
    ∷ test (are_attributes (typed (ascii "SGC0000123456;SGN" ++ replicate 100 (code "A") ++ ascii ";"))) false
    -- a value of at most 252 characters
    ∷ test (are_attributes (typed (ascii "SGC0000123456;XXX" ++ replicate 252 (code "A") ++ ascii ";"))) true
    ∷ test (are_attributes (typed (ascii "SGC0000123456;XXX" ++ replicate 253 (code "A") ++ ascii ";"))) false
    ∷ []

-- 003's first wrapped key with another list
abbrev pub with_list : Bytes → List Bytes
with_list s = set key_fields 1 s

-- the numbers: 14 after the fields; an attribute is its card without the ';'; 12 after every other number
unfoldable pub keys : List Value
keys =
    bytes (said (read_record (record_of KEY (with_list (ascii "ACT"))))) (14 ∷ 0 ∷ [])
    ∷ bytes (said (read_record (record_of KEY (set (with_list (ascii "ACT")) 2 [])))) (6 ∷ 3 ∷ [])
    ∷ bytes (said (read_record (record_of KEY (with_list [])))) (6 ∷ 2 ∷ [])
    ∷ bytes (said (read_record (record_of KEY (with_list (0x7F ∷ []))))) (6 ∷ 2 ∷ [])
    ∷ bytes (said (read_record (record_of KEY (set (with_list []) 0 [])))) (6 ∷ 1 ∷ [])
    ∷ bytes (said (read_identity key)) (2 ∷ 0 ∷ [])
    ∷ bytes (said_of (shared_info key 0)) (2 ∷ 0 ∷ [])
    ∷ number (choice_no (newer key centre_key)) 2
    ∷ bytes (attribute_part (read_of key_kinds key) 5) (ascii "KRN1")
    ∷ bytes (attribute_part (read_of key_kinds key) (number_named (ascii "KEN") (cards_said (read_of key_kinds key)))) (ascii "KEN255")
    ∷ number (number_named (ascii "KEX") (cards_said (read_of key_kinds key))) 0
    ∷ number (attribute_no (read_of key_kinds key) 0) 12
    ∷ number (attribute_no (read_of key_kinds key) 7) 0
    ∷ number (attribute_no (read_of key_kinds key) 8) 12
    ∷ number (attribute_no (read_of key_kinds response) 8) 2
    ∷ []

-- building: the mark in a field, 14 before 1, 1 before 10, and 1,024 bytes
abbrev pub build_key : Bytes → Bytes
build_key s = said_of (build (name KEY) (run (with_list s)) (lengths (with_list s)) 1023)

unfoldable pub long_keys : List Value
long_keys =
    bytes (build_key (ascii "ACT|")) (6 ∷ 2 ∷ [])
    ∷ bytes (build_key (take 939 (long_attributes 91))) (14 ∷ 0 ∷ [])
    ∷ bytes (build_key (drop 20 (long_attributes 130))) (14 ∷ 0 ∷ [])
    ∷ bytes (build_key (long_attributes 91)) (1 ∷ 0 ∷ [])
    ∷ bytes (build_key (long_attributes 90)) (10 ∷ 0 ∷ [])
    ∷ bytes (build_key (long_attributes 89)) (0 ∷ 0 ∷ [])
    ∷ []

-- ---- document 02, E2: both sides of the end of every month, and of the rule for 29 February

abbrev pub date : Bytes → Bool
date s = is_timestamp (s ++ ascii "T000000Z")

unfoldable pub days : List Value
days =
    test (date (ascii "20230131")) true
    ∷ test (date (ascii "20230132")) false
    ∷ test (date (ascii "20230228")) true
    ∷ test (date (ascii "20230229")) false
    ∷ test (date (ascii "20230331")) true
    ∷ test (date (ascii "20230332")) false
    ∷ test (date (ascii "20230430")) true
    ∷ test (date (ascii "20230431")) false
    ∷ test (date (ascii "20230531")) true
    ∷ test (date (ascii "20230532")) false
    ∷ test (date (ascii "20230630")) true
    ∷ test (date (ascii "20230631")) false
    ∷ test (date (ascii "20230731")) true
    ∷ test (date (ascii "20230732")) false
    ∷ test (date (ascii "20230831")) true
    ∷ test (date (ascii "20230832")) false
    ∷ test (date (ascii "20230930")) true
    ∷ test (date (ascii "20230931")) false
    ∷ test (date (ascii "20231031")) true
    ∷ test (date (ascii "20231032")) false
    ∷ test (date (ascii "20231130")) true
    ∷ test (date (ascii "20231131")) false
    ∷ test (date (ascii "20231231")) true
    ∷ test (date (ascii "20231232")) false
    ∷ test (date (ascii "19960229")) true
    ∷ test (date (ascii "20000229")) true
    ∷ test (date (ascii "24000229")) true
    ∷ test (date (ascii "20000230")) false
    ∷ test (date (ascii "19000229")) false
    ∷ test (date (ascii "21000229")) false
    ∷ []

abbrev pub april31 : Bytes
april31 = ascii "20230431T000000Z"

abbrev pub leap_day : Bytes
leap_day = ascii "20000229T000000Z"

-- 003's identity of the module with another GNT; its first list of attributes with other values of ACT and BDT, and a card more
abbrev pub made_at : Bytes → Bytes
made_at gnt = record_of SMID (set module_id_fields 2 gnt)

abbrev pub list_at : Bytes → Bytes → Bytes → Bytes
list_at act bdt card = ascii "ACT" ++ act ++ ascii ";BDT" ++ bdt ++ ascii ";DKG02;" ++ card ++ ascii "KEN255;KRN1;KTC2;SGC0000123456;"

-- without room, so that a permitted list of fields answers 10, the last number
abbrev pub built : Kind → List Bytes → Bytes
built k fs = said_of (build (name k) (run fs) (lengths fs) 0)

-- wherever a date stands, read and built: 6 with its field's number, inside an identity field 7, as ACT, BDT or IUT 14; of EXP no date is asked
unfoldable pub dates : List Value
dates =
    bytes (said (read_identity (made_at april31))) (6 ∷ 3 ∷ [])
    ∷ bytes (said (read_identity (made_at leap_day))) (0 ∷ 0 ∷ [])
    ∷ bytes (said (read_record (record_of RESP (set response_fields 1 (made_at april31))))) (7 ∷ 2 ∷ [])
    ∷ bytes (said (read_record (record_of RESP (set response_fields 2 april31)))) (6 ∷ 3 ∷ [])
    ∷ bytes (said (read_record (record_of RESP (set (set response_fields 1 (made_at leap_day)) 2 leap_day)))) (0 ∷ 0 ∷ [])
    ∷ bytes (built SMID (set module_id_fields 2 april31)) (6 ∷ 3 ∷ [])
    ∷ bytes (built SMID (set module_id_fields 2 leap_day)) (10 ∷ 0 ∷ [])
    ∷ bytes (built REQ (set request_fields 0 (made_at april31))) (7 ∷ 1 ∷ [])
    ∷ bytes (built REQ (set request_fields 2 april31)) (6 ∷ 3 ∷ [])
    ∷ bytes (built ECDH (set centre_key_fields 2 april31)) (6 ∷ 3 ∷ [])
    ∷ bytes (built ECDH (set centre_key_fields 2 leap_day)) (10 ∷ 0 ∷ [])
    ∷ bytes (built KEY (with_list (list_at april31 leap_day []))) (14 ∷ 0 ∷ [])
    ∷ bytes (built KEY (with_list (list_at leap_day april31 []))) (14 ∷ 0 ∷ [])
    ∷ bytes (built KEY (with_list (list_at leap_day leap_day (ascii "IUT20230431T000000Z;")))) (14 ∷ 0 ∷ [])
    ∷ bytes (built KEY (with_list (list_at leap_day leap_day (ascii "EXP20230431T000000Z;IUT20000229T000000Z;")))) (10 ∷ 0 ∷ [])
    ∷ []

-- ---- document 02, E3: the published vectors of SHA-384, of one block, of one block and of two

unfoldable pub hashes : List Value
hashes =
    bytes (base16 (sha384 []))
    (ascii "38B060A751AC96384CD9327EB1B1E36A21FDB71114BE07434C0CC7BF63F6E1DA274EDEBFE76F65FBD51AD2F14898B95B")
    ∷ bytes (base16 (sha384 (ascii "abc")))
    (ascii "CB00753F45A35E8BB5A03D699AC65007272C32AB0EDED1631A8B605A43FF5BED8086072BA1E7CC2358BAECA134C825A7")
    ∷ bytes (base16 (sha384 (ascii "abcdefghbcdefghicdefghijdefghijkefghijklfghijklmghijklmnhijklmnoijklmnopjklmnopqklmnopqrlmnopqrsmnopqrstnopqrstu")))
    (ascii "09330C33F71147E83D192FC782CD1B4753111B173B3B05D22FA08086E3B0F712FCC7C71A557E2DB966C3E9FA91746039")
    ∷ []

-- 003's key of the centre with another Fingerprint in its Subject
abbrev pub other_print : List Bytes
other_print = set centre_key_fields 0 (record_of KMCID (set centre_id_fields 3 (ascii "4712CFF444570C8B")))

abbrev pub said_by : Checked → Bytes
said_by c = c.no ∷ c.field ∷ []

unfoldable pub agreeing : List Value
agreeing = bytes (said_by (check_fingerprint centre_key)) (0 ∷ 0 ∷ []) ∷ []

unfoldable pub differing : List Value
differing = bytes (said_by (check_fingerprint (record_of ECDH other_print))) (15 ∷ 0 ∷ []) ∷ []

-- the record's own numbers come first, and 10 last; the record call does not give 15
unfoldable pub fingerprints : List Value
fingerprints =
    bytes (said (read_record (record_of ECDH other_print))) (0 ∷ 0 ∷ [])
    ∷ bytes (said_by (check_fingerprint (record_of ECDH (set other_print 3 manufacturer_id)))) (8 ∷ 0 ∷ [])
    ∷ bytes (said_by (check_fingerprint unsigned_module_key)) (28 ∷ 0 ∷ [])
    ∷ bytes (said_by (check_fingerprint (ascii "PK.ECDH.1|0000"))) (4 ∷ 0 ∷ [])
    ∷ bytes (said_by (check_fingerprint (ascii "KEY.1|0000"))) (2 ∷ 0 ∷ [])
    ∷ bytes (said_of (write_fingerprint (ascii "PK.ECDH.1|0000") 0)) (4 ∷ 0 ∷ [])
    ∷ bytes (said_of (write_fingerprint (record_of ECDH other_print) 15)) (10 ∷ 0 ∷ [])
    ∷ []

-- ---- document 02, E5: RFC 4231's first test case, cut to 192 bits

unfoldable pub tags : List Value
tags = bytes (base16 (hmac (replicate 20 0x0B) (ascii "Hi There"))) (ascii "AFD03944D84895626B0825F4AB46907F15F9DADBE4101EC6") ∷ []

-- each number in its order, with every later fault present too: no Z is 003's, and no output has room where it is not said
abbrev pub answer3 : Confirmed → Bytes
answer3 c = c.no ∷ c.field ∷ c.which ∷ []

abbrev pub mistyped : Bytes
mistyped = ascii "VKLOAD.REQ.1|0000"

abbrev pub other_z : Bytes
other_z = replicate 96 0

unfoldable pub confirming : List Value
confirming =
    bytes (answer3 (says_of (confirm_request [] mistyped 0 0))) (4 ∷ 0 ∷ 1 ∷ [])
    ∷ bytes (answer3 (says_of (confirm_request [] (record_of RESP response_fields) 0 0))) (2 ∷ 0 ∷ 1 ∷ [])
    ∷ bytes (answer3 (says_of (confirm_request (drop 1 other_z) (record_of REQ request_fields) 0 0))) (16 ∷ 0 ∷ 0 ∷ [])
    ∷ bytes (answer3 (says_of (confirm_request other_z (record_of REQ request_fields) 23 24))) (10 ∷ 0 ∷ 0 ∷ [])
    ∷ bytes (answer3 (says_of (confirm_request other_z (record_of REQ request_fields) 24 23))) (10 ∷ 0 ∷ 0 ∷ [])
    ∷ bytes (answer3 (confirm_response [] mistyped (ascii "VKLOAD.RESP.1|0000"))) (4 ∷ 0 ∷ 1 ∷ [])
    ∷ bytes (answer3 (confirm_response [] (record_of REQ request_fields) (ascii "VKLOAD.RESP.1|0000"))) (4 ∷ 0 ∷ 2 ∷ [])
    ∷ bytes (answer3 (confirm_response (0 ∷ other_z) (record_of REQ request_fields) (record_of RESP (set response_fields 2 leap_day)))) (16 ∷ 0 ∷ 0 ∷ [])
    ∷ bytes (answer3 (confirm_response other_z (record_of REQ request_fields) (record_of RESP (set response_fields 2 leap_day)))) (17 ∷ 0 ∷ 0 ∷ [])
    ∷ []

-- ---- document 02, E6: the published vectors of SHA-1, of one block, of one block and of two

unfoldable pub short_hashes : List Value
short_hashes =
    bytes (base16 (sha1 [])) (ascii "DA39A3EE5E6B4B0D3255BFEF95601890AFD80709")
    ∷ bytes (base16 (sha1 (ascii "abc"))) (ascii "A9993E364706816ABA3E25717850C26C9CD0D89D")
    ∷ bytes (base16 (sha1 (ascii "abcdbcdecdefdefgefghfghighijhijkijkljklmklmnlmnomnopnopq"))) (ascii "84983E441C3BD26EBAAE4AA1F95129E5E54670F1")
    ∷ []

-- the trailer that 003 prints behind the signed record of the module
unfoldable pub printed : List Value
printed = bytes (trailer module_key) (ascii "#03DEF08D021CE970F7A87E2DD999FE7970B67B5F") ∷ []

-- a trailer that is no record's here
abbrev pub no_hash : Bytes
no_hash = ascii "#" ++ replicate 40 (code "0")

-- a line's numbers in their order, each with the later faults present: 19 for whatever has no '#' in its forty-first place from the end, or no HEX(40)
-- after it; the record's own, of which 1 counts what stands before the '#'; 20
unfoldable pub lines : List Value
lines =
    bytes (said (read_trailed [])) (19 ∷ 0 ∷ [])
    ∷ bytes (said (read_trailed response)) (19 ∷ 0 ∷ [])
    ∷ bytes (said (read_trailed (mistyped ++ ascii "%" ++ replicate 40 (code "0")))) (19 ∷ 0 ∷ [])
    ∷ bytes (said (read_trailed (mistyped ++ ascii "#" ++ replicate 40 (code "a")))) (19 ∷ 0 ∷ [])
    ∷ bytes (said (read_trailed (mistyped ++ ascii "#" ++ replicate 39 (code "0")))) (19 ∷ 0 ∷ [])
    ∷ bytes (said (read_trailed (mistyped ++ no_hash ++ ascii " "))) (19 ∷ 0 ∷ [])
    ∷ bytes (said (read_trailed no_hash)) (2 ∷ 0 ∷ [])
    ∷ bytes (said (read_trailed (replicate 1024 (code "A") ++ no_hash))) (2 ∷ 0 ∷ [])
    ∷ bytes (said (read_trailed (replicate 1025 (code "A") ++ no_hash))) (1 ∷ 0 ∷ [])
    ∷ bytes (said (read_trailed (mistyped ++ no_hash))) (4 ∷ 0 ∷ [])
    ∷ bytes (said (read_trailed (record_of RESP (set response_fields 2 april31) ++ no_hash))) (6 ∷ 3 ∷ [])
    ∷ bytes (said (read_trailed (response ++ no_hash))) (20 ∷ 0 ∷ [])
    -- 11 before all of them
    ∷ number (number_of (line_said (trailed_at response 0))) 11
    ∷ number (number_of (line_said (trailed_at (line_feed ∷ []) 0))) 19
    -- writing: the record's own, then 10
    ∷ bytes (said_of (write_trailed mistyped 0)) (4 ∷ 0 ∷ [])
    ∷ bytes (said_of (write_trailed response 259)) (10 ∷ 0 ∷ [])
    ∷ bytes (said_of (write_trailed response 260)) (0 ∷ 0 ∷ [])
    ∷ []

-- ---- document 02, E7: the block that 003 prints of its request, in rows of 64 characters

unfoldable pub posted : List Value
posted =
    bytes (leaves (write_mail request 495) [])
    (joined
    line_feed
    (ascii "--STS:VKLOAD.REQ.1 BEGINS--"
    ∷ ascii "VKLOAD.REQ.1|SMID.1:Prism:06000001:20180120T090000Z:320C265FDC76"
    ∷ ascii "9D3E:8EFF|KMCID.1:sts-KeyAgreement-1.2:TEST1:20180110T120000Z:47"
    ∷ ascii "12CFF444570C8A:4C31|20180125T150000Z|Prism-VSM-1|STS6-001|0473E2"
    ∷ ascii "C294EE44A17A5668ABE67C1F93CBDBCE38DEF4848584C279047A8DDCFFBAE885"
    ∷ ascii "7C2CCC101A50E4ADB1ECDE9E14735B8CBFA88D18BD25F247DF0014298F48BB11"
    ∷ ascii "CA8415320E7AF7172B0B20D5C00D57D04E33D07343EDE185299CF2CA1E10|BE6"
    ∷ ascii "CB4AC631E12EEB5D3F85496042A3274FEAB0477935778|F6B3"
    ∷ ascii "--STS:VKLOAD.REQ.1 ENDS--"
    ∷ []))
    ∷ []

-- a line of a text, and its line feed
abbrev pub line : Bytes → Bytes
line s = s ++ line_feed ∷ []

-- a record in one row between the guards of t; 003's response in rows of other lengths, one of them empty
abbrev pub mailed : Bytes → Bytes → Bytes
mailed t s = guarded t (s ∷ [])

abbrev pub other_rows : List Bytes
other_rows = take 1 response ∷ [] ∷ take 100 (drop 1 response) ∷ drop 101 response ∷ []

-- the numbers of reading in their order, each with the later faults present: 21 where no whole line is a BEGINS line of an IDENT; 22 where no ENDS line behind
-- the first one matches it; the record's own, of which 1 counts the bytes after unfolding and 2 is given where another kind is named; 10
unfoldable pub letters : List Value
letters =
    bytes (said_of (read_mail [] 0)) (21 ∷ 0 ∷ [])
    ∷ bytes (said_of (read_mail response 0)) (21 ∷ 0 ∷ [])
    ∷ bytes (said_of (read_mail (line (ascii "--STS:x ENDS--")) 0)) (21 ∷ 0 ∷ [])
    ∷ bytes (said_of (read_mail (line (ascii "--STS:x BEGINS--" ++ 0x0D ∷ []) ++ line (ascii "--STS:x ENDS--")) 0)) (21 ∷ 0 ∷ [])
    ∷ bytes (said_of (read_mail (ascii " " ++ mailed (ascii "x") response) 0)) (21 ∷ 0 ∷ [])
    ∷ bytes (said_of (read_mail (mailed [] response) 0)) (21 ∷ 0 ∷ [])
    ∷ bytes (said_of (read_mail (mailed (ascii "x y") response) 0)) (21 ∷ 0 ∷ [])
    ∷ bytes (said_of (read_mail (mailed (replicate 33 (code "x")) response) 0)) (21 ∷ 0 ∷ [])
    ∷ bytes (said_of (read_mail (mailed (replicate 32 (code "x")) response) 0)) (2 ∷ 0 ∷ [])
    -- bytes after the last line feed are a line
    ∷ bytes (said_of (read_mail (ascii "--STS:x BEGINS--") 0)) (22 ∷ 0 ∷ [])
    ∷ bytes (said_of (read_mail (line (ascii "--STS:x ENDS--") ++ line (ascii "--STS:x BEGINS--") ++ line (ascii "--STS:y ENDS--")) 0)) (22 ∷ 0 ∷ [])
    ∷ bytes (said_of (read_mail (line (ascii "--STS:x BEGINS--") ++ line (ascii "--STS:x ENDS--" ++ 0x0D ∷ [])) 0)) (22 ∷ 0 ∷ [])
    ∷ bytes (said_of (read_mail (line (ascii "--STS:x BEGINS--") ++ ascii "--STS:x ENDS--") 0)) (2 ∷ 0 ∷ [])
    -- after unfolding
    ∷ bytes (said_of (read_mail (guarded (ascii "x") (replicate 1000 (code "A") ∷ replicate 25 (code "A") ∷ [])) 0)) (1 ∷ 0 ∷ [])
    ∷ bytes (said_of (read_mail (guarded (ascii "x") (replicate 1000 (code "A") ∷ replicate 24 (code "A") ∷ [])) 0)) (2 ∷ 0 ∷ [])
    -- another kind, an identity's kind, no kind
    ∷ bytes (said_of (read_mail (mailed (name RESP) mistyped) 0)) (2 ∷ 0 ∷ [])
    ∷ bytes (said_of (read_mail (mailed (name SMID) module_id) 0)) (2 ∷ 0 ∷ [])
    ∷ bytes (said_of (read_mail (mailed (ascii "vkload.resp.1") response) 0)) (2 ∷ 0 ∷ [])
    ∷ bytes (said_of (read_mail (mailed (name REQ) mistyped) 0)) (4 ∷ 0 ∷ [])
    ∷ bytes (said_of (read_mail (mailed (name RESP) (record_of RESP (set response_fields 2 april31))) 0)) (6 ∷ 3 ∷ [])
    ∷ bytes (said_of (read_mail (mailed (name RESP) response) 218)) (10 ∷ 0 ∷ [])
    -- the first block decides
    ∷ bytes (said_of (read_mail (mailed (name REQ) mistyped ++ mailed (name RESP) response) 219)) (4 ∷ 0 ∷ [])
    -- rows of any length, text before and behind; past the record the output stays
    ∷ bytes (leaves (read_mail (line (ascii "Dear all,") ++ guarded (name RESP) other_rows ++ ascii "Regards") 220) (replicate 220 0)) (response ++ 0 ∷ [])
    -- writing: the record's own, then 10
    ∷ bytes (said_of (write_mail mistyped 0)) (4 ∷ 0 ∷ [])
    ∷ bytes (said_of (write_mail module_id 0)) (2 ∷ 0 ∷ [])
    ∷ bytes (said_of (write_mail response 278)) (10 ∷ 0 ∷ [])
    ∷ bytes (said_of (write_mail response 279)) (0 ∷ 0 ∷ [])
    ∷ []

-- ---- document 02, E9: seconds since 19930101T000000Z, before and after

abbrev pub at : Bytes → ℤ
at s = (moment_of s).seconds

abbrev pub midnight : Bytes → ℤ
midnight s = at (s ++ ascii "T000000Z")

-- the number of 20210110T120000Z
abbrev pub centre_number : Bytes
centre_number = 0 ∷ 0 ∷ 0 ∷ 0 ∷ 0x34 ∷ 0xB7 ∷ 0x62 ∷ 0xC0 ∷ []

unfoldable pub instants : List Value
instants =
    signed (midnight (ascii "19930101")) (pos 0)
    ∷ signed (at (ascii "19930101T000001Z")) (pos 1)
    ∷ signed (at (ascii "19921231T235959Z")) (negsuc 0)
    -- both ends of the range
    ∷ signed (midnight (ascii "00010101")) (negsuc 62861443199)
    ∷ signed (at (ascii "99991231T235959Z")) (pos 252676454399)
    -- leap days on both sides and the days after them; 1900 has none
    ∷ signed (midnight (ascii "19920229")) (negsuc 26524799)
    ∷ signed (midnight (ascii "19920301")) (negsuc 26438399)
    ∷ signed (midnight (ascii "19960229")) (pos 99705600)
    ∷ signed (midnight (ascii "19960301")) (pos 99792000)
    ∷ signed (midnight (ascii "20000229")) (pos 225936000)
    ∷ signed (midnight (ascii "24000229")) (pos 12848716800)
    ∷ signed (midnight (ascii "19000228")) (negsuc 2929823999)
    ∷ signed (midnight (ascii "19000301")) (negsuc 2929737599)
    -- around 1970 and 2000
    ∷ signed (at (ascii "19691231T235959Z")) (negsuc 725846400)
    ∷ signed (midnight (ascii "19700101")) (negsuc 725846399)
    ∷ signed (at (ascii "19991231T235959Z")) (pos 220838399)
    ∷ signed (midnight (ascii "20000101")) (pos 220838400)
    -- no TIMESTAMP
    ∷ signed (midnight (ascii "19000229")) (pos 0)
    ∷ test (moment_of (ascii "19000229T000000Z")).valid false
    ∷ test (moment_of (ascii "19930101T000000Z")).valid true
    -- 003's key of the centre expires at 20210110T120000Z; a request is refused as it is by the cabinet
    ∷ signed (expiry_of centre_key).seconds (pos 884433600)
    ∷ number (expiry_of request).no 2
    ∷ signed (expiry_of request).seconds (pos 0)
    -- eight bytes
    ∷ bytes (seconds_bytes (pos 884433600)) centre_number
    ∷ bytes (seconds_bytes (negsuc 0)) (replicate 8 0xFF)
    ∷ bytes (seconds_bytes (negsuc 62861443199)) (0xFF ∷ 0xFF ∷ 0xFF ∷ 0xF1 ∷ 0x5D ∷ 0x2A ∷ 0x7F ∷ 0x80 ∷ [])
    ∷ []

-- ---- document 02, E8, E9 and E10: what is read for a place, and what may stand in one

abbrev pub reading_said : Reading → Bytes
reading_said (about (named kind maker id) g) = joined (code ":") (kind ∷ maker ∷ id ∷ g ∷ [])
reading_said (declined n i) = n ∷ i ∷ []

abbrev pub is_place : Option shelf.Place → Bool
is_place none = false
is_place (some p) = true

-- the bytes of a place that begins so, and zeros; and with a TVP and the eight bytes of a number at its end
abbrev pub padded : Bytes → Bytes
padded s = take 1024 (s ++ replicate 1024 0)

abbrev pub stamped : Bytes → Bytes → Bytes → Bytes
stamped s t v = take 1000 (s ++ replicate 1000 0) ++ t ++ v

abbrev pub numbered : Bytes → Bytes → Bytes
numbered s v = stamped s (ascii "19930101T000000Z") v

unfoldable pub placed : List Value
placed =
    bytes (reading_said (asks module_id)) (ascii "SMID.1:Prism:06000001:20180120T090000Z:")
    ∷ bytes (reading_said (reads centre_key)) (ascii "KMCID.1:sts-KeyAgreement-1.2:TEST1:20180110T120000Z:")
    ∷ bytes (reading_said (reads request)) (2 ∷ 0 ∷ [])
    ∷ bytes (reading_said (asks centre_key)) (2 ∷ 0 ∷ [])
    -- all zeros, a public key with zeros, a TVP and its number; no number, one second more, the other end first, a byte after the zeros, a zero in front, a record of another
    -- kind, an identity
    ∷ test (is_place (decode (padded []))) true
    ∷ test (is_place (decode (numbered centre_key centre_number))) true
    ∷ test (is_place (decode (padded centre_key))) false
    ∷ test (is_place (decode (numbered centre_key (set centre_number 7 0xC1)))) false
    ∷ test (is_place (decode (numbered centre_key (0xC0 ∷ 0x62 ∷ 0xB7 ∷ 0x34 ∷ 0 ∷ 0 ∷ 0 ∷ 0 ∷ [])))) false
    ∷ test (is_place (decode (set (numbered centre_key centre_number) 999 1))) false
    ∷ test (is_place (decode (numbered (0 ∷ centre_key) centre_number))) false
    ∷ test (is_place (decode (padded request))) false
    ∷ test (is_place (decode (padded module_id))) false
    ∷ []

-- ---- document 02, E10: what is read of a request, and which TVP may stand in a place

unfoldable pub admissions : List Value
admissions =
    bytes (reading_said (requests request)) (ascii "SMID.1:Prism:06000001:20180125T150000Z:")
    ∷ bytes (reading_said (requests response)) (2 ∷ 0 ∷ [])
    ∷ bytes (reading_said (requests centre_key)) (2 ∷ 0 ∷ [])
    -- the start and the last second; a second before the start, the thirty-first of April, a small letter, a blank more, zeros
    ∷ test (is_tvp (ascii "19930101T000000Z")) true
    ∷ test (is_tvp (ascii "99991231T235959Z")) true
    ∷ test (is_tvp (ascii "19921231T235959Z")) false
    ∷ test (is_tvp (ascii "20230431T000000Z")) false
    ∷ test (is_tvp (ascii "20180125t150000Z")) false
    ∷ test (is_tvp (ascii "20180125T150000Z ")) false
    ∷ test (is_tvp (replicate 16 0)) false
    -- in its place
    ∷ test (is_place (decode (stamped centre_key (ascii "20180125T150000Z") centre_number))) true
    ∷ test (is_place (decode (stamped centre_key (ascii "19921231T235959Z") centre_number))) false
    ∷ test (is_place (decode (stamped centre_key (replicate 16 0) centre_number))) false
    ∷ []

-- ---- document 02, E11: the unsigned key of a module

-- 28 in reading and building, after 8 and before 10; signed, or a centre's or a manufacturer's: 0
unfoldable pub unsigned_keys : List Value
unsigned_keys =
    bytes (said (read_record unsigned_module_key)) (28 ∷ 0 ∷ [])
    ∷ bytes (said (read_record module_key)) (0 ∷ 0 ∷ [])
    ∷ bytes (said (read_record centre_key)) (0 ∷ 0 ∷ [])
    ∷ bytes (said (read_record (record_of ECDSA unsigned_key_fields))) (0 ∷ 0 ∷ [])
    ∷ bytes (said (read_record (record_of ECDH (take 4 module_key_fields ++ [] ∷ [])))) (8 ∷ 0 ∷ [])
    ∷ bytes (said (read_record (record_of ECDH (set unsigned_module_fields 2 [])))) (6 ∷ 3 ∷ [])
    ∷ bytes (said (read_under UpToE10 pubkey_kinds unsigned_module_key)) (0 ∷ 0 ∷ [])
    ∷ bytes (said_of (build (name ECDH) (run unsigned_module_fields) (lengths unsigned_module_fields) 0)) (28 ∷ 0 ∷ [])
    ∷ bytes (said_of (build (name ECDH) (run module_key_fields) (lengths module_key_fields) 0)) (10 ∷ 0 ∷ [])
    ∷ []

-- the number of 99991231T115959Z
abbrev pub module_number : Bytes
module_number = 0 ∷ 0 ∷ 0 ∷ 0x3A ∷ 0xD4 ∷ 0xB0 ∷ 0x0F ∷ 0x3F ∷ []

-- it is not put, and stays where it lay
unfoldable pub olds : List Value
olds =
    bytes (reading_said (reads unsigned_module_key)) (28 ∷ 0 ∷ [])
    ∷ bytes (reading_said (stands unsigned_module_key)) (ascii "SMID.1:Prism:06000001:20180120T090000Z:")
    ∷ test (is_place (decode (numbered unsigned_module_key module_number))) true
    ∷ test (is_place (decode (padded unsigned_module_key))) false
    ∷ test (is_old unsigned_module_key) true
    ∷ test (is_old module_key) false
    ∷ test (is_old centre_key) false
    ∷ number (choice_no (newer unsigned_module_key module_key)) 28
    ∷ number (expiry_of unsigned_module_key).no 28
    ∷ []

unfoldable pub fixed : List Value
fixed = rows ++ alphabets ++ limits ++ labels ++ checks ++ numbers ++ building ++ texts ++ others ++ lists ++ keys ++ long_keys ++ days ++ dates ++ hashes ++ agreeing ++ differing ++ fingerprints ++ tags ++ confirming ++ short_hashes ++ printed ++ lines ++ posted ++ letters ++ instants ++ placed ++ admissions ++ unsigned_keys ++ olds
