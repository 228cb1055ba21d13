-- What meets the conditions of the promises, computed from 003's records.
-- Assumes nothing.
use Prim.Native.Nat.{ℕ, zero, suc, ◌+◌, ◌≤◌, ◌<◌}
use Prim.Native.Char.{code}
use mathlib.Core.Path.{◌≡◌, refl, sym, ap, ◌∙◌}
use mathlib.Core.Logic.{inl, inr}
use mathlib.Core.Bool.{true}
use mathlib.Core.List.Memᴰ
use mathlib.Core.List.{List, [], ◌∷◌, ◌++◌}
use native.Mathlib.Omega.{arith}
use lib.ListN.{length, drop, get_or, replicate, length-drop, length-replicate}
use lib.Seq.{drop-cons}
use borrow.Author.Tests.{le-leb, lt-leb}
use denote.Ref.{Bor, MutBor}
use lib.Dec.{T, eqb}
use mir.Facts.{yes_and, yes_eqb}
use Rattle.text.specs.Calendar.{days_before, sum_to}
use Rattle.text.specs.Text.{Bytes, ascii, every, hexadecimal, TextType, Ident, Timestamp, Point, Sig, Mac, Print, Protected, Hex, is_of, looks, number_from, is_ident, is_timestamp, is_hex, is_point, is_protected}
use Rattle.text.specs.Seconds.{moment_of, seconds, since_year_one}
use Rattle.format.specs.Kinds.{Kind, SMID, KMCID, ECDH, REQ, KEY, among, identity_kinds, record_kinds, pubkey_kinds, key_kinds}
use Rattle.format.specs.Attributes.{cards_in}
use Rattle.format.specs.Build.{record_of, IsIdentity, Permitted}
use Rattle.format.specs.Read.{Outcome, accepted, refused, place, read_identity, read_of, read_record}
use Rattle.format.specs.declared.Rules.TheVariants.{UpToE10}
use Rattle.format.proofs.Exactly.{identity_exact, under_exact, read_exact, record_exact}
use Rattle.format.proofs.Earlier.{no_more_accepts, unsigned_is}
use Rattle.format.specs.Files.{line_feed, line_at_over, line_at}
use Rattle.subjects.specs.Subjects.{alike}
use Rattle.files.specs.declared.Line.{Line}
use Rattle.files.specs.declared.Reader.{Reader}
use Rattle.files.specs.Walk.{line_said, next_of}
use Rattle.files.specs.Steps as steps
use Rattle.files.specs.Steps.{Steps}
use Rattle.text.specs.Later.{later}
use Rattle.text.proofs.Later.{later_itself}
use Rattle.numbers.specs.Numbers.{not_later, not_there, tvp_not_later, module_unsigned}
use Rattle.subjects.specs.Keys.{KeyUnder}
use Rattle.subjects.specs.Requests.{Request}
use Rattle.shelf.specs.Cabinet.{is_old, put_key, remove_key, admit, find_key, count_keys}
use Rattle.shelf.proofs.Readings.{asks_accepted, requests_accepted}
use Rattle.newer.specs.Newer.{theFirst, theSecond, newer}
use Rattle.newer.specs.Keys.{Key, Agreed}
use Rattle.newer.proofs.Choosing.{newer_keys}
use Rattle.fields.specs.Fields.{wanted_part, wanted_no, wanted_start}
use Rattle.promises.proofs.Statements.Rebuilding as asked
use Rattle.promises.proofs.Statements.Rebuilding.{Asked, IdentityField, RecordField}
use Rattle.trailed.specs.Trailed.{read_trailed}
use Rattle.mail.specs.Mail.{is_begins, PassedOver}
use Rattle.promises.proofs.Statements.Dates.{Follows}
use Rattle.promises.proofs.Statements.Files.{PlainSays}
use Rattle.promises.proofs.Statements.Trailed.{TrailedSays}
use Rattle.promises.proofs.Statements.Demand3.{Called, none, more}
use Rattle.promises.proofs.Cabinet.{empty_cabinet, first_done, again, admitted_once, refused_then, old_image, old_cabinet, old_counted, old_missed, old_unknown, old_not_later, old_own, old_removed}
use Rattle.promises.proofs.Statements.Cabinet.{IsCabinet}
use Rattle.promises.specs.Worked.{module_id_fields, module_id, module_key_fields, module_key, centre_id_fields, centre_id, centre_key_fields, centre_key, request_fields, request, key_attributes, key_fields, key, fields_of_worked, later_id_fields, later_key_fields, later_key, unsigned_module_fields, unsigned_module_key}
use Rattle.promises.proofs.Statements.Attributes.{Wrapped}
use Rattle.promises.proofs.Attributes.{wrapped}
use Rattle.promises.proofs.Permitted.{names_permitted, is_sm, permitted, unsigned, unsigned-module, later_permitted, built_of}
use Rattle.promises.proofs.DamagedFile.{damaged, caught, damaged_trailed, caught_trailed, flipped, flipped_caught, flipped_trailed, flipped_caught_trailed}
use Rattle.promises.proofs.Statements.Witnesses.{Witnesses}

-- ---- a text of each type

hex_zeros : (n : ℕ) → T (every hexadecimal (replicate n (code "0")))
hex_zeros zero = tt
hex_zeros (suc n) = hex_zeros n

texts : (t : TextType) → (s : Bytes) × T (is_of t s)
unfolding is_ident is_timestamp looks number_from is_hex is_point is_protected
texts Ident = (ascii "A", tt)
texts Timestamp = (ascii "20180120T090000Z", tt)
texts Point = (ascii "04" ++ replicate 192 (code "0"), tt)
texts Sig = (replicate 192 (code "0"), tt)
texts Mac = (replicate 48 (code "0"), tt)
texts Print = (replicate 16 (code "0"), tt)
texts Protected = (replicate 32 (code "0"), tt)
texts (Hex n) = (replicate n (code "0"), yes_and (eqb (length (replicate n (code "0"))) n) _ (yes_eqb (length-replicate n (code "0"))) (hex_zeros n))

-- ---- two public keys

known_as : (who : Kind) (names : List Bytes) → T (among who identity_kinds) → Permitted who names → read_identity (record_of who names) ≡ accepted who names
known_as who names t q = (identity_exact (record_of who names) who names).1 (built_of identity_kinds who names t q)

key-of : (who : Kind) → T (among who identity_kinds) → (fs names : List Bytes) → Permitted ECDH fs → get_or fs 0 [] ≡ record_of who names → Permitted who names → Key (record_of ECDH fs)
key-of who t fs names p e q = record {
  kind = ECDH;
  fields = fs;
  is = (read_exact pubkey_kinds (record_of ECDH fs) ECDH fs).1 (built_of pubkey_kinds ECDH fs tt p);
  who = who;
  names = names;
  known = ap read_identity e ∙ known_as who names t q;
}

centre : Key centre_key
unfolding centre_key centre_key_fields centre_id
centre = key-of KMCID tt centre_key_fields centre_id_fields unsigned.1 refl (names_permitted IsIdentity).2

later_centre : Key later_key
unfolding later_key later_key_fields centre_key_fields
later_centre = key-of KMCID tt later_key_fields later_id_fields later_permitted refl (names_permitted IsIdentity).3

-- ---- the key of a module, and its request

module-key : Key module_key
unfolding module_key module_key_fields module_id fields_of_worked
module-key = key-of SMID tt module_key_fields module_id_fields (permitted ECDH) refl (names_permitted IsIdentity).1

module_request : Request request
unfolding request request_fields module_id fields_of_worked
module_request = record {
  fields = request_fields;
  is = (read_exact (REQ ∷ []) (record_of REQ request_fields) REQ request_fields).1 (built_of (REQ ∷ []) REQ request_fields tt (permitted REQ));
  names = module_id_fields;
  known = known_as SMID module_id_fields tt (names_permitted IsIdentity).1;
}

-- ---- the same key before it was signed, which is old

old_key : KeyUnder UpToE10 unsigned_module_key
unfolding unsigned_module_key unsigned_module_fields module_key_fields module_id
old_key = record {
  kind = ECDH;
  fields = unsigned_module_fields;
  is = (under_exact UpToE10 pubkey_kinds (record_of ECDH unsigned_module_fields) ECDH unsigned_module_fields).1 (record { of-kind = tt; permitted = unsigned-module; built = refl });
  who = SMID;
  names = module_id_fields;
  known = known_as SMID module_id_fields tt (names_permitted IsIdentity).1;
}

ended : read_of pubkey_kinds unsigned_module_key ≡ refused module_unsigned 0
unfolding unsigned_module_fields module_key_fields old_key
ended = no_more_accepts pubkey_kinds unsigned_module_key ECDH unsigned_module_fields old_key.is ((unsigned_is ECDH unsigned_module_fields unsigned-module).1 (refl, is_sm, refl))

is-old : is_old unsigned_module_key ≡ true
unfolding is_old
is-old = rw ended

old_one : (s : Bytes) × IsCabinet s × (count_keys s ≡ record { no = 0; count = 1 }) × ((find_key s module_id).no ≡ not_there) × ((admit s request).no ≡ not_there)
    × ((put_key s module_key).no ≡ not_later) × ((put_key s unsigned_module_key).no ≡ module_unsigned) × ((remove_key s module_id).no ≡ 0)
unfolding old_key module-key key-of module_request module_id
old_one =
    let asks_it = asks_accepted module_id old_key.known in (
      old_image unsigned_module_key old_key is-old,
      old_cabinet unsigned_module_key old_key is-old,
      old_counted unsigned_module_key old_key is-old,
      old_missed unsigned_module_key old_key is-old module_id _ asks_it,
      old_unknown unsigned_module_key old_key is-old request _ (requests_accepted request module_request),
      old_not_later unsigned_module_key old_key is-old module_key module-key refl (later_itself _),
      old_own unsigned_module_key old_key is-old unsigned_module_key module_unsigned 0 ended,
      old_removed unsigned_module_key old_key is-old module_id _ asks_it,
    )

admitted_first : ((admit (put_key (replicate 65536 0) module_key).bytes request).no ≡ 0) × ((admit (admit (put_key (replicate 65536 0) module_key).bytes request).bytes request).no ≡ tvp_not_later)
unfolding module-key key-of module_request request_fields later moment_of seconds since_year_one days_before sum_to is_timestamp looks number_from
admitted_first = (admitted_once module_key module-key request module_request refl refl, refused_then module_key module-key request module_request refl refl)

-- ---- which of two public keys is the newer

agreed : Agreed centre_key later_key
unfolding centre later_centre key-of centre_id_fields later_id_fields
agreed = record { one = centre; other = later_centre; kinds = refl; manufacturers = refl; mids = refl }

choices : (newer centre_key later_key ≡ theSecond) × (newer later_key centre_key ≡ theFirst) × (newer centre_key centre_key ≡ theFirst)
unfolding centre later_centre key-of centre_id_fields later_id_fields alike later moment_of is_timestamp looks number_from seconds since_year_one days_before sum_to
choices = (newer_keys _ _ centre later_centre, newer_keys _ _ later_centre centre, newer_keys _ _ centre centre)

-- ---- a wrapped key

wrapped_key : Wrapped key key_fields (cards_in key_attributes) × (length (cards_in key_attributes) ≡ 7)
unfolding key key_fields key_attributes fields_of_worked
wrapped_key = ((wrapped key key_fields (built_of key_kinds KEY key_fields tt (permitted KEY))).0, refl)

-- ---- calls and steps

-- a file call that may answer what is said of the line at a place, where `call` is asked about the lines
module _ (call : Bytes → Outcome) (Says : Bor Bytes → ℕ → Line → Type 0) (lent : Bor Bytes) (says : (place : ℕ) → Says lent place (line_said (line_at_over call lent.now place))) where
  calls : (n place : ℕ) → (ls : List Line) × Called Says lent place ls × (length ls ≡ n)
  calls zero place = ([], none, refl)
  calls (suc n) place =
      let l : Line = line_said (line_at_over call lent.now place) in
      let (ls, c, e) = calls n (next_of l) in
      (l ∷ ls, more (says place) c, ap suc e)

stepped : (n : ℕ) (before : Reader) → (said : List Line) × ((after : Reader) × Steps before said after × (length said ≡ n))
stepped zero before = ([], (before, steps.none, refl))
stepped (suc n) before =
    let l : Line = line_said (line_at before.file.now before.place) in
    let next : Reader = record { file = before.file; place = next_of l } in
    let (said, (after, s, e)) = stepped n next in
    (l ∷ said, (after, steps.more (record { its_line = refl; same_file = refl; its_place = refl }) s, ap suc e))

-- ---- one field after another

-- the part of the lent bytes that starts there
part_of : Bor Bytes → ℕ → Bytes → Bor Bytes
part_of lent start bytes = record { ref_ptr = (lent.ref_ptr.0, start + lent.ref_ptr.1); now = bytes }

-- a number behind a pointer
behind_it : ℕ → MutBor ℕ
behind_it n = record { ref_ptr = (0, 0); ghost_name = 0; now = n }

-- a field call that says what reading says, o, hands back any field
module _ (lent : Bor Bytes) (n : ℕ) where
  identity_call : let o = read_identity lent.now in IdentityField lent n (wanted_part o n) (wanted_no o n)
  unfolding part_of behind_it
  identity_call =
      let o = read_identity lent.now in (
        ([], ([], ([], tt))),
        (
          (lent, (n, (behind_it 0, (behind_it 0, tt)))),
          (
            part_of lent (wanted_start o n) (wanted_part o n),
            (
              (lent, (n, (behind_it (wanted_no o n), (behind_it (place o), tt)))),
              (record { its_part = record { stands = refl; holds = refl }; its_no = refl; its_field = refl }, (refl, refl, refl, refl)),
            ),
          ),
        ),
      )

  record_call : let o = read_record lent.now in RecordField lent n (wanted_part o n) (wanted_no o n)
  unfolding part_of behind_it
  record_call =
      let o = read_record lent.now in (
        ([], ([], ([], tt))),
        (
          (lent, (n, (behind_it 0, (behind_it 0, tt)))),
          (
            part_of lent (wanted_start o n) (wanted_part o n),
            (
              (lent, (n, (behind_it (wanted_no o n), (behind_it (place o), tt)))),
              (record { its_part = record { stands = refl; holds = refl }; its_no = refl; its_field = refl }, (refl, refl, refl, refl)),
            ),
          ),
        ),
      )

module _ (Says : ℕ → Bytes → ℕ → Type 0) (k : Kind) (fs : List Bytes) (call : (n : ℕ) → Says n (wanted_part (accepted k fs) n) (wanted_no (accepted k fs) n)) where
  ask_all : (n : ℕ) (xs : List Bytes) → drop n fs ≡ xs → Asked Says (suc n) xs
  unfolding wanted_part wanted_no
  ask_all n [] e =
      let past : length fs ≤ n = omega (arith, length-drop n fs, ap length e) in
      asked.none (rw (le-leb 1 (suc n) (omega arith), lt-leb (suc n) (length fs) (omega arith)) at (call (suc n)))
  ask_all n (x ∷ xs) e =
      let inside : n < length fs = omega (arith, length-drop n fs, ap length e) in
      let here : get_or fs n [] ∷ drop (suc n) fs ≡ x ∷ xs = sym (drop-cons fs n [] inside) ∙ e in
      let first : get_or fs n [] ≡ x = cc in
      asked.more (rw (le-leb 1 (suc n) (omega arith), le-leb (suc n) (length fs) inside, first) at (call (suc n))) (ask_all (suc n) xs (cc))

passed_over : PassedOver (ascii "Dear all," ++ line_feed ∷ [])
unfolding is_begins is_ident
passed_over = record { ended = refl; unopened = λ l i. rw (Memᴰ.eq_of_singleton i) tt }

next_days : Follows (ascii "20000228T235959Z") (ascii "20000229T235959Z") × Follows (ascii "20000229T000000Z") (ascii "20000301T000000Z") × Follows (ascii "19921231T120000Z") (ascii "19930101T120000Z")
unfolding is_timestamp looks number_from
next_days = ((tt, tt, inl (refl, refl, refl), refl), (tt, tt, inr (inl (refl, refl, refl, refl)), refl), (tt, tt, inr (inr (refl, refl, refl, refl, refl)), refl))

pub witnesses : Witnesses
unfolding request request_fields fields_of_worked
witnesses = record {
  texts = texts;
  permitted = permitted;
  unsigned = unsigned;
  identity_accepted = λ k t. (identity_exact (record_of k (fields_of_worked k)) k (fields_of_worked k)).1 (built_of identity_kinds k (fields_of_worked k) t (permitted k));
  record_accepted = λ k t. (record_exact (record_of k (fields_of_worked k)) k (fields_of_worked k)).1 (built_of record_kinds k (fields_of_worked k) t (permitted k));
  builds = λ k. record { named_so = refl; lengths_so = refl; bytes_so = refl; permitted_so = permitted k; room_so = omega arith };
  identity_asked = λ lent k fs e. ask_all (IdentityField lent) k fs (λ n. rw e at (identity_call lent n)) 0 fs refl;
  record_asked = λ lent k fs e. ask_all (RecordField lent) k fs (λ n. rw e at (record_call lent n)) 0 fs refl;
  requested = built_of (REQ ∷ []) REQ request_fields tt (permitted REQ);
  wrapped_key = wrapped_key;
  agreed = agreed;
  second_newer = choices.0;
  first_newer = choices.1;
  first_when_equal = choices.2;
  called = λ lent. calls read_record PlainSays lent (λ place. (([], tt), ((lent, (place, tt)), refl)));
  called_trailed = λ lent. calls read_trailed TrailedSays lent (λ place. (([], tt), ((lent, (place, tt)), refl)));
  stepped = stepped;
  damaged = damaged;
  caught = caught;
  damaged_trailed = damaged_trailed;
  caught_trailed = caught_trailed;
  flipped = flipped;
  flipped_caught = flipped_caught;
  flipped_trailed = flipped_trailed;
  flipped_caught_trailed = flipped_caught_trailed;
  passed_over = passed_over;
  next_days = next_days;
  empty_cabinet = empty_cabinet;
  filled = first_done centre_key centre;
  equal_gnt = again centre_key centre;
  admitted_once = λ s e. rw e admitted_first;
  old_one = old_one;
}
