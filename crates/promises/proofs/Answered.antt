-- What holds of the number and the field's number of a reading holds of what the calls above it answer, where it holds of the numbers that
-- these add with field number 0.
-- Assumes nothing.
use Prim.Native.Nat.{ℕ, ◌-◌, ◌*◌}
use mathlib.Core.Path.{◌≡◌, refl}
use mathlib.Core.Bool.{Bool, true, false, cond, ◌&&◌}
use mathlib.Core.Option.{Option, none, some}
use mathlib.Core.List.{List, [], ◌∷◌}
use lib.Dec.{leb, eqb}
use lib.ListN.{length, take, drop}
use Rattle.text.specs.Text.{Bytes, same, between}
use Rattle.text.specs.Later.{later}
use Rattle.text.proofs.Tests.{T_true, T_false, by_test}
use Rattle.numbers.specs.Numbers.{too_long, unknown_kind, wrong_count, short_output, unfinished, missing_item, not_alike, wrong_fingerprint, wrong_z, other_request, wrong_tag, missing_trailer, wrong_hash, missing_begins, missing_ends, not_cabinet, not_later, no_place, not_there, tvp_not_later}
use Rattle.format.specs.Kinds.{Kind, REQ, fields_of, record_kinds, pubkey_kinds, all_kinds}
use Rattle.format.specs.Build.{record_of, longest_record}
use Rattle.format.specs.Read.{Outcome, accepted, refused, answer, place, provided, judged, read_identity, read_under, read_of, read_record}
use Rattle.format.specs.declared.Rules.{Rules}
use Rattle.format.specs.declared.Rules.TheVariants.{Today}
use Rattle.format.specs.Files.{line_at_over}
use Rattle.format.proofs.Outcomes.{provided_law, of_kind_law}
use Rattle.format.proofs.Lines.{at_end, at_line, at_unfinished, by_place}
use Rattle.table.specs.Table.{missing_row, kind_of, count_of, named}
use Rattle.places.specs.Places.{parts_from}
use Rattle.reading.specs.Reading.{answer_of, judged_by, judged_said, judge}
use Rattle.fields.specs.Fields.{wanted_no}
use Rattle.fields.specs.Attributes.{cards_said, attribute_no}
use Rattle.put.specs.Made.{made, denied, says}
use Rattle.building.specs.Building.{sum, pieces, build_as, build_of, record_made, build}
use Rattle.given.specs.Given.{given}
use Rattle.files.specs.Walk.{line_said, last_line, number_of, field_of}
use Rattle.files.specs.declared.Line.TheVariants.{Finished, Read}
use Rattle.trailed.specs.Trailed.{trailer, record_in, trailer_in, is_trailer, only_if, read_trailed}
use Rattle.mail.specs.Mail.{lines_in, alone, read_found, read_mail}
use Rattle.mail.proofs.Blocks.{opened_found}
use Rattle.expiry.specs.Expiry.{expiry_by, expiry_under}
use Rattle.shelf.specs.Places.{Names, Held, Place, holds, lookup, lowest, any_free}
use Rattle.shelf.specs.Cabinet.{places, width, Reading, about, declined, asks, reads, requests, zeros, shelf, put_at, put_read, remove_at, remove_read, unless_old, admit_at, admit_read, leaving, told, on_places, make_cabinet, put_key, remove_key, admit, found_at, find_read, find_in, find_key, count_in, count_keys, check_cabinet}
use Rattle.shelf.proofs.Readings.{asks_own, reads_own, requests_own}
use Rattle.subjects.specs.Subjects.{gnt, alike}
use Rattle.fingerprint.specs.Fingerprint.{right_print, print_in, check_by}
use Rattle.confirm.specs.Confirm as confirm
use Rattle.confirm.specs.Confirm.{mac_key, kek, module_tag, centre_tag, request_tag, response_tag, answers, denies, says_of, request_by, response_by}
use Rattle.newer.specs.Newer.{theFirst, theSecond, no_choice, by_subjects, by_records, newer, choice_no, choice_field, subject}

module _ (P : ℕ → ℕ → Type 0) (z : P 0 0) where
  abbrev pub Of : Outcome → Type 0
  Of o = P (answer o) (place o)

  pub answered : (o : Outcome) → Of o → P (answer_of o).no (answer_of o).field
  answered (accepted k fs) h = h
  answered (refused n i) h = h

  or_missing : (b : Bool) → P missing_item 0 → P (cond b 0 missing_item) 0
  or_missing true more = z
  or_missing false more = more

  -- one field: 12 besides
  pub wanted_answered : (o : Outcome) (wanted : ℕ) → Of o → P missing_item 0 → P (wanted_no o wanted) (place o)
  unfolding wanted_no
  wanted_answered (accepted k fs) wanted h more = or_missing (between 1 (length fs) wanted) more
  wanted_answered (refused n i) wanted h more = h

  -- one attribute: 12 besides
  pub attribute_answered : (o : Outcome) (wanted : ℕ) → Of o → P missing_item 0 → P (attribute_no o wanted) (place o)
  unfolding attribute_no
  attribute_answered (accepted k fs) wanted h more = or_missing (between 1 (length (cards_said (accepted k fs))) wanted) more
  attribute_answered (refused n i) wanted h more = h

  -- what is written of a record: 10 besides
  pub given_answered : (bytes : Kind → List Bytes → Bytes) (room : ℕ) (o : Outcome) → Of o → P short_output 0
      → P (says (given bytes room o)).no (says (given bytes room o)).field
  given_answered bytes room (accepted k fs) h more = go (leb (length (bytes k fs)) room)
    where
      go : (b : Bool) → let m = cond b (made (bytes k fs)) (denied short_output 0) in P (says m).no (says m).field
      go true = z
      go false = more
  given_answered bytes room (refused n i) h more = h

  -- the Fingerprint of a public key, checked: 15 besides
  pub check_answered : (o : Outcome) → Of o → P wrong_fingerprint 0 → P (check_by o).no (check_by o).field
  check_answered (accepted k fs) h more = go (same (print_in (read_identity (subject fs))) (right_print fs))
    where
      go : (b : Bool) → P (cond b 0 wrong_fingerprint) 0
      go true = z
      go false = more
  check_answered (refused n i) h more = h

  -- confirmation tags: 16 and 18 besides; of a request 10, of a response 17
  pub request_answered : (x : Bytes) (m k : ℕ) (o : Outcome) → Of o → P wrong_z 0 → P short_output 0 → P wrong_tag 0
      → let r = says_of (request_by x m k o) in P r.no r.field
  request_answered x m k (accepted j fs) h long short tag = go (eqb (length x) 96) (leb 24 m && leb 24 k) (same (request_tag fs) (module_tag x fs))
    where
      go : (a b c : Bool)
          → let r = says_of (cond a (cond b (cond c (confirm.keys (mac_key x fs) (kek x fs)) (denies wrong_tag 0 0)) (denies short_output 0 0)) (denies wrong_z 0 0)) in P r.no r.field
      go true true true = z
      go true true false = tag
      go true false c = short
      go false b c = long
  request_answered x m k (refused n i) h long short tag = h

  pub response_answered : (x : Bytes) (o p : Outcome) → Of o → Of p → P wrong_z 0 → P other_request 0 → P wrong_tag 0
      → P (response_by x o p).no (response_by x o p).field
  response_answered x (accepted j fs) (accepted k gs) h g long other tag = go (eqb (length x) 96) (answers fs gs) (same (response_tag gs) (centre_tag x fs))
    where
      go : (a b c : Bool) → P (cond a (cond b (cond c 0 wrong_tag) other_request) wrong_z) 0
      go true true true = z
      go true true false = tag
      go true false c = other
      go false b c = long
  response_answered x (accepted j fs) (refused n i) h g long other tag = g
  response_answered x (refused n i) p h g long other tag = h

  -- the fields alone: 2 besides; a building: 2, 5, 1 and 10
  module _ (fields : (k : Kind) (fs : List Bytes) (o : Outcome) → Of o → Of (judged Today read_identity k fs o)) (kind : P unknown_kind 0) where
    judged_answered : (o : Outcome) → Of o → P (judged_said o).no (judged_said o).field
    judged_answered (accepted k fs) h = h
    judged_answered (refused n i) h = h

    pub judge_answered : (row : ℕ) (s : Bytes) (starts lens : List ℕ) → P (judge row s starts lens).no (judge row s starts lens).field
    unfolding judged_by
    judge_answered row s starts lens =
        let fs : List Bytes = parts_from s starts lens 0 (count_of row) in
        judged_answered (judged_by Today row fs) (of_kind_law Of (kind_of row) (λ k. judged Today read_identity k fs (accepted k fs)) kind (λ k e. fields k fs (accepted k fs) z))

    made_answered : (o : Outcome) → Of o → P (says (record_made o)).no (says (record_made o)).field
    made_answered (accepted k fs) h = h
    made_answered (refused n i) h = h

    pub build_answered : P wrong_count 0 → P too_long 0 → P short_output 0 → (t bytes : Bytes) (lens : List ℕ) (room : ℕ)
        → P (says (build t bytes lens room)).no (says (build t bytes lens room)).field
    unfolding build build_of build_as
    build_answered count long short t bytes lens room =
        let fs : List Bytes = pieces lens bytes in
        made_answered (build_of t bytes lens room)
        (of_kind_law Of (named all_kinds t) (build_as bytes lens room) kind
        (λ k e. provided_law Of (eqb (length lens) (length (fields_of k)) && eqb (sum lens) (length bytes)) wrong_count _ count
        (λ _. fields k fs _ (provided_law Of (leb (length (record_of k fs)) longest_record) too_long _ long
        (λ _. provided_law Of (leb (length (record_of k fs)) room) short_output (accepted k fs) short (λ _. z))))))

  -- a line: 11 besides
  pub line_answered : (call : Bytes → Outcome) → ((s : Bytes) → Of (call s)) → P unfinished 0 → (file : Bytes) (place : ℕ)
      → P (number_of (line_said (line_at_over call file place))) (field_of (line_said (line_at_over call file place)))
  line_answered call lines more file place =
      by_place file place (λ h. rw (at_end call file place h) z)
      (λ e f h. let l : Bytes = take (e - place) (drop place file) in rw (at_line call file place e f h) (answered (call l) (lines l)))
      (λ e f l h. rw (at_unfinished call file place e f l h) more)

  pub last_answered : P unfinished 0 → (n place : ℕ) → P (number_of (last_line n place)) (field_of (last_line n place))
  last_answered more n place = go (leb n place)
    where
      go : (b : Bool) → let l = cond b (Finished place) (Read unfinished 0 missing_row place (n - place) n) in P (number_of l) (field_of l)
      go true = z
      go false = more

  -- a line with a trailer: 19 and 20 besides
  pub trailed_answered : (s : Bytes) → Of (read_record (record_in s)) → P missing_trailer 0 → P wrong_hash 0 → Of (read_trailed s)
  unfolding read_trailed
  trailed_answered s own missing wrong = go (is_trailer (trailer_in s)) (same (trailer_in s) (trailer (record_in s))) (read_record (record_in s)) own
    where
      go : (b c : Bool) (o : Outcome) → Of o → Of (provided b missing_trailer (only_if c wrong_hash o))
      go true true (accepted k fs) h = h
      go true false (accepted k fs) h = wrong
      go true c (refused n i) h = h
      go false c o h = missing

  -- a record by mail, read: 21, 22 and 10 besides
  pub mail_answered : (text : Bytes) (room : ℕ) → ((ks : List Kind) (s : Bytes) → Of (read_of ks s)) → P missing_begins 0 → P missing_ends 0 → P short_output 0
      → P (says (read_mail text room)).no (says (read_mail text room)).field
  unfolding read_mail
  mail_answered text room own begins ends short =
      opened_found
      (λ f. P (says (read_found room f)).no (says (read_found room f)).field)
      (λ t s. given_answered (λ k fs. s) room (read_of (alone (named record_kinds t)) s) (own (alone (named record_kinds t)) s) short)
      ends
      begins
      (lines_in text)

  -- the key cabinet: 23 besides, of any bytes
  module _ (other : P not_cabinet 0) where
    pub make_answered : (s : Bytes) → P (make_cabinet s).no (make_cabinet s).field
    unfolding make_cabinet
    make_answered s = go (eqb (length s) (places * width))
      where
        go : (b : Bool) → let r = cond b (record { no = 0; field = 0; bytes = zeros (places * width) }) (leaving s not_cabinet 0) in P r.no r.field
        go true = z
        go false = other

    pub cabinet_answered : (s : Bytes) → P (check_cabinet s) 0
    unfolding check_cabinet count_keys
    cabinet_answered s = go (shelf s)
      where
        go : (o : Option (List Place)) → P (count_in o).no 0
        go none = other
        go (some ps) = z

    -- put: 24 and 25 besides
    pub put_answered : ((s : Bytes) → Of (read_of pubkey_kinds s)) → P not_later 0 → P no_place 0 → (s r : Bytes) → P (put_key s r).no (put_key s r).field
    unfolding put_key put_at
    put_answered own early full s r = go (shelf s)
      where
        put : (k : Names) (g : Bytes) (ps : List Place) (o : Option Held) → let x = told s (put_at k g r ps o) in P x.no x.field
        put k g ps none = by_test (any_free ps) (λ t. rw (T_true (any_free ps) t) z) (λ t. rw (T_false (any_free ps) t) full)
        put k g ps (some h) = by_test (later g h.gnt) (λ t. rw (T_true (later g h.gnt) t) z) (λ t. rw (T_false (later g h.gnt) t) early)

        read : (ps : List Place) (x : Reading) → reads r ≡ x → let y = told s (put_read r ps x) in P y.no y.field
        read ps (about k g) e = put k g ps (lookup k ps)
        read ps (declined n i) e = rw (reads_own r n i e).0 at (own r)

        go : (o : Option (List Place)) → let x = on_places (λ ps. put_read r ps (reads r)) s o in P x.no x.field
        go none = other
        go (some ps) = read ps (reads r) refl

    -- admit: 26 and 27 besides
    pub admit_answered : ((s : Bytes) → Of (read_of (REQ ∷ []) s)) → P not_there 0 → P tvp_not_later 0 → (s q : Bytes) → P (admit s q).no (admit s q).field
    unfolding admit admit_at
    admit_answered own missing early s q = go (shelf s)
      where
        enter : (k : Names) (t : Bytes) (ps : List Place) (o : Option Held) → let x = told s (admit_at k t ps o) in P x.no x.field
        enter k t ps none = missing
        enter k t ps (some h) = by_test (later t h.tvp) (λ u. rw (T_true (later t h.tvp) u) z) (λ u. rw (T_false (later t h.tvp) u) early)

        read : (ps : List Place) (x : Reading) → requests q ≡ x → let y = told s (admit_read ps x) in P y.no y.field
        read ps (about k t) e = enter k t ps (unless_old (lookup k ps))
        read ps (declined n i) e = rw (requests_own q n i e).0 at (own q)

        go : (o : Option (List Place)) → let x = on_places (λ ps. admit_read ps (requests q)) s o in P x.no x.field
        go none = other
        go (some ps) = read ps (requests q) refl

    -- remove and find: 26 besides
    module _ (own : (s : Bytes) → Of (read_identity s)) (missing : P not_there 0) where
      pub remove_answered : (s i : Bytes) → P (remove_key s i).no (remove_key s i).field
      unfolding remove_key remove_at
      remove_answered s i = go (shelf s)
        where
          remove : (k : Names) (ps : List Place) (o : Option Held) → let x = told s (remove_at k ps o) in P x.no x.field
          remove k ps none = missing
          remove k ps (some h) = z

          read : (ps : List Place) (x : Reading) → asks i ≡ x → let y = told s (remove_read ps x) in P y.no y.field
          read ps (about k g) e = remove k ps (lookup k ps)
          read ps (declined n j) e = rw (asks_own i n j e).0 at (own i)

          go : (o : Option (List Place)) → let x = on_places (λ ps. remove_read ps (asks i)) s o in P x.no x.field
          go none = other
          go (some ps) = read ps (asks i) refl

      pub find_answered : (s i : Bytes) → P (find_key s i).no (find_key s i).field
      unfolding find_key
      find_answered s i = go (shelf s)
        where
          find : (j : ℕ) (o : Option Held) → P (found_at j o).no (found_at j o).field
          find j none = missing
          find j (some h) = z

          read : (ps : List Place) (x : Reading) → asks i ≡ x → P (find_read ps x).no (find_read ps x).field
          read ps (about k g) e = find (lowest (holds k) ps) (unless_old (lookup k ps))
          read ps (declined n j) e = rw (asks_own i n j e).0 at (own i)

          go : (o : Option (List Place)) → P (find_in i o).no (find_in i o).field
          go none = other
          go (some ps) = read ps (asks i) refl

  -- Expiry as a number: none besides
  pub expiry_answered : (rules : Rules) → ((s : Bytes) → Of (read_under rules pubkey_kinds s)) → (s : Bytes) → P (expiry_under rules s).no (expiry_under rules s).field
  unfolding expiry_under
  expiry_answered rules own s = go (read_under rules pubkey_kinds s) (own s)
    where
      go : (o : Outcome) → Of o → P (expiry_by o).no (expiry_by o).field
      go (accepted k fs) g = z
      go (refused n i) g = g

  -- the newer key: 13 besides
  module _ (more : P not_alike 0) where
    subjects_answered : (p q : Outcome) → Of p → Of q → P (choice_no (by_subjects p q)) (choice_field (by_subjects p q))
    subjects_answered (accepted j fs) (accepted k gs) g h = go (alike j fs k gs) (later (gnt gs) (gnt fs))
      where
        go : (agree after : Bool) → let d = cond agree (cond after theSecond theFirst) (no_choice 0 not_alike 0) in P (choice_no d) (choice_field d)
        go true true = z
        go true false = z
        go false after = more
    subjects_answered (accepted j fs) (refused n i) g h = h
    subjects_answered (refused n i) q g h = g

    pub newer_answered : ((s : Bytes) → Of (read_identity s)) → ((s : Bytes) → Of (read_of pubkey_kinds s)) → (a b : Bytes) → P (choice_no (newer a b)) (choice_field (newer a b))
    unfolding newer
    newer_answered identities keys a b = go (read_of pubkey_kinds a) (read_of pubkey_kinds b) (keys a) (keys b)
      where
        go : (p q : Outcome) → Of p → Of q → P (choice_no (by_records p q)) (choice_field (by_records p q))
        go (accepted j fs) (accepted k gs) g h =
            subjects_answered (read_identity (subject fs)) (read_identity (subject gs)) (identities (subject fs)) (identities (subject gs))
        go (accepted j fs) (refused n i) g h = h
        go (refused n i) q g h = g
