-- Files of 003's records with two bytes changed, a plain one and a manufacturer's: neighbouring bytes, so that each is damaged as demand 3 says, and bytes far apart in two or
-- three flipped bits, as E12 says. So by demand 3 or by E12 the line is refused in which they stand, and the one before it answers as before.
-- Assumes nothing.
use Prim.Native.Nat.{ℕ, ◌+◌, ◌%◌, ◌≤◌, ◌<◌}
use Prim.Native.Char.{code}
use mathlib.Core.Path.{◌≡◌, refl, sym, ap, ◌∙◌}
use mathlib.Core.Bool.{Bool, not}
use mathlib.Core.Logic.{◌≢◌, ◌⊎◌, inl, inr, ⊎_elim}
use mathlib.Core.List.Memᴰ
use mathlib.Core.List.{List, [], ◌∷◌, Memᴰ, map}
use native.Mathlib.Omega.{arith}
use denote.Ref.{Bor}
use lib.Dec.{T, eqb, ltb, eqb→eq, ltb→lt}
use lib.ListN.{length, get_or, set, length-set, get_or-eq_default}
use lib.Seq.{get_or-set_same, get_or-set_other}
use mir.Facts.{eqb_no}
use Rattle.crc16.specs.Crc.{bit_step, bit_steps, add, add_all, crc_of}
use Rattle.crc16.specs.Damage.{AreBytes, ones, flips}
use Rattle.text.specs.Text.{Bytes, ascii, without, all_of}
use Rattle.text.specs.Base16.{hex_digit, check_text}
use Rattle.text.proofs.Tests.{by_test, less_or, at_every}
use Rattle.format.specs.Kinds.{ECDH, RESP, record_kinds}
use Rattle.format.specs.Build.{with_check, record_of}
use Rattle.format.specs.Read.{Outcome, accepted, check, read_record}
use Rattle.format.specs.Files as format
use Rattle.format.specs.Files.{line_feed, read, line_at, walk_over, walk, lines_from_over, lines_from}
use Rattle.format.specs.Damage.{Differ, Inside, Accepted, bytes_in, DamagedOver, DamagedBy, WithinTwo, Flipped, Damaged}
use Rattle.format.proofs.Exactly.{record_exact}
use Rattle.format.proofs.DamagedLines.{within_line}
use Rattle.format.proofs.Damage.{record_catches_by_two}
use Rattle.format.proofs.Lines.{rest_walk, walk_lines}
use Rattle.reading.specs.Reading.{answer_of}
use Rattle.files.specs.declared.Line.{Line}
use Rattle.files.specs.Walk.{line_said, number_of, start_of, length_of}
use Rattle.files.proofs.Stepping.{first_left}
use Rattle.hashing.specs.Turns.{turns, grown}
use Rattle.hashing.specs.Blocks.{block, hashed}
use Rattle.sha_1.specs.Sha1 as short
use Rattle.trailed.specs.Trailed.{trailer, trailed, record_in, InRecord, read_trailed, trailed_at, walk_trailed}
use Rattle.trailed.proofs.Trailed.{trailed_read, trailed_within_two}
use Rattle.promises.proofs.Statements.Files.{PlainSays}
use Rattle.promises.proofs.Statements.Trailed.{TrailedSays}
use Rattle.promises.proofs.Statements.Demand3.{Called, none, more, AllCaughtSaid, DamageCaughtBy}
use Rattle.promises.specs.Worked.{module_id_fields, module_id, centre_id_fields, centre_id, centre_key_fields, centre_key, response_fields, response, fields_of_worked, sound_lines, sound_file, damaged_file, flipped_file, trailed_file, damaged_trailed_file, flipped_trailed_file}
use Rattle.promises.proofs.Demand3.{plain_caught, trailed_caught}
use Rattle.promises.proofs.FlippedBits.{flipped_bits}
use Rattle.promises.proofs.Permitted.{permitted, unsigned, built_of}

are_bytes : (s : Bytes) → T (all_of (map (λ c. ltb c 256) s)) → AreBytes s
are_bytes s t k = ltb→lt (get_or s k 0) 256 (at_every (λ c. ltb c 256) 0 tt s t k)

set_bytes : (s : Bytes) (i x : ℕ) → x < 256 → AreBytes s → AreBytes (set s i x)
set_bytes s i x h b p =
    by_test (eqb p i)
    (λ t. rw (eqb→eq p i t) (less_or i (length s)
    (λ l. rw (get_or-set_same s i x 0 l) h)
    (λ l.
    let out : length (set s i x) ≤ i = omega (arith, length-set s i x) in
    rw (get_or-eq_default (set s i x) 0 out) (omega arith))))
    (λ t. rw (get_or-set_other s i p x 0 (eqb_no t)) (b p))

-- ---- two bytes of a file changed

-- at the places i and j, to x and y
module _ (a : Bytes) (i j x y : ℕ) where
  abbrev changed : Bytes
  changed = set (set a i x) j y

  same_elsewhere : (p : ℕ) → p ≢ i → p ≢ j → get_or a p 0 ≡ get_or changed p 0
  same_elsewhere p n m = sym (get_or-set_other (set a i x) j p y 0 m ∙ get_or-set_other a i p x 0 n)

  differ_there : (p : ℕ) → Differ a changed p → (p ≡ i) ⊎ (p ≡ j)
  differ_there p d =
      by_test (eqb p i) (λ t. inl (eqb→eq p i t))
      (λ t. by_test (eqb p j) (λ u. inr (eqb→eq p j u)) (λ u. absurd (d (same_elsewhere p (eqb_no t) (eqb_no u)))))

  -- the four bytes there, before and after, of which none is a line feed
  abbrev four : Bytes
  four = get_or a i 0 ∷ get_or a j 0 ∷ get_or changed i 0 ∷ get_or changed j 0 ∷ []

  abbrev no_feed : Bool
  no_feed = all_of (map (λ c. not (eqb c line_feed)) four)

  no_feed_at : T no_feed → (k : ℕ) → get_or four k 0 ≢ line_feed
  no_feed_at t k = eqb_no (at_every (λ c. not (eqb c line_feed)) 0 tt four t k)

  module _ (call : Bytes → Outcome) (Harm : Bytes → Bytes → Type 0) where
    -- a line that has one of the places is accepted, and is harmed so
    abbrev HarmedThere : List format.Line → Type 0
    HarmedThere ls = (l : format.Line) → Memᴰ l ls → (p : ℕ) → Inside l p → (p ≡ i) ⊎ (p ≡ j) → Accepted l.said × Harm (bytes_in l a) (bytes_in l changed)

    two_changed : AreBytes a → x < 256 → y < 256 → T no_feed → HarmedThere (walk_over call a) → DamagedBy call Harm a changed
    two_changed bytes small-x small-y t there = record {
      bytes_a = bytes;
      bytes_b = set_bytes (set a i x) j y small-y (set_bytes a i x small-x bytes);
      long = simp length-set;
      no-feed = λ p d. go p (differ_there p d);
      in_accepted = λ l m p h d. (there l m p h (differ_there p d)).0;
      harmed = λ l m p h d. (there l m p h (differ_there p d)).1;
    }
      where
        go : (p : ℕ) → (p ≡ i) ⊎ (p ≡ j) → (get_or a p 0 ≢ line_feed) × (get_or changed p 0 ≢ line_feed)
        go p (inl e) = rw e (no_feed_at t 0, no_feed_at t 2)
        go p (inr e) = rw e (no_feed_at t 1, no_feed_at t 3)

-- two neighbouring places of the whole file are two of each line
over_two : (call : Bytes → Outcome) (a b : Bytes) → DamagedBy call WithinTwo a b → (i : ℕ) → ((p : ℕ) → Differ a b p → (p ≡ i) ⊎ (p ≡ i + 1)) → DamagedOver call a b
over_two call a b d i near = record {
  bytes_a = d.bytes_a;
  bytes_b = d.bytes_b;
  long = d.long;
  no-feed = d.no-feed;
  in_accepted = d.in_accepted;
  within_two = λ l m. (i, λ p h differ. near p differ);
}

-- ---- a plain file

first : format.Line
first = record { said = read_record response; start = 0; size = length response; next = 0 + length response + 1 }

second : format.Line
unfolding first
second = record { said = read_record centre_key; start = first.next; size = length centre_key; next = first.next + length centre_key + 1 }

listed : walk sound_file ≡ lines_from 0 sound_lines []
unfolding sound_file sound_lines response response_fields centre_key centre_key_fields module_id module_id_fields centre_id centre_id_fields record_of with_check check_text hex_digit crc_of add_all add bit_steps bit_step
listed = walk_lines read_record sound_lines [] (tt, (tt, (tt, tt))) tt

read_first : read_record response ≡ accepted RESP response_fields
unfolding response fields_of_worked
read_first = (record_exact (record_of RESP response_fields) RESP response_fields).1 (built_of record_kinds RESP response_fields tt (permitted RESP))

read_second : read_record centre_key ≡ accepted ECDH centre_key_fields
unfolding centre_key
read_second = (record_exact (record_of ECDH centre_key_fields) ECDH centre_key_fields).1 (built_of record_kinds ECDH centre_key_fields tt unsigned.1)

at_lines : (line_at sound_file 0 ≡ read first) × (line_at sound_file first.next ≡ read second)
unfolding first second sound_lines lines_from_over
at_lines =
    let (here, left) = first_left read_record sound_file 0 first (lines_from first.next (centre_key ∷ ascii "abc" ∷ []) []) (rest_walk read_record sound_file ∙ listed) in
    (here, (first_left read_record sound_file first.next second (lines_from second.next (ascii "abc" ∷ []) []) left).0)

-- their lengths
long : (length response ≡ 219) × (length centre_key ≡ 302)
unfolding response response_fields centre_key centre_key_fields module_id module_id_fields centre_id centre_id_fields record_of with_check check_text hex_digit
long = (refl, refl)

-- only the second line has places from 220 on and before 522
the_second : (l : format.Line) → Memᴰ l (lines_from 0 sound_lines []) → (p : ℕ) → Inside l p → 220 ≤ p → p < 522 → l ≡ second
unfolding sound_lines lines_from_over first second
the_second l m p (low, high) from to =
    ⊎_elim
    (λ h. absurd (omega (arith, long.0, ap (λ (x : format.Line). x.start) h, ap (λ (x : format.Line). x.size) h)))
    (λ n. ⊎_elim
    (λ h. h)
    (λ o. ⊎_elim (λ h. absurd (omega (arith, long.0, long.1, ap (λ (x : format.Line). x.start) h))) (λ q. absurd (Memᴰ.not-nil q)) (Memᴰ.cases_cons o))
    (Memᴰ.cases_cons n))
    (Memᴰ.cases_cons m)

sound_bytes : AreBytes sound_file
unfolding sound_file sound_lines response response_fields centre_key centre_key_fields module_id module_id_fields centre_id centre_id_fields record_of with_check check_text hex_digit crc_of add_all add bit_steps bit_step
sound_bytes = are_bytes sound_file tt

-- two bytes of the second line changed
module _ (Harm : Bytes → Bytes → Type 0) (i j x y : ℕ) (there : (p : ℕ) → (p ≡ i) ⊎ (p ≡ j) → (220 ≤ p) × (p < 522)) where
  abbrev after : Bytes
  after = changed sound_file i j x y

  second_damaged : x < 256 → y < 256 → T (no_feed sound_file i j x y) → Harm (bytes_in second sound_file) (bytes_in second after) → DamagedBy read_record Harm sound_file after
  unfolding second
  second_damaged small-x small-y t harm =
      two_changed sound_file i j x y read_record Harm sound_bytes small-x small-y t
      (λ l m p h e.
      let is = the_second l (rw listed at m) p h (there p e).0 (there p e).1 in
      ((ECDH, centre_key_fields, ap (λ (z : format.Line). z.said) is ∙ read_second), rw is harm))

  second_caught : DamageCaughtBy read_record Harm PlainSays → DamagedBy read_record Harm sound_file after → Differ sound_file after i → (f g : Bor Bytes) → f.now ≡ sound_file → g.now ≡ after
      → (l l' m m' : Line) → Called PlainSays f 0 (l ∷ l' ∷ []) → Called PlainSays g 0 (m ∷ m' ∷ []) → (number_of l ≡ 0) × (number_of l' ≡ 0) × (l ≡ m) × (number_of m' ≢ 0)
  unfolding AllCaughtSaid first second
  second_caught all_caught d differ f g e e' l l' m m' (more a (more b none)) q =
      let here : l ≡ line_said (read first) = a.1.1 ∙ ap (λ (s : Bytes). line_said (line_at s 0)) e ∙ ap line_said at_lines.0 in
      let there' : l' ≡ line_said (read second) = b.1.1 ∙ rw (e, here) (ap line_said at_lines.1) in
      let all = all_caught f g (rw (e, e') d) (l ∷ l' ∷ []) (m ∷ m' ∷ []) (more a (more b none)) q refl in
      let (from, to) = there i (inl refl) in
      let (from', to') = there j (inr refl) in (
        ap number_of here ∙ ap (λ (o : Outcome). (answer_of o).no) read_first,
        ap number_of there' ∙ ap (λ (o : Outcome). (answer_of o).no) read_second,
        (all.0.same_said (λ p h.
            let before : p < 219 = omega (arith, long.0, ap start_of here, ap length_of here) in
            rw (e, e') (same_elsewhere sound_file i j x y p (λ z. absurd (omega arith)) (λ z. absurd (omega arith))))).0,
        all.1.0.refused_there i (rw there' (omega (arith, long.0), omega (arith, long.0, long.1))) (rw (e, e') differ),
      )

in_second : (i j : ℕ) → 220 ≤ i → i < 522 → 220 ≤ j → j < 522 → (p : ℕ) → (p ≡ i) ⊎ (p ≡ j) → (220 ≤ p) × (p < 522)
in_second i j hi ki hj kj p = ⊎_elim (λ e. (omega arith, omega arith)) (λ e. (omega arith, omega arith))

-- demand 3: two neighbouring ones
near : (p : ℕ) → (p ≡ 240) ⊎ (p ≡ 241) → (220 ≤ p) × (p < 522)
near = in_second 240 241 (omega arith) (omega arith) (omega arith) (omega arith)

near_there : T (no_feed sound_file 240 241 (code "?") (code "?")) × T (not (eqb (get_or sound_file 240 0) (get_or damaged_file 240 0)))
unfolding damaged_file sound_file sound_lines response response_fields centre_id centre_id_fields record_of with_check check_text module_id module_id_fields centre_key centre_key_fields
near_there = (tt, tt)

damaged_near : DamagedBy read_record WithinTwo sound_file damaged_file
unfolding damaged_file
damaged_near =
    second_damaged WithinTwo 240 241 (code "?") (code "?") near (omega arith) (omega arith) near_there.0
    ((within_line sound_file damaged_file second).1 (240, λ p h d. differ_there sound_file 240 241 (code "?") (code "?") p d))

pub damaged : Damaged sound_file damaged_file
unfolding damaged_file
damaged = over_two read_record sound_file damaged_file damaged_near 240 (λ p d. differ_there sound_file 240 241 (code "?") (code "?") p d)

pub caught : (f g : Bor Bytes) → f.now ≡ sound_file → g.now ≡ damaged_file → (l l' m m' : Line) → Called PlainSays f 0 (l ∷ l' ∷ []) → Called PlainSays g 0 (m ∷ m' ∷ [])
    → (number_of l ≡ 0) × (number_of l' ≡ 0) × (l ≡ m) × (number_of m' ≢ 0)
unfolding damaged_file
caught = second_caught WithinTwo 240 241 (code "?") (code "?") near (plain_caught WithinTwo record_catches_by_two) damaged_near (eqb_no near_there.1)

-- E12: two flipped bits, far apart
far : (p : ℕ) → (p ≡ 240) ⊎ (p ≡ 500) → (220 ≤ p) × (p < 522)
far = in_second 240 500 (omega arith) (omega arith) (omega arith) (omega arith)

far_there : T (no_feed sound_file 240 500 (code "r") (code "1")) × T (not (eqb (get_or sound_file 240 0) (get_or flipped_file 240 0)))
    × (check (bytes_in second sound_file) ≡ check (bytes_in second flipped_file)) × (flips (bytes_in second sound_file) (bytes_in second flipped_file) ≡ 2)
unfolding first second flipped_file sound_file sound_lines response response_fields centre_id centre_id_fields record_of with_check check_text hex_digit module_id module_id_fields centre_key centre_key_fields crc_of add_all add bit_steps bit_step flips ones
far_there = (tt, tt, refl, refl)

pub flipped : DamagedBy read_record Flipped sound_file flipped_file
unfolding flipped_file
flipped =
    second_damaged Flipped 240 500 (code "r") (code "1") far (omega arith) (omega arith) far_there.0
    (record { before_check = far_there.2; odd_or_two = inr far_there.3 })

pub flipped_caught : (f g : Bor Bytes) → f.now ≡ sound_file → g.now ≡ flipped_file → (l l' m m' : Line) → Called PlainSays f 0 (l ∷ l' ∷ []) → Called PlainSays g 0 (m ∷ m' ∷ [])
    → (number_of l ≡ 0) × (number_of l' ≡ 0) × (l ≡ m) × (number_of m' ≢ 0)
unfolding flipped_file
flipped_caught = second_caught Flipped 240 500 (code "r") (code "1") far flipped_bits.in_plain flipped (eqb_no far_there.1)

-- ---- a manufacturer's file

only : format.Line
only = record { said = read_trailed (trailed response); start = 0; size = length (trailed response); next = 0 + length (trailed response) + 1 }

-- computed with the hash of its record
computed : T (without line_feed (trailed response)) × T (all_of (map (λ c. ltb c 256) trailed_file)) × (length (trailed response) ≡ 260)
unfolding trailed_file trailed trailer turns grown block hashed short.by_twenty short.padding short.padded short.H₀ short.word short.words short.schedule short.rounds short.compress short.joined short.sha1 response response_fields module_id module_id_fields centre_id centre_id_fields record_of with_check check_text hex_digit crc_of add_all add bit_steps bit_step
computed = (tt, tt, refl)

listed_trailed : walk_trailed trailed_file ≡ lines_from_over read_trailed 0 (trailed response ∷ []) []
unfolding trailed_file
listed_trailed = walk_lines read_trailed (trailed response ∷ []) [] (computed.0, tt) tt

read_only : read_trailed (trailed response) ≡ accepted RESP response_fields
read_only = trailed_read response ∙ read_first

-- two bytes of the line changed
module _ (Harm : Bytes → Bytes → Type 0) (i j x y : ℕ) where
  abbrev after_trailed : Bytes
  after_trailed = changed trailed_file i j x y

  only_damaged : x < 256 → y < 256 → T (no_feed trailed_file i j x y) → Harm (bytes_in only trailed_file) (bytes_in only after_trailed)
      → DamagedBy read_trailed Harm trailed_file after_trailed
  unfolding only lines_from_over
  only_damaged small-x small-y t harm =
      two_changed trailed_file i j x y read_trailed Harm (are_bytes trailed_file computed.1) small-x small-y t
      (λ l m p h e.
      let is : l ≡ only = ⊎_elim (λ q. q) (λ q. absurd (Memᴰ.not-nil q)) (Memᴰ.cases_cons (rw listed_trailed at m)) in
      ((RESP, response_fields, ap (λ (z : format.Line). z.said) is ∙ read_only), rw is harm))

  only_caught : DamageCaughtBy read_trailed Harm TrailedSays → DamagedBy read_trailed Harm trailed_file after_trailed → i < 260 → Differ trailed_file after_trailed i
      → (f g : Bor Bytes) → f.now ≡ trailed_file → g.now ≡ after_trailed → (l m : Line) → Called TrailedSays f 0 (l ∷ []) → Called TrailedSays g 0 (m ∷ []) → (number_of l ≡ 0) × (number_of m ≢ 0)
  unfolding AllCaughtSaid only lines_from_over
  only_caught all_caught d inside differ f g e e' l m (more a none) q =
      let at_only = (first_left read_trailed trailed_file 0 only [] (rest_walk read_trailed trailed_file ∙ listed_trailed)).0 in
      let here : l ≡ line_said (read only) = a.1.1 ∙ ap (λ (s : Bytes). line_said (trailed_at s 0)) e ∙ ap line_said at_only in
      let all = all_caught f g (rw (e, e') d) (l ∷ []) (m ∷ []) (more a none) q refl in (
        ap number_of here ∙ ap (λ (o : Outcome). (answer_of o).no) read_only,
        all.0.refused_there i (rw here (omega arith, omega (arith, computed.2))) (rw (e, e') differ),
      )

-- demand 3: the last character of the check and the '#'
across : T (no_feed trailed_file 218 219 (code "?") (code "?")) × T (not (eqb (get_or trailed_file 218 0) (get_or damaged_trailed_file 218 0)))
unfolding damaged_trailed_file trailed_file trailed trailer response response_fields module_id module_id_fields centre_id centre_id_fields record_of with_check check_text hex_digit crc_of add_all add bit_steps bit_step
across = (tt, tt)

trailed_near : DamagedBy read_trailed WithinTwo trailed_file damaged_trailed_file
unfolding damaged_trailed_file
trailed_near =
    only_damaged WithinTwo 218 219 (code "?") (code "?") (omega arith) (omega arith) across.0
    ((within_line trailed_file damaged_trailed_file only).1 (218, λ p h d. differ_there trailed_file 218 219 (code "?") (code "?") p d))

pub damaged_trailed : DamagedOver read_trailed trailed_file damaged_trailed_file
unfolding damaged_trailed_file
damaged_trailed = over_two read_trailed trailed_file damaged_trailed_file trailed_near 218 (λ p d. differ_there trailed_file 218 219 (code "?") (code "?") p d)

pub caught_trailed : (f g : Bor Bytes) → f.now ≡ trailed_file → g.now ≡ damaged_trailed_file → (l m : Line) → Called TrailedSays f 0 (l ∷ []) → Called TrailedSays g 0 (m ∷ [])
    → (number_of l ≡ 0) × (number_of m ≢ 0)
unfolding damaged_trailed_file
caught_trailed = only_caught WithinTwo 218 219 (code "?") (code "?") (trailed_caught WithinTwo trailed_within_two) trailed_near (omega arith) (eqb_no across.1)

-- E12: three flipped bits of its record
scattered : T (no_feed trailed_file 22 210 (code "p") (code "9")) × T (not (eqb (get_or trailed_file 22 0) (get_or flipped_trailed_file 22 0)))
    × (check (record_in (bytes_in only trailed_file)) ≡ check (record_in (bytes_in only flipped_trailed_file))) × (flips (record_in (bytes_in only trailed_file)) (record_in (bytes_in only flipped_trailed_file)) % 2 ≡ 1)
unfolding only flipped_trailed_file trailed_file trailed trailer turns grown block hashed short.by_twenty short.padding short.padded short.H₀ short.word short.words short.schedule short.rounds short.compress short.joined short.sha1 response response_fields module_id module_id_fields centre_id centre_id_fields record_of with_check check_text hex_digit crc_of add_all add bit_steps bit_step flips ones
scattered = (tt, tt, refl, refl)

pub flipped_trailed : DamagedBy read_trailed (InRecord Flipped) trailed_file flipped_trailed_file
unfolding flipped_trailed_file
flipped_trailed =
    only_damaged (InRecord Flipped) 22 210 (code "p") (code "9") (omega arith) (omega arith) scattered.0
    (record { before_check = scattered.2; odd_or_two = inl scattered.3 })

pub flipped_caught_trailed : (f g : Bor Bytes) → f.now ≡ trailed_file → g.now ≡ flipped_trailed_file → (l m : Line) → Called TrailedSays f 0 (l ∷ []) → Called TrailedSays g 0 (m ∷ [])
    → (number_of l ≡ 0) × (number_of m ≢ 0)
unfolding flipped_trailed_file
flipped_caught_trailed = only_caught (InRecord Flipped) 22 210 (code "p") (code "9") flipped_bits.in_trailed flipped_trailed (omega arith) (eqb_no scattered.1)
