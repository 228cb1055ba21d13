-- The Fingerprint that is right, as the code makes it, and what the calls say by it.
-- Assumes nothing.
use Prim.Native.Nat.{ℕ, ◌+◌, ◌-◌, ◌/◌, ◌≤◌, ◌<◌}
use Prim.Native.Char.{code}
use mathlib.Core.Path.{◌≡◌, refl, sym, ap, ◌∙◌}
use mathlib.Core.Bool.{Bool, cond}
use mathlib.Core.List.{List, [], ◌∷◌, ◌++◌, append_assoc}
use native.Mathlib.Omega.{arith}
use lib.ListN.{length, take, drop, get_or, replicate, length-append, length-take, take-append-drop}
use lib.Seq.{length-take-le, take-append_seam, take-take}
use borrow.Author.Tests.{le-leb, lt-leb}
use Rattle.text.specs.Text.{Bytes, ascii, same}
use Rattle.text.specs.Base16.{base16}
use Rattle.text.proofs.Types.{hex_length}
use Rattle.sha384.specs.Sha384.{sha384}
use Rattle.sha384.specs.State.{begun, added_all, together, ended}
use Rattle.sha384.proofs.Digest.{digest_size}
use Rattle.sha384.proofs.Pieces.{ended_all}
use Rattle.numbers.specs.Numbers.{short_output, wrong_fingerprint}
use Rattle.format.specs.Kinds.{Kind, name, pubkey_kinds}
use Rattle.format.specs.Build.{joined, Built}
use Rattle.format.specs.Read.{accepted, last_or, cut, body, read_identity, read_of}
use Rattle.format.proofs.Table.{identity_row}
use Rattle.format.proofs.Parts.{joined_cut, joined_append, built_last}
use Rattle.format.proofs.Exactly.{identity_exact, its_parts, its_count, read_says}
use Rattle.frame.specs.Frame.{part_start}
use Rattle.places.specs.Places.{field_at}
use Rattle.reading.specs.Reading.{answer_of}
use Rattle.reading.specs.declared.Answer.{Answer}
use Rattle.reading.proofs.Answers.{Taken, taken, untaken}
use Rattle.subjects.specs.Subjects.{manufacturer, mid, gnt, identity_part}
use Rattle.subjects.specs.Keys.{subject, Key}
use Rattle.subjects.proofs.Subjects.{identity-field, identity_print}
use Rattle.subjects.proofs.Keys.{key, its_field}
use Rattle.put.specs.Put.{Puts}
use Rattle.put.specs.Made.{denied, says, Writes}
use Rattle.put.specs.declared.Written.{Written}
use Rattle.put.proofs.Hex.{length_base16}
use Rattle.put.proofs.Pieces.{put_of, put_as, put_fills}
use Rattle.given.proofs.Given.{given_short, given_put}
use Rattle.fingerprint.specs.Fingerprint.{hash_text, print_of, right_print, print_in, check_fingerprint, write_fingerprint}
use Rattle.fingerprint.specs.Steps.{front_at, text_at}

-- ---- what stands before the Fingerprint of an identity

joined_split : (m n : ℕ) (fs : List Bytes) → joined m fs ≡ joined m (take n fs) ++ joined m (drop n fs)
joined_split m n fs = ap (joined m) (sym (take-append-drop n fs)) ∙ joined_append m (take n fs) (drop n fs)

-- parts at the front, each with its mark
front_parts : (m n : ℕ) (s : Bytes) → joined m (cut m s) ≡ s → take (part_start m s n) s ≡ joined m (take n (cut m s))
unfolding part_start
front_parts m n s e =
    let front = joined m (take n (cut m s)) in
    let rest = joined m (drop n (cut m s)) in
    ap (take (length front)) (sym (sym (joined_split m n (cut m s)) ∙ e)) ∙ take-append_seam front rest

start_inside : (m n : ℕ) (s : Bytes) → joined m (cut m s) ≡ s → part_start m s n ≤ length s
unfolding part_start
start_inside m n s e =
    let l : length s ≡ length (joined m (take n (cut m s))) + length (joined m (drop n (cut m s))) =
    ap length (sym e ∙ joined_split m n (cut m s)) ∙ length-append (joined m (take n (cut m s))) (joined m (drop n (cut m s))) in
    omega (arith, l)

-- as the code cuts it
module _ (s b : Bytes) {n : ℕ} (is_IsBody : b ≡ body s) (is-start : n ≡ part_start (code ":") b 4) where
  start : n ≡ part_start (code ":") (body s) 4
  start = is-start ∙ ap (λ (x : Bytes). part_start (code ":") x 4) is_IsBody

  pub front_none : length s < n → [] ≡ front_at s
  unfolding front_at
  front_none h = rw (← start, lt-leb n (length s) h)

  pub front_some : n ≤ length s → take (n - 0) (drop 0 s) ≡ front_at s
  unfolding front_at
  front_some h = let e : n - 0 ≡ n = omega arith in rw (← start, le-leb n (length s) h, e)

first_three : (fs : List Bytes) → length fs ≡ 4 → take 3 fs ≡ manufacturer fs ∷ mid fs ∷ gnt fs ∷ []
first_three [] l = absurd (omega arith)
first_three (a ∷ []) l = absurd (omega arith)
first_three (a ∷ b ∷ []) l = absurd (omega arith)
first_three (a ∷ b ∷ c ∷ fs) l = refl

identity_front : (i : Bytes) {k : Kind} {fs : List Bytes} → read_identity i ≡ accepted k fs
    → front_at i ≡ joined (code ":") (name k ∷ manufacturer fs ∷ mid fs ∷ gnt fs ∷ [])
unfolding front_at
identity_front i {k} {fs} e =
    let b = (identity_exact i k fs).0 e in
    let row = identity_row k b.of-kind in
    let colon = row.0 in
    let four = row.1 in
    let parts : cut (code ":") (body i) ≡ name k ∷ fs = rw colon at (its_parts b) in
    let last : last_or 0 (body i) ≡ code ":" = ap (λ (s : Bytes). last_or 0 (body s)) b.built ∙ built_last k fs ∙ colon in
    let whole = joined_cut 0 (code ":") (body i) last in
    let n = part_start (code ":") (body i) 4 in
    let inside : n ≤ length (body i) = start_inside (code ":") 4 (body i) whole in
    let shorter : length (body i) ≤ length i - 4 = rw (length-take (length i - 4) i) (omega arith) in
    let fits = le-leb n (length i) (omega (arith, inside, shorter)) in
    let of-body : take n (body i) ≡ take n i = take-take n (length i - 4) i (omega (arith, inside, shorter)) in
    let count : length fs ≡ 4 = its_count b ∙ ap length four in
    rw fits (sym of-body ∙ front_parts (code ":") 4 (body i) whole ∙ rw (parts, first_three fs count))

identity_text : (i q : Bytes) {k : Kind} {fs : List Bytes} → read_identity i ≡ accepted k fs → text_at i q ≡ hash_text k fs q
unfolding text_at
identity_text i q e = rw (identity_front i e) (simp append_assoc)

-- ---- the hash

-- the front, Q and the last mark
pub hashed_pieces : (s q : Bytes) → ended (added_all begun (front_at s ∷ q ∷ ascii ":" ∷ [])) ≡ sha384 (text_at s q)
unfolding together text_at
hashed_pieces s q = ended_all (front_at s ∷ q ∷ ascii ":" ∷ []) ∙ ap sha384 (sym (append_assoc (front_at s) q (ascii ":")))

length_front : (h : List ℕ) → length h ≡ 48 → length (base16 (take 8 h)) ≡ 16
length_front h l = length_base16 (take 8 h) ∙ omega (arith, length-take-le 8 h (omega (arith, l)))

pub print_length : (text : Bytes) → length (print_of text) ≡ 16
print_length text = length_front (sha384 text) (digest_size text)

-- half of the Fingerprint that stands in the Subject at i, as the code finds it
pub half_print : {x s : Bytes} (i : Bytes) → x ≡ identity_part s 4 → s ≡ i → length (identity_part i 4) ≡ 16 → length x / 2 ≡ 8
half_print i p q l = rw (p, q, l)

-- the sixteen characters fill their array
pub front_written : (h : List ℕ) {o : List ℕ} {n r : ℕ} → n ≡ 8 → length h ≡ 48 → Puts (replicate 16 0) 0 (base16 (take n h)) o r → o ≡ base16 (take 8 h)
front_written h e l p = put_fills (length_front h l) (rw e at p)

-- ---- the calls, by what was answered

module _ (s : Bytes) (r : Answer) (e : r ≡ answer_of (read_of pubkey_kinds s)) where
  pub check_refused : (r.no ≡ 0 → ⊥) → record { no = r.no; field = r.field } ≡ check_fingerprint s
  unfolding check_fingerprint
  check_refused z = rw (untaken (read_of pubkey_kinds s) r e z)

  -- the places of the Subject and of Q
  abbrev subject-at : Bytes
  subject-at = field_at s r.starts r.lens 1

  abbrev right_at : Bytes
  right_at = print_of (text_at subject-at (field_at s r.starts r.lens 2))

  right_long : length right_at ≡ 16
  right_long = print_length _

  module _ (z : r.no ≡ 0) where
    read : Taken (Built pubkey_kinds s) (read_of pubkey_kinds s) r.kind
    read = taken (Built pubkey_kinds s) (read_of pubkey_kinds s) r (read_says pubkey_kinds s) e z

    its_key : Key s
    its_key = key s read.kind read.fields read.is

    subject_so : subject-at ≡ subject its_key.fields
    subject_so = its_field s its_key r e 0

    right_so : right_at ≡ right_print its_key.fields
    right_so =
        let i = subject its_key.fields in
        let n = its_key.known in
        let q = get_or its_key.fields 1 [] in
        rw (subject_so, its_field s its_key r e 1, n, identity_text i q n)

    print_so : identity_part subject-at 4 ≡ print_in (read_identity (subject its_key.fields))
    print_so = let n = its_key.known in rw (subject_so, n, identity-field (subject its_key.fields) n 3)

    pub print_long : length (identity_part subject-at 4) ≡ 16
    print_long =
        let i = subject its_key.fields in
        let n = its_key.known in
        ap length (print_so ∙ ap print_in n) ∙ hex_length 16 (get_or its_key.names 3 []) (identity_print i n)

    pub check_said : {x y : Bytes} (b : Bool) → x ≡ identity_part subject-at 4 → y ≡ right_at → same x y ≡ b → record { no = cond b 0 wrong_fingerprint; field = 0 } ≡ check_fingerprint s
    unfolding check_fingerprint
    check_said b p q f = rw (its_key.is, ← print_so, ← right_so, ← p, ← q, f)

    pub write_short : {o : Bytes} (w : Written) → length o < 16 → w ≡ says (denied short_output 0) → Writes (write_fingerprint s (length o)) o o w
    unfolding write_fingerprint
    write_short {o} w h f = given_short _ its_key.is o w (omega (arith, ap length right_so, right_long)) f

    pub write_said : {y o out : Bytes} {k : ℕ} → 16 ≤ length o → y ≡ right_at → Puts o 0 y out k
        → Writes (write_fingerprint s (length o)) o out (record { no = 0; field = 0; len = k })
    unfolding write_fingerprint
    write_said h q p = given_put _ its_key.is (put_as (q ∙ right_so) (put_of (omega (arith, ap length q, right_long)) p))
