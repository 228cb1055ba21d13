-- What the calls for a line answer, by what the code finds: its trailer, its record, and the trailer that is right.
-- Assumes nothing.
use Prim.Native.Nat.{ℕ, ◌+◌, ◌-◌, ◌≤◌, ◌<◌}
use mathlib.Core.Path.{◌≡◌, refl, sym, ap, ◌∙◌}
use mathlib.Core.Bool.{Bool, true, false}
use mathlib.Core.List.{◌∷◌, ◌++◌, append-nil}
use native.Mathlib.Omega.{arith}
use lib.ListN.{length, take, drop, replicate}
use Rattle.text.specs.Text.{Bytes, same}
use Rattle.text.specs.Base16.{base16}
use Rattle.sha_1.specs.Sha1.{sha1}
use Rattle.sha_1.proofs.Digest.{digest_size}
use Rattle.numbers.specs.Numbers.{short_output, missing_trailer, wrong_hash}
use Rattle.format.specs.Kinds.{record_kinds}
use Rattle.format.specs.Build.{Built}
use Rattle.format.specs.Read.{Outcome, refused, read_record}
use Rattle.format.proofs.Exactly.{record_says}
use Rattle.reading.specs.Reading.{answer_of}
use Rattle.reading.specs.declared.Answer.{Answer}
use Rattle.reading.proofs.Answers.{Taken, taken, untaken}
use Rattle.put.specs.Put.{Puts}
use Rattle.put.specs.Made.{denied, says, Writes}
use Rattle.put.specs.declared.Written.{Written}
use Rattle.put.proofs.Hex.{length_base16}
use Rattle.put.proofs.Pieces.{put_of, put_as, put_then, put_length}
use Rattle.given.proofs.Given.{given_short, given_put}
use Rattle.trailed.specs.Trailed.{sharp, hash_text, trailer, trailed, record_in, trailer_in, is_trailer, only_if, read_trailed, write_trailed}
use Rattle.trailed.proofs.Trailed.{only_if_true, trailer_length, trailed_length}

-- ---- the trailer of a record

pub trailer_written : (r h : Bytes) {out : Bytes} {n : ℕ} → h ≡ sha1 (hash_text r) → Puts (sharp ∷ replicate 40 0) 1 (base16 h) out n → out ≡ trailer r
unfolding trailer
trailer_written r h e p =
    let long : length (base16 h) ≡ 40 = length_base16 h ∙ omega (arith, ap length e, digest_size (hash_text r)) in
    (put_of (omega (arith, long)) p).written ∙ rw (long, e) (ap {B = Bytes} (λ (x : Bytes). sharp ∷ x) (append-nil (base16 (sha1 (hash_text r)))))

-- ---- reading a line

-- the line s in two parts, the record and what stands behind it, and the test of that
module _ (s : Bytes) {x y : Bytes} {e : ℕ} {b : Bool} (end : e ≡ length s - 41) (front : x ≡ take e s) (behind : y ≡ drop e s) (test : b ≡ is_trailer y) where
  back : y ≡ trailer_in s
  back = behind ∙ ap (λ (n : ℕ). drop n s) end

  its_record : x ≡ record_in s
  its_record = front ∙ ap (λ (n : ℕ). take n s) end

  there : {c : Bool} → b ≡ c → is_trailer (trailer_in s) ≡ c
  there q = ap is_trailer (sym back) ∙ sym test ∙ q

  pub says_missing : {a : Answer} → b ≡ false → a ≡ answer_of (refused missing_trailer 0) → a ≡ answer_of (read_trailed s)
  unfolding read_trailed
  says_missing q h = h ∙ rw (there q)

  -- there is one, and a is the record call's answer for what stands before it
  module _ {a : Answer} (has : b ≡ true) (own : a ≡ answer_of (read_record x)) where
    own_said : a ≡ answer_of (read_record (record_in s))
    own_said = own ∙ ap (λ (r : Bytes). answer_of (read_record r)) its_record

    read_by : {c : Bool} {o : Outcome} → same (trailer_in s) (trailer (record_in s)) ≡ c → read_record (record_in s) ≡ o → read_trailed s ≡ only_if c wrong_hash o
    unfolding read_trailed
    read_by p q = rw (there has, p, q)

    pub says_own : (a.no ≡ 0 → ⊥) → a ≡ answer_of (read_trailed s)
    says_own n =
        let o = untaken (read_record (record_in s)) a own_said n in
        own_said ∙ ap answer_of (o ∙ sym (read_by refl o))

    -- the record is accepted, and t is the trailer that is right for it
    module _ {t : Bytes} {c : Bool} (right : t ≡ trailer x) (compared : c ≡ same y t) where
      as_compared : {d : Bool} → c ≡ d → same (trailer_in s) (trailer (record_in s)) ≡ d
      as_compared q = sym (compared ∙ rw (back, right, its_record)) ∙ q

      pub says_right : c ≡ true → a ≡ answer_of (read_trailed s)
      says_right q = own_said ∙ ap answer_of (sym (read_by (as_compared q) refl ∙ only_if_true wrong_hash (read_record (record_in s))))

      pub says_wrong : {a' : Answer} → a.no ≡ 0 → c ≡ false → a' ≡ answer_of (refused wrong_hash 0) → a' ≡ answer_of (read_trailed s)
      says_wrong z q h =
          let k = taken (Built record_kinds (record_in s)) (read_record (record_in s)) a (record_says (record_in s)) own_said z in
          h ∙ ap answer_of (sym (read_by (as_compared q) k.is))

-- ---- writing a line: the record r, which is accepted where the record call answers 0

module _ (r : Bytes) {a : Answer} (own : a ≡ answer_of (read_record r)) (z : a.no ≡ 0) where
  abbrev read_so : Taken (Built record_kinds r) (read_record r) a.kind
  read_so = taken (Built record_kinds r) (read_record r) a (record_says r) own z

  pub write_short : (out : Bytes) (w : Written) → length out < length r + 41 → w ≡ says (denied short_output 0) → Writes (write_trailed r (length out)) out out w
  unfolding write_trailed
  write_short out w h e = given_short _ read_so.is out w (omega (arith, trailed_length r)) e

  pub write_said : {out out' out'' t : Bytes} {n n' : ℕ} → length r + 41 ≤ length out → t ≡ trailer r → Puts out 0 r out' n → Puts out' n t out'' n'
      → Writes (write_trailed r (length out)) out out'' (record { no = 0; field = 0; len = n' })
  unfolding write_trailed trailed
  write_said h e p q =
      let first = put_of (omega arith) p in
      let second = put_of (omega (arith, ap length e, trailer_length r, put_length first, first.next)) q in
      given_put _ read_so.is (put_as (ap (λ (x : Bytes). r ++ x) e) (put_then first second))
