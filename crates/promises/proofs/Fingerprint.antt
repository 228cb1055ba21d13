-- The promises about the Fingerprint of a public key, from the definitions of fingerprint.
-- Assumes nothing.
use Prim.Native.Nat.{ℕ}
use mathlib.Core.Path.{◌≡◌, refl, sym, ap, ◌∙◌}
use mathlib.Core.Logic.{◌≢◌}
use mathlib.Core.Bool.{Bool, cond}
use mathlib.Core.List.{List}
use native.Mathlib.Omega.{arith}
use lib.ListN.{length, take}
use lib.Dec.{T}
use Rattle.text.specs.Text.{Bytes, same, is_print}
use Rattle.text.proofs.Tests.{T_false, by_test, same→eq, same_true, same_false}
use Rattle.put.proofs.Hex.{base16_hex}
use Rattle.sha384.specs.Sha384.{left384, sha384}
use Rattle.numbers.specs.Numbers.{wrong_fingerprint}
use Rattle.format.specs.Kinds.{Kind, SMMAN, SMID, KMCID, ECDSA, ECDH, REQ, RESP, KEY, pubkey_kinds, record_kinds, among}
use Rattle.format.specs.Read.{Outcome, accepted, refused, answer, read_of, read_record}
use Rattle.format.proofs.DamagedLines.{part_bytes}
use Rattle.format.proofs.Refusals.{Gives}
use Rattle.format.proofs.Exactly.{read_exact, record_exact, read_honest}
use Rattle.subjects.specs.Keys.{Key}
use Rattle.subjects.proofs.Keys.{key}
use Rattle.put.specs.Made.{Writes}
use Rattle.put.specs.declared.Written.{Written}
use Rattle.given.proofs.Given.{said_own, said_short, said_whole, refusal_leaves}
use Rattle.fingerprint.specs.Fingerprint.{print_of, right_print, check_by, check_fingerprint, write_fingerprint}
use Rattle.fingerprint.specs.declared.Checked.{Checked}
use Rattle.fingerprint.proofs.Prints.{print_length}
use Rattle.promises.proofs.Statements.Refusals.{of_pubkeys}
use Rattle.promises.proofs.Statements.Fingerprint.{standing, right, CheckSaid, WriteSaid, Fingerprints}
use Rattle.promises.proofs.Refusals.{pubkey_given}
use Rattle.sha384.proofs.Digest.{digest_bytes}

-- ---- what an accepted public key is answered

module _ (s : Bytes) where
  said_of : (k : Key s) → check_fingerprint s ≡ record { no = cond (same (standing k) (right k)) 0 wrong_fingerprint; field = 0 }
  unfolding check_fingerprint
  said_of k = rw (k.is, k.known)

  -- 0 and 15 are given to no other
  its_key : answer (read_of pubkey_kinds s) ≡ 0 → Key s
  its_key z = let (k, fs, e) = read_honest pubkey_kinds s z in key s k fs e

  zero_accepted : (o : Outcome) → (check_by o).no ≡ 0 → answer o ≡ 0
  zero_accepted (accepted k fs) h = refl
  zero_accepted (refused n i) h = h

  differs_accepted : (o : Outcome) → Gives of_pubkeys o → (check_by o).no ≡ wrong_fingerprint → answer o ≡ 0
  differs_accepted (accepted k fs) g h = refl
  differs_accepted (refused n i) g h = absurd (rw h at g)

  pub_key : (check_fingerprint s).no ≡ 0 → Key s
  unfolding check_fingerprint
  pub_key h = its_key (zero_accepted (read_of pubkey_kinds s) h)

  other_key : (check_fingerprint s).no ≡ wrong_fingerprint → Key s
  unfolding check_fingerprint
  other_key h = its_key (differs_accepted (read_of pubkey_kinds s) (pubkey_given s) h)

-- ---- the call that checks

abbrev number-of : Bool → ℕ
number-of b = cond b 0 wrong_fingerprint

same_zero : (x y : Bytes) → number-of (same x y) ≡ 0 → x ≡ y
same_zero x y h = by_test (same x y) (λ t. same→eq x y t) (λ t. let e = T_false (same x y) t in absurd (let z : wrong_fingerprint ≡ 0 = rw e at h in omega arith))

same_other : (x y : Bytes) → number-of (same x y) ≡ wrong_fingerprint → x ≢ y
same_other x y h e = let z : 0 ≡ wrong_fingerprint = rw (same_true x y e) at h in absurd (omega arith)

all_records : (k : Kind) → T (among k pubkey_kinds) → T (among k record_kinds)
all_records SMMAN t = absurd t
all_records SMID t = absurd t
all_records KMCID t = absurd t
all_records ECDSA t = tt
all_records ECDH t = tt
all_records REQ t = absurd t
all_records RESP t = absurd t
all_records KEY t = absurd t

record_keeps : (s : Bytes) (k : Key s) → read_record s ≡ accepted k.kind k.fields
record_keeps s k =
    let b = (read_exact pubkey_kinds s k.kind k.fields).0 k.is in
    (record_exact s k.kind k.fields).1 (record { of-kind = all_records k.kind b.of-kind; permitted = b.permitted; built = b.built })

check_said : (s : Bytes) (r : Checked) → r ≡ check_fingerprint s → CheckSaid s r
unfolding check_fingerprint
check_said s r e =
    let no : r.no ≡ (check_fingerprint s).no = ap (λ (c : Checked). c.no) e in
    let of : (k : Key s) → r.no ≡ number-of (same (standing k) (right k)) = λ k. no ∙ ap (λ (c : Checked). c.no) (said_of s k) in
    record {
      own = λ n i h. e ∙ rw h;
      agrees = (λ z. let k = pub_key s (sym no ∙ z) in (k, same_zero (standing k) (right k) (sym (of k) ∙ z)), λ (k, p). of k ∙ ap number-of (same_true (standing k) (right k) p));
      differs = (λ z. let k = other_key s (sym no ∙ z) in (k, same_other (standing k) (right k) (sym (of k) ∙ z)), λ (k, p). of k ∙ ap number-of (same_false (standing k) (right k) p));
      kept = record_keeps s;
    }

-- ---- the call that writes

write_said : (s out out' : Bytes) (r : Written) → Writes (write_fingerprint s (length out)) out out' r → WriteSaid s out out' r
unfolding write_fingerprint
write_said s out out' r w =
    let print : Kind → List Bytes → Bytes = λ k fs. right_print fs in
    let so : (k : Key s) → right_print k.fields ≡ right k = λ k. rw k.known in
    let long : (k : Key s) → length (right_print k.fields) ≡ 16 = λ k. ap length (so k) ∙ print_length _ in
    record {
      own = said_own print w;
      short = λ k h. said_short print w k.is (omega (arith, long k));
      written = λ k h. rw (long k, so k) at (said_whole print w k.is (omega (arith, long k)));
      untouched = refusal_leaves (write_fingerprint s (length out)) w;
    }

-- ---- the characters

printed : (text : Bytes) → T (is_print (print_of text))
unfolding sha384 left384
printed text = base16_hex 16 (take 8 (sha384 text)) (part_bytes 0 8 (sha384 text) (digest_bytes text)) refl

pub fingerprints : Fingerprints
fingerprints = record { checked = λ κs a r s p. check_said a.0.now r p; written = λ κs a r s p. write_said _ _ _ r p; is-print = printed }
