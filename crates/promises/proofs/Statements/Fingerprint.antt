-- The Fingerprint of a public key: document 02, E3; STS 600-4-2, clauses 6.1 and 7.1. 15 exactly when it is not the right one, and from the
-- call that checks it alone; the right one is written, so that nobody has to ask for it.
-- Assumes nothing.
use Rattle.std.specs.Prelude.{ℕ, ◌≤◌, ◌<◌, ◌≡◌, ◌↔◌, ◌≢◌, [], ◌++◌, length, drop, get_or, T}
use Rattle.text.specs.Text.{Bytes, is_print}
use Rattle.numbers.specs.Numbers.{short_output, wrong_fingerprint}
use Rattle.format.specs.Kinds.{pubkey_kinds}
use Rattle.format.specs.Read.{accepted, refused, read_of, read_record}
use Rattle.subjects.specs.Keys.{Key}
use Rattle.put.specs.declared.Written.{Written}
use Rattle.fingerprint.specs.Fingerprint.{hash_text, print_of, fingerprint}
use Rattle.fingerprint.specs.declared.Checked.{Checked}
use Rattle.fingerprint.proofs.check_fingerprint.Reads as check
use Rattle.fingerprint.proofs.write_fingerprint.Reads as write
use Rattle.promises.specs.Calls.{Holds}

-- of an accepted public key: the Fingerprint that stands in its Subject, and the one that is right: HEX(16) of the first eight bytes of the hash of the
-- Subject's kind name, Manufacturer, MID and GNT, and of Q, each followed by ':'
abbrev pub standing : {s : Bytes} → Key s → Bytes
standing k = fingerprint k.names

abbrev pub right : {s : Bytes} → Key s → Bytes
right k = print_of (hash_text k.who k.names (get_or k.fields 1 []))

-- the call that checks was lent s and answered r
pub record CheckSaid (s : Bytes) (r : Checked) : Type 0 where
  -- the record's own refusals come first, all of them; any kind but a public key's has one
  pub own : (n i : ℕ) → read_of pubkey_kinds s ≡ refused n i → r ≡ record { no = n; field = i }
  -- 0 exactly for an accepted public key in whose Subject the right Fingerprint stands, and 15 exactly where another one does
  pub agrees : (r.no ≡ 0) ↔ ((k : Key s) × (standing k ≡ right k))
  pub differs : (r.no ≡ wrong_fingerprint) ↔ ((k : Key s) × (standing k ≢ right k))
  -- the record call keeps its answers: it accepts a public key whatever Fingerprint stands there
  pub kept : (k : Key s) → read_record s ≡ accepted k.kind k.fields

-- the call that writes was lent s and the output out, left it as out' and answered r
pub record WriteSaid (s out out' : Bytes) (r : Written) : Type 0 where
  pub own : (n i : ℕ) → read_of pubkey_kinds s ≡ refused n i → (r.no ≡ n) × (r.field ≡ i)
  pub short : Key s → length out < 16 → (r.no ≡ short_output) × (r.field ≡ 0)
  -- the right one stands at the front, whatever stands in the Subject, and every byte past it stays
  pub written : (k : Key s) → 16 ≤ length out → (r.no ≡ 0) × (r.len ≡ 16) × (out' ≡ right k ++ drop 16 out)
  -- demand 1
  pub untouched : r.no ≢ 0 → (r.len ≡ 0) × (out' ≡ out)

pub record Fingerprints : Type 0 where
  pub checked : Holds check.Post (λ κs a r s. CheckSaid a.0.now r)
  pub written : Holds write.Post (λ κs a r s. WriteSaid a.0.now a.1.0.now s.1.0.now r)
  -- what is written is a PRINT, so that the Subject may have it
  pub is-print : (text : Bytes) → T (is_print (print_of text))
