-- The number of Expiry: of a public key that the rules accept it is that of its field, and of any other record 0.
-- Assumes nothing.
use mathlib.Core.Path.{◌≡◌, sym, ap, ◌∙◌}
use lib.Dec.{T, lit<}
use lib.IntN.{ℤ, pos}
use native.Mathlib.Omega.{arith}
use mir.Syntax.{w64}
use mir.Val.{SFits, of_z, to_z}
use mir.ValLaws.{to_z-of_z}
use Rattle.text.specs.Text.{Bytes, is_timestamp}
use Rattle.text.specs.Seconds.{seconds, moment_of}
use Rattle.text.proofs.Seconds.{moment_seconds, moment_fits}
use Rattle.format.specs.Kinds.{pubkey_kinds}
use Rattle.format.specs.Build.{BuiltUnder, Fits, IsIdentity}
use Rattle.format.specs.Read.{Outcome, accepted, refused, read_under}
use Rattle.format.specs.declared.Rules.{Rules}
use Rattle.format.specs.declared.Rules.TheVariants.{UpToE10}
use Rattle.format.proofs.Table.{pubkey_row}
use Rattle.format.proofs.Fields.{fit_at}
use Rattle.format.proofs.Exactly.{under_exact, under_says}
use Rattle.places.specs.Places.{field_at}
use Rattle.reading.specs.Reading.{answer_of}
use Rattle.reading.specs.declared.Answer.{Answer}
use Rattle.reading.proofs.Answers.{taken, untaken}
use Rattle.subjects.specs.Keys.{KeyUnder, Key}
use Rattle.subjects.proofs.Keys.{key_under, earlier_key, its_field}
use Rattle.expiry.specs.Expiry.{expiry, expiry_by, expiry_under, expiry_of}
use Rattle.expiry.specs.declared.Expiry.{Expiry}

-- ---- of an accepted public key

module _ {rules : Rules} {s : Bytes} (k : KeyUnder rules s) where
  -- Expiry is a TIMESTAMP
  pub expiry_stamp : T (is_timestamp (expiry k.fields))
  unfolding Fits
  expiry_stamp =
      let b = (under_exact rules pubkey_kinds s k.kind k.fields).0 k.is in
      fit_at IsIdentity _ k.fields (rw (pubkey_row k.kind b.of-kind).1 at b.permitted.fit) 2 (lit< tt)

  pub expiry_accepted : expiry_under rules s ≡ record { no = 0; field = 0; seconds = (moment_of (expiry k.fields)).seconds }
  unfolding expiry_under
  expiry_accepted = rw k.is

  pub expiry_seconds : (expiry_under rules s).seconds ≡ seconds (expiry k.fields)
  expiry_seconds = ap (λ (x : Expiry). x.seconds) expiry_accepted ∙ moment_seconds (expiry k.fields) expiry_stamp

-- of one that today's rules accept those up to E10 say the same
pub earlier_expiry : {s : Bytes} → Key s → expiry_under UpToE10 s ≡ expiry_of s
unfolding expiry_under
earlier_expiry k = ap expiry_by ((earlier_key k).is ∙ sym k.is)

-- the number fits 64 bits, whatever the record
pub expiry_fits : (rules : Rules) (s : Bytes) → SFits w64 (expiry_under rules s).seconds
unfolding expiry_under
expiry_fits rules s = go (read_under rules pubkey_kinds s)
  where
    go : (o : Outcome) → SFits w64 (expiry_by o).seconds
    go (accepted k fs) = moment_fits (expiry fs)
    go (refused n i) = record { sfits = omega arith }

-- as the machine reads it back from the answer
pub expiry_back : (rules : Rules) (s : Bytes) {x : Expiry} → x ≡ expiry_under rules s → to_z w64 (of_z w64 x.seconds) ≡ (expiry_under rules s).seconds
expiry_back rules s e = ap (λ (x : Expiry). to_z w64 (of_z w64 x.seconds)) e ∙ to_z-of_z w64 (expiry_under rules s).seconds (expiry_fits rules s)

-- ---- as the code answers, where r is what the reading answered

module _ (rules : Rules) (s : Bytes) (r : Answer) (e : r ≡ answer_of (read_under rules pubkey_kinds s)) where
  pub said_refused : (r.no ≡ 0 → ⊥) → record { no = r.no; field = r.field; seconds = pos 0 } ≡ expiry_under rules s
  unfolding expiry_under
  said_refused z = rw (untaken (read_under rules pubkey_kinds s) r e z)

  pub said_accepted : r.no ≡ 0 → (t : Bytes) → t ≡ field_at s r.starts r.lens 3 → (z : ℤ) → z ≡ (moment_of t).seconds
      → record { no = 0; field = 0; seconds = z } ≡ expiry_under rules s
  unfolding expiry_under
  said_accepted z t f y g =
      let o = taken (BuiltUnder rules pubkey_kinds s) (read_under rules pubkey_kinds s) r (under_says rules pubkey_kinds s) e z in
      let k = key_under rules s o.kind o.fields o.is in
      rw k.is (ap (λ (x : ℤ). record { no = 0; field = 0; seconds = x }) (g ∙ ap (λ (x : Bytes). (moment_of x).seconds) (f ∙ its_field s k r e 2)))
