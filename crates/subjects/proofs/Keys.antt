-- What is known of a public key that some rules accept: its Subject is an accepted identity, and its fields stand where the code looks for them.
-- Assumes nothing.
use Prim.Native.Nat.{ℕ, suc}
use mathlib.Core.Path.{◌≡◌, ap, ◌∙◌}
use mathlib.Core.List.{List, []}
use lib.ListN.{get_or}
use lib.Dec.{lit<}
use Rattle.text.specs.Text.{Bytes}
use Rattle.format.specs.Kinds.{Kind, pubkey_kinds}
use Rattle.format.specs.Build.{Fits, IsIdentity}
use Rattle.format.specs.Read.{accepted, read_under, read_of}
use Rattle.format.specs.declared.Rules.{Rules}
use Rattle.format.specs.declared.Rules.TheVariants.{UpToE10, Today}
use Rattle.format.proofs.Table.{pubkey_row}
use Rattle.format.proofs.Fields.{fit_at}
use Rattle.format.proofs.Exactly.{ask_complete, under_exact, its_parts, its_few}
use Rattle.format.proofs.Earlier.{earlier_accepts}
use Rattle.places.specs.Places.{field_at}
use Rattle.places.proofs.Stands.{record-field}
use Rattle.reading.specs.Reading.{answer_of}
use Rattle.reading.specs.declared.Answer.{Answer}
use Rattle.subjects.specs.Keys.{subject, KeyUnder, Key}

pub key_under : (rules : Rules) (s : Bytes) (k : Kind) (fs : List Bytes) → read_under rules pubkey_kinds s ≡ accepted k fs → KeyUnder rules s
unfolding Fits
key_under rules s k fs e =
    let b = (under_exact rules pubkey_kinds s k fs).0 e in
    let inner = fit_at IsIdentity _ fs (rw (pubkey_row k b.of-kind).1 at b.permitted.fit) 0 (lit< tt) in
    let asked = ask_complete inner.0 (subject fs) inner.2 in
    record { kind = k; fields = fs; is = e; who = inner.0; names = asked.0; known = asked.1 }

pub key : (s : Bytes) (k : Kind) (fs : List Bytes) → read_of pubkey_kinds s ≡ accepted k fs → Key s
key = key_under Today

-- what today's rules accept those up to E10 accept with the same fields
abbrev pub earlier_key : {s : Bytes} → Key s → KeyUnder UpToE10 s
earlier_key {s} k =
    record { kind = k.kind; fields = k.fields; is = (earlier_accepts pubkey_kinds s k.kind k.fields k.is).0; who = k.who; names = k.names; known = k.known }

-- the field of number suc j, of any record that was read
pub read_field : (rules : Rules) (ks : List Kind) (s : Bytes) {k : Kind} {fs : List Bytes} → read_under rules ks s ≡ accepted k fs → (r : Answer) → r ≡ answer_of (read_under rules ks s) → (j : ℕ)
    → field_at s r.starts r.lens (suc j) ≡ get_or fs j []
read_field rules ks s {k} {fs} is r e j =
    let b = (under_exact rules ks s k fs).0 is in
    ap (λ (x : Answer). field_at s x.starts x.lens (suc j)) (e ∙ ap answer_of is) ∙ record-field k s fs (its_few b) (its_parts b) (suc j)

pub its_field : {rules : Rules} (s : Bytes) (k : KeyUnder rules s) (r : Answer) → r ≡ answer_of (read_under rules pubkey_kinds s) → (j : ℕ) → field_at s r.starts r.lens (suc j) ≡ get_or k.fields j []
its_field {rules} s k = read_field rules pubkey_kinds s k.is
