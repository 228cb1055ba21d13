-- The newer of two public keys: document 01, "Files of records and the newer key", number 13.
-- Assumes nothing.
use Rattle.std.specs.Prelude.{ℕ, ◌≡◌, ◌↔◌, ◌⊎◌, ◌≢◌, false, T}
use Rattle.std.specs.Borrow.{Bor}
use Rattle.text.specs.Text.{Bytes, is_timestamp}
use Rattle.text.specs.Part.{NoPart}
use Rattle.text.specs.Later.{later}
use Rattle.numbers.specs.Numbers.{not_alike}
use Rattle.format.specs.Kinds.{pubkey_kinds}
use Rattle.format.specs.Read.{refused, read_of}
use Rattle.newer.specs.Keys.{Key, gnt_of, Agreed}
use Rattle.newer.specs.declared.Choice.{Choice}
use Rattle.newer.proofs.newer.Reads as call
use Rattle.newer.proofs.newer_of.Reads as choice
use Rattle.promises.specs.Calls.{Holds}

-- a call that was lent the records a and b handed back the part with this number and field number. A part is more than its bytes: `part ≡ a` says that it
-- is the first record itself, where it stands
pub record NewerSaid (a b part : Bor Bytes) (number field : ℕ) : Type 0 where
  -- 0 exactly for two accepted public keys whose Subjects agree in kind, Manufacturer and MID
  pub exactly : (number ≡ 0) ↔ Agreed a.now b.now
  -- then the part is one of the two records itself, and its GNT is not earlier than the other's
  pub not_earlier : number ≡ 0 → (p : Key a.now) (q : Key b.now)
      → ((part ≡ a) × (later (gnt_of q) (gnt_of p) ≡ false)) ⊎ ((part ≡ b) × (later (gnt_of p) (gnt_of q) ≡ false))
  -- the first when equal
  pub first_when_equal : number ≡ 0 → (p : Key a.now) (q : Key b.now) → gnt_of p ≡ gnt_of q → part ≡ a
  -- the first record's refusals come before the second's, then 13
  pub first_refused : (n i : ℕ) → read_of pubkey_kinds a.now ≡ refused n i → (number ≡ n) × (field ≡ i)
  pub second_refused : Key a.now → (n i : ℕ) → read_of pubkey_kinds b.now ≡ refused n i → (number ≡ n) × (field ≡ i)
  pub not_alike : Key a.now → Key b.now → number ≢ 0 → (number ≡ not_alike) × (field ≡ 0)
  -- demand 1: the empty part of the first
  pub nothing : number ≢ 0 → NoPart a part

-- the same of the call that answers which of the two it is, 1 or 2
pub record ChoiceSaid (a b : Bytes) (r : Choice) : Type 0 where
  pub exactly : (r.no ≡ 0) ↔ Agreed a b
  pub not_earlier : r.no ≡ 0 → (p : Key a) (q : Key b)
      → ((r.which ≡ 1) × (later (gnt_of q) (gnt_of p) ≡ false)) ⊎ ((r.which ≡ 2) × (later (gnt_of p) (gnt_of q) ≡ false))
  pub first_when_equal : r.no ≡ 0 → (p : Key a) (q : Key b) → gnt_of p ≡ gnt_of q → r.which ≡ 1
  -- the first record's refusals come before the second's; with 13 it is neither alone
  pub first_refused : (n i : ℕ) → read_of pubkey_kinds a ≡ refused n i → r ≡ record { no = n; field = i; which = 1 }
  pub second_refused : Key a → (n i : ℕ) → read_of pubkey_kinds b ≡ refused n i → r ≡ record { no = n; field = i; which = 2 }
  pub not_alike : Key a → Key b → r.no ≢ 0 → r ≡ record { no = not_alike; field = 0; which = 0 }

pub record Newer : Type 0 where
  pub said : Holds call.Post (λ κs a r s. NewerSaid a.0 a.1.0 r s.1.1.0.now s.1.1.1.0.now)
  pub which : Holds choice.Post (λ κs a r s. ChoiceSaid a.0.now a.1.0.now r)
  -- later is an order: two TIMESTAMPs of which neither is later are one text. That it is the order of the texts and of the parts of the date: `later_so` of Dates
  pub neither : (s t : Bytes) → T (is_timestamp s) → T (is_timestamp t) → later s t ≡ false → later t s ≡ false → s ≡ t
