-- When a public key expires, as a number: document 02, E9. The record's own refusals come before.
-- Assumes nothing.
use Rattle.std.specs.Prelude.{List, [], pos, get_or}
use Rattle.text.specs.Text.{Bytes}
use Rattle.text.specs.Seconds.{moment_of}
use Rattle.format.specs.Kinds.{pubkey_kinds}
use Rattle.format.specs.Read.{Outcome, accepted, refused, read_under}
use Rattle.format.specs.declared.Rules.{Rules}
use Rattle.format.specs.declared.Rules.TheVariants.{Today}
use Rattle.expiry.specs.declared.Expiry.{Expiry}

-- of the fields of a public key
abbrev pub expiry : List Bytes → Bytes
expiry fs = get_or fs 2 []

-- the number that the date call gives for it; 0 with a refusal
abbrev pub expiry_by : Outcome → Expiry
expiry_by (accepted k fs) = record { no = 0; field = 0; seconds = (moment_of (expiry fs)).seconds }
expiry_by (refused n i) = record { no = n; field = i; seconds = pos 0 }

-- under some rules, and today
unfoldable pub expiry_under : Rules → Bytes → Expiry
expiry_under rules s = expiry_by (read_under rules pubkey_kinds s)

abbrev pub expiry_of : Bytes → Expiry
expiry_of = expiry_under Today
