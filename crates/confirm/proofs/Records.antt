-- What the calls find in an accepted request and in an accepted response: the tags, and whether one answers the other.
-- Assumes nothing.
use Prim.Native.Nat.{ℕ}
use mathlib.Core.Path.{◌≡◌}
use mathlib.Core.List.{List}
use native.Mathlib.Omega.{arith}
use lib.Dec.{T}
use Rattle.text.specs.Text.{Bytes, is_hex}
use Rattle.format.specs.Kinds.{REQ, RESP, fields_of}
use Rattle.format.specs.Build.{Fits, IsIdentity, Permitted}
use Rattle.format.proofs.Fields.{fit_at}
use Rattle.agreement.specs.Steps.{field_no}
use Rattle.confirm.specs.Confirm.{request_tag, response_tag, answers}
use Rattle.confirm.specs.Steps.{answers_at}

-- ---- MacTag is of its type

pub request-tag : (fs : List Bytes) → Permitted REQ fs → T (is_hex 48 (request_tag fs))
unfolding Fits
request-tag fs p = fit_at IsIdentity (fields_of REQ) fs p.fit 6 (omega arith)

pub response-tag : (gs : List Bytes) → Permitted RESP gs → T (is_hex 48 (response_tag gs))
unfolding Fits
response-tag gs p = fit_at IsIdentity (fields_of RESP) gs p.fit 3 (omega arith)

-- ---- whether one answers the other, by the fields f of a request and g of a response

pub answers_so : (f g : ℕ → Bytes) (fs gs : List Bytes) → ((n : ℕ) → f n ≡ field_no fs n) → ((n : ℕ) → g n ≡ field_no gs n) → answers_at f g ≡ answers fs gs
answers_so f g fs gs p q = rw (p 2, p 1, p 3, q 1, q 2, q 3)
