-- What is known of an accepted load request: its ID_SM is an accepted identity of a module, and its TVP is a TIMESTAMP.
-- Assumes nothing.
use mathlib.Core.Path.{◌≡◌}
use mathlib.Core.List.{List, [], ◌∷◌}
use lib.Dec.{T, lit<}
use Rattle.text.specs.Text.{Bytes, is_timestamp}
use Rattle.format.specs.Kinds.{Kind, SMID, REQ, fields_of}
use Rattle.format.specs.Requests.{id_sm, tvp}
use Rattle.format.specs.Build.{Fits, IsIdentity}
use Rattle.format.specs.Read.{accepted, read_of}
use Rattle.format.proofs.Table.{among_one}
use Rattle.format.proofs.Fields.{fit_at}
use Rattle.format.proofs.Exactly.{ask_complete, read_exact}
use Rattle.subjects.specs.Requests.{Request}

pub request : (s : Bytes) (k : Kind) (fs : List Bytes) → read_of (REQ ∷ []) s ≡ accepted k fs → Request s
unfolding Fits
request s k fs e =
    let one = among_one k REQ ((read_exact (REQ ∷ []) s k fs).0 e).of-kind in
    let is : read_of (REQ ∷ []) s ≡ accepted REQ fs = rw one at e in
    let b = (read_exact (REQ ∷ []) s REQ fs).0 is in
    let inner = fit_at IsIdentity (fields_of REQ) fs b.permitted.fit 0 (lit< tt) in
    let asked = ask_complete SMID (id_sm fs) (rw (among_one inner.0 SMID inner.1) at inner.2) in
    record { fields = fs; is = is; names = asked.0; known = asked.1 }

pub request_tvp : {s : Bytes} (q : Request s) → T (is_timestamp (tvp q.fields))
unfolding Fits
request_tvp {s} q = fit_at IsIdentity (fields_of REQ) q.fields ((read_exact (REQ ∷ []) s REQ q.fields).0 q.is).permitted.fit 2 (lit< tt)
