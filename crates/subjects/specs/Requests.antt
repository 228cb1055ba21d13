-- An accepted load request with its ID_SM, an accepted identity of a module.
-- Assumes nothing.
use Rattle.std.specs.Prelude.{◌≡◌, List, [], ◌∷◌}
use Rattle.text.specs.Text.{Bytes}
use Rattle.format.specs.Kinds.{SMID, REQ}
use Rattle.format.specs.Requests.{id_sm}
use Rattle.format.specs.Read.{accepted, read_identity, read_of}

-- s is accepted as a load request, and the ID_SM in it is an identity with the fields `names`
pub record Request (s : Bytes) : Type 0 where
  pub fields : List Bytes
  pub is : read_of (REQ ∷ []) s ≡ accepted REQ fields
  pub names : List Bytes
  pub known : read_identity (id_sm fields) ≡ accepted SMID names
