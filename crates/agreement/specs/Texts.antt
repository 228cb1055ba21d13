-- The three key agreement texts: document 01, "Key agreement texts"; STS 600-4-2, clause 5.6. The request's own refusal comes
-- first (any kind but VKLOAD.REQ.1 answers 2, in its normal place), then 10.
-- Assumes nothing.
use Rattle.std.specs.Prelude.{ℕ, List, [], ◌∷◌, get_or}
use Rattle.text.specs.Text.{Bytes, ascii}
use Rattle.text.specs.Base16.{base16_decode}
use Rattle.format.specs.Kinds.{REQ}
use Rattle.format.specs.Requests.{id_sm, id_kmc, tvp, hwid, fwid}
use Rattle.format.specs.Read.{read_of}
use Rattle.items.specs.Items.{lv_concat}
use Rattle.put.specs.Made.{Made}
use Rattle.given.specs.Given.{given}

-- ---- the items: QE goes in as 97 decoded bytes; all else as the request's own bytes

abbrev pub qe : List Bytes → Bytes
qe fs = base16_decode (get_or fs 5 [])

abbrev pub shared_items : List Bytes → List Bytes
shared_items fs = ascii "STS.KAA.1" ∷ id_sm fs ∷ id_kmc fs ∷ tvp fs ∷ []

abbrev pub module_items : List Bytes → List Bytes
module_items fs = ascii "U_2" ∷ id_sm fs ∷ id_kmc fs ∷ qe fs ∷ tvp fs ∷ hwid fs ∷ fwid fs ∷ []

abbrev pub centre_items : List Bytes → List Bytes
centre_items fs = ascii "V2" ∷ id_kmc fs ∷ id_sm fs ∷ tvp fs ∷ qe fs ∷ []

-- ---- the calls: what the text of these items is of a request, for an output of length `room`

abbrev pub text_made : (List Bytes → List Bytes) → Bytes → ℕ → Made
text_made items request room = given (λ k fs. lv_concat (items fs)) room (read_of (REQ ∷ []) request)

unfoldable pub shared_info : Bytes → ℕ → Made
shared_info request room = text_made shared_items request room

unfoldable pub module_text : Bytes → ℕ → Made
module_text request room = text_made module_items request room

unfoldable pub centre_text : Bytes → ℕ → Made
centre_text request room = text_made centre_items request room
