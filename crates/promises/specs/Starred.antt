-- The starred values of document 01, "Values on each side", as one set. proofs/Starred.antt proves `AllCome starred` by
-- computing each.
-- Assumes nothing.
use Rattle.std.specs.Prelude.{true, false, List, [], ◌∷◌, length}
use Rattle.crc16.specs.Crc.{crc_of}
use Rattle.text.specs.Text.{ascii, is_timestamp, is_hex}
use Rattle.items.specs.Items.{lv_concat}
use Rattle.agreement.specs.Texts.{shared_items, module_items, centre_items}
use Rattle.promises.specs.Values.{Value, number, bytes, test}
use Rattle.promises.specs.Worked.{module_id, centre_id, centre_key, request_fields, request, response}

unfoldable pub starred : List Value
starred =
    number (crc_of []) 0xFFFF
    ∷ number (crc_of (0x00 ∷ [])) 0x40BF
    ∷ number (crc_of (ascii "123456789")) 0x4B37
    ∷ number (length module_id) 60
    ∷ number (length centre_id) 73
    ∷ number (length centre_key) 302
    ∷ number (length request) 434
    ∷ number (length response) 219
    ∷ bytes (lv_concat (ascii "AB" ∷ ascii "C" ∷ [])) (0x02 ∷ 0x02 ∷ 0x41 ∷ 0x42 ∷ 0x01 ∷ 0x43 ∷ [])
    ∷ bytes (lv_concat (ascii "A" ∷ ascii "BC" ∷ [])) (0x02 ∷ 0x01 ∷ 0x41 ∷ 0x02 ∷ 0x42 ∷ 0x43 ∷ [])
    ∷ bytes (lv_concat ([] ∷ [])) (0x01 ∷ 0x00 ∷ [])
    ∷ bytes (lv_concat []) (0x00 ∷ [])
    ∷ number (length (lv_concat (shared_items request_fields))) 163
    ∷ number (length (lv_concat (module_items request_fields))) 276
    ∷ number (length (lv_concat (centre_items request_fields))) 254
    ∷ test (is_timestamp (ascii "20180110T230000Z")) true
    ∷ test (is_timestamp (ascii "20180110T240000Z")) false
    ∷ test (is_hex 2 (ascii "0a")) false
    ∷ []
