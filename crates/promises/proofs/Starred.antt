-- The starred values, each computed by the checker.
-- Assumes nothing.
use mathlib.Core.Path.{refl}
use Rattle.crc16.specs.Crc.{bit_step, bit_steps, add, add_all, crc_of}
use Rattle.text.specs.Text.{looks, number_from, is_timestamp, is_hex}
use Rattle.text.specs.Base16.{hex_digit, check_text}
use Rattle.format.specs.Build.{with_check, record_of}
use Rattle.promises.specs.Values.{AllCome}
use Rattle.promises.specs.Worked.{module_id_fields, module_id, centre_id_fields, centre_id, centre_key_fields, centre_key, request_fields, request, response_fields, response}
use Rattle.promises.specs.Starred.{starred}

pub all_starred : AllCome starred
unfolding starred module_id_fields module_id centre_id_fields centre_id centre_key_fields centre_key request request_fields response_fields response record_of with_check check_text hex_digit crc_of add_all add bit_steps bit_step is_timestamp looks number_from is_hex
all_starred =
    (refl, (refl, (refl, (refl, (refl, (refl, (refl, (refl, (refl, (refl, (refl, (refl, (refl, (refl, (refl, (refl, (refl, (refl, tt))))))))))))))))))
