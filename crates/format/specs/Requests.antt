-- The fields of a load request by their names: document 01, "Seven kinds of record", the row of VKLOAD.REQ.1.
-- Assumes nothing.
use Rattle.std.specs.Prelude.{List, [], get_or}
use Rattle.text.specs.Text.{Bytes}

abbrev pub id_sm : List Bytes → Bytes
id_sm fs = get_or fs 0 []

abbrev pub id_kmc : List Bytes → Bytes
id_kmc fs = get_or fs 1 []

abbrev pub tvp : List Bytes → Bytes
tvp fs = get_or fs 2 []

abbrev pub hwid : List Bytes → Bytes
hwid fs = get_or fs 3 []

abbrev pub fwid : List Bytes → Bytes
fwid fs = get_or fs 4 []
