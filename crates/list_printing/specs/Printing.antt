-- What the printing call answers of the list: its length. Whether the kernel took it no definition can say.
-- Assumes nothing.
use Rattle.std.specs.Prelude.{ℕ, length}
use Rattle.text.specs.Text.{Bytes}
use Rattle.list_text.specs.Listing.{list_text}

abbrev pub print_list : Bytes → ℕ
print_list file = length (list_text file)
