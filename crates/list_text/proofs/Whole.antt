-- The three ways of the call that writes the list, and what it says and leaves.
-- Assumes nothing.
use Prim.Native.Nat.{ℕ, ◌≤◌, ◌<◌}
use mathlib.Core.Path.{◌≡◌, sym, ap}
use mathlib.Core.List.{◌++◌}
use native.Mathlib.Omega.{arith}
use lib.ListN.{length, take, drop, length-append}
use lib.Seq.{take_at}
use borrow.Author.Tests.{le-leb, lt-leb}
use Rattle.text.specs.Text.{Bytes}
use Rattle.numbers.specs.Numbers.{short_output}
use Rattle.put.specs.Put.{Put}
use Rattle.put.specs.Made.{made, denied, says, Writes}
use Rattle.put.specs.declared.Written.{Written}
use Rattle.put.proofs.Pieces.{put_whole, put_denied}
use Rattle.list_text.specs.Listing.{too_big, most, list_text, list_room, write_list}

-- ---- the three ways

pub says_too_big : (file : Bytes) → most < length file → too_big ≡ list_text file
unfolding list_text
says_too_big file h = rw (lt-leb (length file) most h)

pub list_none : (file o : Bytes) → length o < list_room → (r : Written) → r ≡ says (denied short_output 0) → Writes (write_list file (length o)) o o r
unfolding write_list
list_none file o h r q = rw (lt-leb list_room (length o) h) (put_denied r q)

pub list_written : (file : Bytes) {o out : Bytes} {n : ℕ} → list_room ≤ length o → Put o 0 (list_text file) out n
    → Writes (write_list file (length o)) o out (record { no = 0; field = 0; len = n })
unfolding write_list
list_written file {o} h p = rw (le-leb list_room (length o) h) (put_whole p)

-- ---- what the call says and leaves: where there is room, and where there is not

module _ (file : Bytes) {o out : Bytes} {r : Written} (room : list_room ≤ length o) (w : Writes (write_list file (length o)) o out r) where
  all_made : Writes (made (list_text file)) o out r
  unfolding write_list
  all_made = rw (le-leb list_room (length o) room) at w

  pub list-said : r ≡ record { no = 0; field = 0; len = length (list_text file) }
  list-said = all_made.said

  pub list_left : out ≡ list_text file ++ drop (length (list_text file)) o
  list_left = all_made.left

  list_long : length (list_text file) ≡ r.len
  list_long = sym (ap (λ (x : Written). x.len) list-said)

  pub list_inside : r.len ≤ length out
  list_inside = omega (arith, list_long, ap length list_left, length-append (list_text file) (drop (length (list_text file)) o))

  pub list_front : take r.len out ≡ list_text file
  list_front = rw list_left (take_at (list_text file) (drop (length (list_text file)) o) r.len list_long)

module _ (file : Bytes) {o out : Bytes} {r : Written} (short : length o < list_room) (w : Writes (write_list file (length o)) o out r) where
  none_made : Writes (denied short_output 0) o out r
  unfolding write_list
  none_made = rw (lt-leb list_room (length o) short) at w

  pub list_denied : r ≡ says (denied short_output 0)
  list_denied = none_made.said

  pub list_kept : out ≡ o
  list_kept = none_made.left
