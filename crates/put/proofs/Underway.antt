-- A loop that writes: what is written, and what is left to write.
-- Assumes nothing.
use Prim.Native.Nat.{ℕ, ◌+◌, ◌≤◌}
use mathlib.Core.Path.{◌≡◌, refl, sym, ap, ◌∙◌}
use mathlib.Core.List.{[], ◌++◌, append_assoc, append-nil}
use native.Mathlib.Omega.{arith}
use lib.ListN.{length, length-append}
use Rattle.text.specs.Text.{Bytes}
use Rattle.put.specs.Put.{Put}
use Rattle.put.proofs.Pieces.{put_none, put_length, put_as, put_then}

-- of v, which has room at place k of o, all but rest is written, which gives out; at is the place after it
pub record Underway (o : Bytes) (k : ℕ) (v rest out : Bytes) (at : ℕ) : Type 0 where
  pub room : k + length v ≤ length o
  pub front : Bytes
  pub put : Put o k front out at
  pub whole : front ++ rest ≡ v

pub begin : {o v : Bytes} {k : ℕ} → k + length v ≤ length o → Underway o k v v o k
begin h = record { room = h; front = []; put = put_none (omega arith); whole = refl }

module _ {o v rest out : Bytes} {k at : ℕ} (u : Underway o k v rest out at) where
  keeps_length : length out ≡ length o
  keeps_length = put_length u.put

  module _ (w r : Bytes) (e : rest ≡ w ++ r) where
    pub has_room : at + length w ≤ length out
    has_room =
        omega (arith, u.room, u.put.next, keeps_length, length-append u.front rest, ap length u.whole, ap length e, length-append w r)

    pub go_on : {out' : Bytes} {at' : ℕ} → Put out at w out' at' → Underway o k v r out' at'
    go_on p = record {
      room = u.room;
      front = u.front ++ w;
      put = put_then u.put p;
      whole = append_assoc u.front w r ∙ rw (← e) u.whole;
    }

  pub finish : rest ≡ [] → Put o k v out at
  finish e = put_as (sym (append-nil u.front) ∙ rw (← e) u.whole) u.put
