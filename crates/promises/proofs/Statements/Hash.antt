-- SHA-384: document 02, E3; SHA-1: document 02, E6; FIPS 180-4. The calls are the definition, and what is given in slices is hashed as if given at once. Fixed.antt
-- has the published vectors.
-- Assumes nothing.
use Rattle.std.specs.Prelude.{◌≡◌, List, length}
use Rattle.text.specs.Text.{Bytes}
use Rattle.crc16.specs.Damage.{AreBytes}
use Rattle.sha384.specs.Sha384.{sha384}
use Rattle.sha384.specs.State.{begun, added, added_all, together, ended}
use Rattle.sha384.proofs.Sha384.begin.Reads as begin
use Rattle.sha384.proofs.Sha384.add.Reads as add
use Rattle.sha384.proofs.Sha384.end.Reads as end
use Rattle.sha384.proofs.sha384_of.Reads as sha384-of
use Rattle.sha_1.specs.Sha1.{sha1}
use Rattle.sha_1.specs.State as short
use Rattle.sha_1.proofs.Sha1.begin.Reads as sha1_begin
use Rattle.sha_1.proofs.Sha1.add.Reads as sha1_add
use Rattle.sha_1.proofs.Sha1.end.Reads as sha1_end
use Rattle.sha_1.proofs.sha1_of.Reads as sha1-of
use Rattle.promises.specs.Calls.{Answers}

pub record Hash : Type 0 where
  -- the call for one slice
  pub of_slice : Answers sha384-of.Post (λ κs a. sha384 a.0.now)
  -- a state: begun, given a slice, ended
  pub begins : Answers begin.Post (λ κs a. begun)
  pub adds : Answers add.Post (λ κs a. added a.0 a.1.0.now)
  pub ends : Answers end.Post (λ κs a. ended a.0)
  -- begun, given any slices one after another, and ended: the hash of what they are together
  pub in_slices : (ms : List Bytes) → ended (added_all begun ms) ≡ sha384 (together ms)
  -- 48 bytes, whatever is hashed
  pub size : (m : Bytes) → length (sha384 m) ≡ 48
  pub are_bytes : (m : Bytes) → AreBytes (sha384 m)
  -- the same of SHA-1, which has 20 bytes
  pub sha1_of_slice : Answers sha1-of.Post (λ κs a. sha1 a.0.now)
  pub sha1_begins : Answers sha1_begin.Post (λ κs a. short.begun)
  pub sha1_adds : Answers sha1_add.Post (λ κs a. short.added a.0 a.1.0.now)
  pub sha1_ends : Answers sha1_end.Post (λ κs a. short.ended a.0)
  pub sha1_in_slices : (ms : List Bytes) → short.ended (short.added_all short.begun ms) ≡ sha1 (together ms)
  pub sha1_size : (m : Bytes) → length (sha1 m) ≡ 20
  pub sha1_are_bytes : (m : Bytes) → AreBytes (sha1 m)
