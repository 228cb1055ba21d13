-- The promises about SHA-384 and SHA-1, from the laws of sha384 and sha1.
-- Assumes nothing.
use Rattle.sha384.proofs.Digest.{digest_bytes, digest_size}
use Rattle.sha384.proofs.Pieces.{ended_all}
use Rattle.sha_1.proofs.Digest as short-digest
use Rattle.sha_1.proofs.Pieces as short
use Rattle.promises.proofs.Statements.Hash.{Hash}

pub hash : Hash
hash = record {
  of_slice = λ κs a r s p. p;
  begins = λ κs a r s p. p;
  adds = λ κs a r s p. p;
  ends = λ κs a r s p. p;
  in_slices = ended_all;
  size = digest_size;
  are_bytes = digest_bytes;
  sha1_of_slice = λ κs a r s p. p;
  sha1_begins = λ κs a r s p. p;
  sha1_adds = λ κs a r s p. p;
  sha1_ends = λ κs a r s p. p;
  sha1_in_slices = short.ended_all;
  sha1_size = short-digest.digest_size;
  sha1_are_bytes = short-digest.digest_bytes;
}
