-- The loop that copies.
-- Assumes nothing.
use Prim.Native.Nat.{ℕ, ◌+◌, ◌≤◌, ◌<◌}
use mathlib.Core.Path.{◌≡◌, ap, ◌∙◌}
use mathlib.Core.List.{List}
use native.Mathlib.Omega.{arith}
use native.Mathlib.Numerals.{add-one}
use lib.ListN.{length, get_or, set}
use lib.Seq.{paste, paste-zero, paste-suc, length-paste, take-length}
use borrow.Author.Tests.{le-leb}
use Rattle.put.specs.Put.{Puts}

-- i bytes of s are written at place k of o
pub record Copy (o : List ℕ) (k : ℕ) (s out : List ℕ) (i : ℕ) : Type 0 where
  pub fits : k + length s ≤ length o
  pub inside : i ≤ length s
  pub written : out ≡ paste o k s i

pub copy_none : {o s : List ℕ} {k : ℕ} → k + length s ≤ length o → Copy o k s o 0
copy_none {o} {s} {k} h = record { fits = h; inside = omega arith; written = paste-zero o k s }

pub copy_length : {o s out : List ℕ} {k i : ℕ} → Copy o k s out i → length out ≡ length o
copy_length {o} {s} {out} {k} {i} c = ap length c.written ∙ length-paste o k s i (omega arith) c.inside

pub copy_more : {o s out : List ℕ} {k i : ℕ} → Copy o k s out i → i < length s → Copy o k s (set out (k + i) (get_or s i 0)) (i + 1)
copy_more {o} {s} {out} {k} {i} c h = record {
  fits = c.fits;
  inside = omega arith;
  written = rw (add-one, c.written) (paste-suc o k s i 0 (omega arith) h);
}

-- all of s is written
pub copy_all : {o s out : List ℕ} {k i : ℕ} → Copy o k s out i → length s ≤ i → Puts o k s out (k + length s)
copy_all {o} {s} {out} {k} {i} c h =
    let e : i ≡ length s = omega arith in
    let y = le-leb (k + length s) (length o) c.fits in
    record { leaves = rw y (rw (take-length s) at (rw e at c.written)); answers = rw y }
