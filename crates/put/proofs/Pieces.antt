-- How pieces compose: what is written after a piece is written behind it.
-- Assumes nothing.
use Prim.Native.Nat.{ℕ, ◌+◌, ◌≤◌, ◌<◌}
use mathlib.Core.Path.{◌≡◌, refl, sym, ap, ◌∙◌, subst}
use mathlib.Core.List.{List, [], ◌++◌, append_assoc, append-nil}
use native.Mathlib.Omega.{arith}
use native.Mathlib.Nat.{zero-add, add_assoc}
use lib.ListN.{length, take, drop, take-append-drop, length-append, length-drop}
use lib.Seq.{length-take-le, drop-append-add, drop-length, take_at, drop-drop}
use borrow.Author.Tests.{le-leb, lt-leb}
use Rattle.put.specs.Put.{over, Puts, Put}
use Rattle.put.specs.Made.{made, denied, says, Writes}
use Rattle.put.specs.declared.Written.{Written}

-- a call that has room writes
pub put_of : {o v out : List ℕ} {k r : ℕ} → k + length v ≤ length o → Puts o k v out r → Put o k v out r
put_of {o} {v} {out} {k} {r} h p =
    let e = le-leb (k + length v) (length o) h in
    record { fits = h; written = rw e at p.leaves; next = rw e at p.answers }

-- and what it writes it writes as a call that has room
pub puts_of : {o v out : List ℕ} {k r : ℕ} → Put o k v out r → Puts o k v out r
puts_of {o} {v} {out} {k} {r} p =
    let e = le-leb (k + length v) (length o) p.fits in
    record { leaves = rw e p.written; answers = rw e p.next }

-- nothing written
pub put_none : {o : List ℕ} {k : ℕ} → k ≤ length o → Put o k [] o k
put_none {o} {k} h = record {
  fits = omega arith;
  written = sym (rw (let e : k + 0 ≡ k = omega arith in e, append-nil) (take-append-drop k o));
  next = omega arith;
}

-- no room for it
pub not_put : {o v : List ℕ} {k : ℕ} → length o < k + length v → Puts o k v o k
not_put {o} {v} {k} h = let n = lt-leb (k + length v) (length o) h in record { leaves = rw n; answers = rw n }

-- the output keeps its length
pub put_length : {o v out : List ℕ} {k r : ℕ} → Put o k v out r → length out ≡ length o
put_length {o} {v} {out} {k} {r} p =
    ap length p.written ∙ simp (length-append, length-drop, length-take-le k o (omega arith)) (omega arith)

over_over : (o v w : List ℕ) (k : ℕ) → k ≤ length o → over (over o k v) (k + length v) w ≡ over o k (v ++ w)
over_over o v w k h =
    let e : length (take k o ++ v) ≡ k + length v = simp (length-append, length-take-le k o h) in
    rw (take_at (take k o ++ v) (drop (k + length v) o) (k + length v) e, ← e, drop-append-add, drop-drop, e, length-append, add_assoc) (simp append_assoc)

-- the same piece, said otherwise
pub put_as : {o v w out : List ℕ} {k r : ℕ} → v ≡ w → Put o k v out r → Put o k w out r
put_as {o} {v} {w} {out} {k} {r} e p = subst (λ (x : List ℕ). Put o k x out r) e p

-- one piece after another
pub put_then : {o v o' w out : List ℕ} {k r r' : ℕ} → Put o k v o' r → Put o' r w out r' → Put o k (v ++ w) out r'
put_then {o} {v} {o'} {w} {out} {k} {r} {r'} p q = record {
  fits = omega (arith, length-append v w, put_length p);
  written = q.written ∙ rw (p.next, p.written, over_over o v w k (omega arith));
  next = omega (arith, length-append v w);
}

-- what fills the output is all of it
pub put_fills : {o v out : List ℕ} {r : ℕ} → length v ≡ length o → Puts o 0 v out r → out ≡ v
put_fills {o} {v} l p = (put_of (omega (arith, l)) p).written ∙ rw (zero-add, l, drop-length o, append-nil)

-- the whole, written from the front
pub put_whole : {o v out : List ℕ} {r : ℕ} → Put o 0 v out r → Writes (made v) o out (record { no = 0; field = 0; len = r })
put_whole {o} {v} {out} {r} p = record {
  said = ap {B = Written} (λ (n : ℕ). record { no = 0; field = 0; len = n }) (let e : r ≡ length v = omega arith in e);
  left = p.written ∙ rw zero-add;
}

-- nothing written
pub put_denied : {o : List ℕ} {n i : ℕ} (r : Written) → r ≡ says (denied n i) → Writes (denied n i) o o r
put_denied r e = record { said = e; left = refl }
