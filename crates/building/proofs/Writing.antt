-- The record is written piece after piece: each field and its mark, and the name before them and the check behind them.
-- Assumes nothing.
use Prim.Native.Nat.{ℕ, ◌+◌, ◌-◌, ◌≤◌, ◌<◌}
use mathlib.Core.Path.{◌≡◌, sym, ap, ◌∙◌}
use mathlib.Core.List.{List, [], ◌∷◌, ◌++◌, append_assoc}
use native.Mathlib.Omega.{arith}
use native.Mathlib.Nat.{zero-add}
use native.Mathlib.Numerals.{add-one}
use lib.ListN.{length, take, drop, get_or, length-append, length-drop, take-append-drop}
use lib.Seq.{length-take-le, take-suc, take_all, take-append_seam}
use Rattle.crc16.specs.Crc.{crc_of}
use Rattle.text.specs.Text.{Bytes}
use Rattle.text.specs.Base16.{check_text}
use Rattle.text.proofs.Types.{hex_length}
use Rattle.text.proofs.Hexadecimal.{check_hex}
use Rattle.format.specs.Build.{joined, with_check}
use Rattle.format.proofs.Parts.{joined_append}
use Rattle.put.specs.Put.{Puts, Put}
use Rattle.put.proofs.Pieces.{put_of, put_none, put_length, put_as, put_then}
use Rattle.building.specs.Building.{sum, pieces}
use Rattle.building.proofs.Pieces.{pieces_count}

-- ---- the fields and their marks

pub joined_length : (m : ℕ) (ns : List ℕ) (s : Bytes) → sum ns ≡ length s → length (joined m (pieces ns s)) ≡ length s + length ns
joined_length m [] s e = omega arith
joined_length m (n ∷ ns) s e =
    omega (arith, length-append (take n s) (m ∷ joined m (pieces ns (drop n s))), length-take-le n s (omega arith), joined_length m ns (drop n s) (omega (arith, length-drop n s)), length-drop n s)

-- the fields before j are written, behind place `at` of o
pub record Through (o : Bytes) (at m : ℕ) (bytes : Bytes) (ns : List ℕ) (out : Bytes) (next j : ℕ) : Type 0 where
  pub whole : sum ns ≡ length bytes
  pub room : at + length bytes + length ns ≤ length o
  pub written : Put o at (joined m (take j (pieces ns bytes))) out next

pub through_none : (o : Bytes) (at m : ℕ) (bytes : Bytes) (ns : List ℕ) → sum ns ≡ length bytes → at + length bytes + length ns ≤ length o → Through o at m bytes ns o at 0
through_none o at m bytes ns e h = record { whole = e; room = h; written = put_none (omega arith) }

module _ {o : Bytes} {at m : ℕ} {bytes : Bytes} {ns : List ℕ} {out : Bytes} {next j : ℕ} (w : Through o at m bytes ns out next j) where
  pub through_length : length out ≡ length o
  through_length = put_length w.written

  pub through_all : length ns ≤ j → Put o at (joined m (pieces ns bytes)) out next
  through_all h = put_as (ap (joined m) (take_all j (pieces ns bytes) (omega (arith, pieces_count ns bytes)))) w.written

  -- field j is f as the code has it
  module _ (h : j < length ns) {f : Bytes} (ef : f ≡ get_or (pieces ns bytes) j []) where
    more : joined m (take (j + 1) (pieces ns bytes)) ≡ joined m (take j (pieces ns bytes)) ++ f ++ (m ∷ [])
    more =
        rw (add-one, take-suc (pieces ns bytes) j [] (omega (arith, pieces_count ns bytes)), joined_append, ← ef)
        (sym (append_assoc (joined m (take j (pieces ns bytes))) f (m ∷ [])))

    fits : next + length f + 1 ≤ length o
    fits =
        let fs = pieces ns bytes in
        let parts = ap (λ (gs : List Bytes). length (joined m gs)) (sym (take-append-drop (j + 1) fs)) ∙ ap length (joined_append m (take (j + 1) fs) (drop (j + 1) fs)) in
        omega (
          arith,
          w.written.next,
          w.room,
          joined_length m ns bytes w.whole,
          parts,
          length-append (joined m (take (j + 1) fs)) (joined m (drop (j + 1) fs)),
          ap length more,
          length-append (joined m (take j fs) ++ f) (m ∷ []),
          length-append (joined m (take j fs)) f,
        )

    -- f is written, and then its mark
    pub through_next : {out' out'' : Bytes} {n' n'' : ℕ} → Puts out next f out' n' → Puts out' n' (m ∷ []) out'' n'' → Through o at m bytes ns out'' n'' (j + 1)
    through_next p q =
        let a = put_of (omega (arith, fits, through_length)) p in
        let b = put_of (omega (arith, fits, through_length, a.next, put_length a)) q in
        record { whole = w.whole; room = w.room; written = put_as (sym more) (put_then (put_then w.written a) b) }

-- ---- the record

-- the kind's name t and its mark are written from the front, and there is room for the rest
pub record Headed (o t bytes : Bytes) (ns : List ℕ) (m : ℕ) (out : Bytes) (next : ℕ) : Type 0 where
  pub whole : sum ns ≡ length bytes
  pub room : length t + 1 + length bytes + length ns + 4 ≤ length o
  pub written : Put o 0 (t ++ (m ∷ [])) out next

pub headed : (o t bytes : Bytes) (ns : List ℕ) (m : ℕ) {o₁ out : Bytes} {a next : ℕ} → sum ns ≡ length bytes → length t + 1 + length bytes + length ns + 4 ≤ length o
    → Puts o 0 t o₁ a → Puts o₁ a (m ∷ []) out next → Headed o t bytes ns m out next
headed o t bytes ns m e h p q =
    let a = put_of (omega arith) p in
    let b = put_of (omega (arith, a.next, put_length a)) q in
    record { whole = e; room = h; written = put_then a b }

-- what is written from the front
front : {o v out : Bytes} {r : ℕ} → Put o 0 v out r → take r out ≡ v
front {o} {v} {out} {r} p = rw (p.written, p.next, zero-add) (take-append_seam v (drop (length v) o))

module _ {o t bytes : Bytes} {ns : List ℕ} {m : ℕ} {out : Bytes} {next : ℕ} (w : Headed o t bytes ns m out next) where
  long : (length out ≡ length o) × (next ≡ length t + 1)
  long = (put_length w.written, omega (arith, w.written.next, length-append t (m ∷ [])))

  pub headed_room : next + length bytes + length ns ≤ length out
  headed_room = omega (arith, w.room, long)

  module _ {out' : Bytes} {end : ℕ} (p : Put out next (joined m (pieces ns bytes)) out' end) where
    rest : end + 4 ≤ length out'
    rest = omega (arith, w.room, long, p.next, put_length p, joined_length m ns bytes w.whole)

    pub headed_end : end ≤ length out'
    headed_end = omega (arith, rest)

    -- n is the check and c its text as the code has them
    pub headed_sealed : {c out'' : Bytes} {n r : ℕ} → n ≡ crc_of (take (end - 0) out') → c ≡ check_text n → Puts out' end c out'' r
        → Put o 0 (with_check (joined m (t ∷ pieces ns bytes))) out'' r
    unfolding with_check
    headed_sealed {n = n} en ec q =
        let u = put_as (append_assoc t (m ∷ []) (joined m (pieces ns bytes))) (put_then w.written p) in
        let z : end - 0 ≡ end = omega arith in
        let s = put_of (omega (arith, rest, ap length ec, hex_length 4 (check_text n) (check_hex n))) q in
        put_then u (put_as (ec ∙ ap check_text (en ∙ rw (z, front u))) s)
