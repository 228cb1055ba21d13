-- A line with a trailer: what is accepted is exactly what is written of an accepted record. So lines with the same record are the same, and
-- what the record call catches in a record is caught wherever it stands in the line.
-- Assumes nothing.
use Prim.Native.Nat.{ℕ, ◌+◌, ◌-◌}
use mathlib.Core.Path.{◌≡◌, refl, sym, ap, ◌∙◌, subst}
use mathlib.Core.Logic.{◌↔◌}
use mathlib.Core.Bool.{Bool, true, false}
use mathlib.Core.List.{List, ◌++◌}
use native.Mathlib.Omega.{arith}
use lib.Dec.{T, eqb}
use lib.ListN.{length, length-take, length-append, take-append-drop}
use lib.Seq.{take_at, drop_at}
use mir.Facts.{yes_and}
use Rattle.text.specs.Text.{Bytes, same, is_hex}
use Rattle.text.specs.Base16.{base16}
use Rattle.text.proofs.Tests.{T_true, same→eq, same_refl}
use Rattle.put.proofs.Hex.{base16_hex}
use Rattle.sha_1.specs.Sha1.{sha1}
use Rattle.sha_1.proofs.Digest.{digest_bytes, digest_size}
use Rattle.text.proofs.Types.{hex_length}
use Rattle.numbers.specs.Numbers.{wrong_hash}
use Rattle.format.specs.Kinds.{Kind, record_kinds}
use Rattle.format.specs.Build.{Built}
use Rattle.format.specs.Read.{Outcome, accepted, refused, provided, read_record}
use Rattle.format.specs.Damage.{DamagedOver, DamagedBy, WithinTwo, Catches, CatchesBy, AllCaught}
use Rattle.format.proofs.Outcomes.{never, Numbered, NeverZero}
use Rattle.format.proofs.Exactly.{record_exact}
use Rattle.format.proofs.DamagedLines.{damaged_by_two, part_bytes, within_part, all_lines_caught}
use Rattle.format.proofs.Damage.{record_catches_by_two, record_never_zero}
use Rattle.files.proofs.Counting.{never_zero}
use Rattle.trailed.specs.Law as law
use Rattle.trailed.specs.Trailed.{sharp, hash_text, trailer, trailed, record_in, trailer_in, is_trailer, only_if, InRecord, read_trailed, walk_trailed}

-- ---- a test that passes changes nothing

pub only_if_true : (n : ℕ) (o : Outcome) → only_if true n o ≡ o
only_if_true n (accepted k fs) = refl
only_if_true n (refused m i) = refl

-- ---- a line that is accepted

passed : (b c : Bool) (n m : ℕ) (o : Outcome) (k : Kind) (fs : List Bytes) → provided b n (only_if c m o) ≡ accepted k fs → T c × (o ≡ accepted k fs)
passed true true n m (accepted j gs) k fs e = (tt, e)
passed true false n m (accepted j gs) k fs e = absurd (never e)
passed true c n m (refused j i) k fs e = absurd (never e)
passed false c n m o k fs e = absurd (never e)

-- is its record and the trailer of that
pub trailed_sound : (s : Bytes) (k : Kind) (fs : List Bytes) → read_trailed s ≡ accepted k fs → (read_record (record_in s) ≡ accepted k fs) × (s ≡ trailed (record_in s))
unfolding read_trailed trailed
trailed_sound s k fs e =
    let (right, own) = passed (is_trailer (trailer_in s)) (same (trailer_in s) (trailer (record_in s))) _ _ (read_record (record_in s)) k fs e in
    (own, sym (take-append-drop (length s - 41) s) ∙ ap (λ (t : Bytes). record_in s ++ t) (same→eq (trailer_in s) (trailer (record_in s)) right))

-- ---- a line that is written

module _ (r : Bytes) where
  hash_hex : T (is_hex 40 (base16 (sha1 (hash_text r))))
  hash_hex = base16_hex 40 (sha1 (hash_text r)) (digest_bytes (hash_text r)) (omega (arith, digest_size (hash_text r)))

  pub trailer_length : length (trailer r) ≡ 41
  unfolding trailer
  trailer_length = omega (arith, hex_length 40 (base16 (sha1 (hash_text r))) hash_hex)

  trailer_fits : T (is_trailer (trailer r))
  unfolding trailer
  trailer_fits = yes_and (eqb sharp sharp) (is_hex 40 (base16 (sha1 (hash_text r)))) tt hash_hex

  pub trailed_length : length (trailed r) ≡ length r + 41
  unfolding trailed
  trailed_length = omega (arith, length-append r (trailer r), trailer_length)

  pub record-in : record_in (trailed r) ≡ r
  unfolding trailed
  record-in = take_at r (trailer r) (length (trailed r) - 41) (omega (arith, trailed_length))

  trailer-in : trailer_in (trailed r) ≡ trailer r
  unfolding trailed
  trailer-in = drop_at r (trailer r) (length (trailed r) - 41) (omega (arith, trailed_length))

  -- is read as its record
  pub trailed_read : read_trailed (trailed r) ≡ read_record r
  unfolding read_trailed
  trailed_read =
      rw (record-in, trailer-in, T_true (is_trailer (trailer r)) trailer_fits, T_true (same (trailer r) (trailer r)) (same_refl (trailer r))) (only_if_true wrong_hash (read_record r))

pub trailed_exact : (s : Bytes) (k : Kind) (fs : List Bytes) → (read_trailed s ≡ accepted k fs) ↔ ((r : Bytes) × Built record_kinds r k fs × (s ≡ trailed r))
trailed_exact s k fs = (
  λ e. let (own, is) = trailed_sound s k fs e in (record_in s, (record_exact (record_in s) k fs).0 own, is),
  λ (r, b, is). ap read_trailed is ∙ trailed_read r ∙ (record_exact r k fs).1 b,
)

-- ---- damage

pub trailed_never_zero : NeverZero read_trailed
trailed_never_zero = never_zero (law.never_zero (λ s i e. subst Numbered e (record_never_zero s)))

-- what the record call catches in the record is caught in the line
pub trailed_catches_by : (Harm : Bytes → Bytes → Type 0) → CatchesBy read_record Harm → CatchesBy read_trailed (InRecord Harm)
trailed_catches_by Harm catches x y bx by long harm (j, gs, ax) (k, fs, ay) =
    let (own_x, is_x) = trailed_sound x j gs ax in
    let (own-y, is_y) = trailed_sound y k fs ay in
    let records : record_in x ≡ record_in y =
    catches (record_in x) (record_in y) (part_bytes 0 (length x - 41) x bx) (part_bytes 0 (length y - 41) y by) (simp (length-take, long)) harm (j, gs, own_x) (k, fs, own-y) in
    is_x ∙ ap trailed records ∙ sym is_y

-- two neighbouring bytes of a line are at most two of its record
pub trailed_within_two : CatchesBy read_trailed WithinTwo
trailed_within_two x y bx by long harm =
    trailed_catches_by WithinTwo record_catches_by_two x y bx by long (rw (← long) (within_part 0 (length x - 41) x y harm))

-- in files of such lines
pub trailed_damage_caught_by : (Harm : Bytes → Bytes → Type 0) → CatchesBy read_trailed Harm → (a b : Bytes) → DamagedBy read_trailed Harm a b → AllCaught a b (walk_trailed a) (walk_trailed b)
trailed_damage_caught_by Harm = all_lines_caught read_trailed Harm trailed_never_zero

-- demand 3
pub trailed_catches : Catches read_trailed
trailed_catches x y bx by long i near = trailed_within_two x y bx by long (i, near)

pub trailed_damage_caught : (a b : Bytes) → DamagedOver read_trailed a b → AllCaught a b (walk_trailed a) (walk_trailed b)
trailed_damage_caught a b d = trailed_damage_caught_by WithinTwo trailed_within_two a b (damaged_by_two read_trailed a b d)
