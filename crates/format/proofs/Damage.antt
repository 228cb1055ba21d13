-- An accepted record is not accepted after damage within two neighbouring bytes, nor after an odd number of flips or two before its check,
-- nor after any damage of its check alone; and so in files of plain records: demand 3, E12.
-- Assumes nothing.
use Prim.Native.Nat.{ℕ, suc, ◌+◌, ◌-◌, ◌%◌, ◌≤◌}
use Prim.Native.Char.{code}
use mathlib.Core.Path.{◌≡◌, refl, sym, ◌∙◌}
use mathlib.Core.Logic.{◌⊎◌, ⊎_elim}
use native.Mathlib.Omega.{arith}
use native.Mathlib.Nat.{zero-add}
use lib.ListN.{length, take, drop, length-take, length-drop, take-append-drop}
use lib.Seq.{get_or-drop, ext_get_or}
use Rattle.crc16.specs.Crc.{crc_of}
use Rattle.crc16.specs.Damage.{AreBytes, SameCheck, Near, flips}
use Rattle.crc16.proofs.Steps.{crc_lt}
use Rattle.crc16.proofs.Burst.{neighbours_caught}
use Rattle.crc16.proofs.Flips.{odd_caught, two_caught, flips_none, flips_parts}
use Rattle.text.specs.Text.{Bytes}
use Rattle.text.specs.Base16.{check_text}
use Rattle.text.proofs.Tests.{less_or}
use Rattle.text.proofs.Hexadecimal.{check_inj}
use Rattle.format.specs.Kinds.{mark, record_kinds}
use Rattle.format.specs.Build.{Built}
use Rattle.format.specs.Read.{last_or, read_record}
use Rattle.format.specs.Files.{walk}
use Rattle.format.specs.Damage.{Accepted, Refused, DamagedBy, Damaged, WithinTwo, Flipped, InCheck, Catches, CatchesBy, AllCaught}
use Rattle.format.proofs.Table.{all_among}
use Rattle.format.proofs.Parts.{last_at, built_last, built_check}
use Rattle.format.proofs.Outcomes.{NeverZero, honest_map}
use Rattle.format.proofs.Exactly.{record_exact, record_says, built_length}
use Rattle.format.proofs.DamagedLines.{damaged_by_two, catches_by_two, part_law, part_bytes, not_accepted, all_lines_caught}

-- s is n bytes, of which the last is m, and then their check
abbrev Checked : ℕ → ℕ → Bytes → Type 0
Checked m n s = (last_or 0 (take n s) ≡ m) × (drop n s ≡ check_text (crc_of (take n s)))

accepted_checked : (s : Bytes) → Accepted (read_record s) → Checked (code "|") (length s - 4) s
accepted_checked s (k, fs, e) =
    let b = (record_exact s k fs).0 e in
    let bar = all_among (λ j. mark j ≡ code "|") record_kinds (refl, (refl, (refl, (refl, (refl, tt))))) k b.of-kind in
    rw b.built (built_last k fs ∙ bar, built_check k fs)

pub accepted_short : (s : Bytes) → Accepted (read_record s) → length s ≤ 1024
accepted_short s (k, fs, e) = let b = (record_exact s k fs).0 e in rw b.built (built_length k fs b.permitted)

module _ (x y : Bytes) (bytes_x : AreBytes x) (bytes_y : AreBytes y) (long : length x ≡ length y) where
  -- where the last bytes are the same, the check does not tell the others apart
  same_check : (m n : ℕ) → Checked m n x → Checked m n y → drop n x ≡ drop n y → SameCheck (take n x) (take n y)
  same_check m n (last-x, check-x) (last-y, check-y) checks =
      let bx : AreBytes (take n x) = part_bytes 0 n x bytes_x in
      let by : AreBytes (take n y) = part_bytes 0 n y bytes_y in
      record {
        bytes_x = bx;
        bytes_y = by;
        long = simp (length-take, long);
        check = check_inj _ _ (crc_lt (take n x) bx) (crc_lt (take n y) by) (sym check-x ∙ checks ∙ check-y);
      }

  -- damage before the last of the n bytes leaves the check as it is, and other damage can only be at that last byte, which is m
  fronts_same : (m n i : ℕ) → Near i x y → Checked m n x → Checked m n y → take n x ≡ take n y
  fronts_same m n i near cx cy =
      let front : Near i (take n x) (take n y) = λ k f g. part_law ◌≡◌ refl 0 n k x y (λ _. rw zero-add (near k f g)) in
      let lx = length-take n x in
      let ly = length-take n y in
      less_or (i + 1) n
      (λ before.
      let checks : drop n x ≡ drop n y =
      ext_get_or 0 (drop n x) (drop n y) (simp (length-drop, long))
      (λ k _. simp get_or-drop (near (n + k) (omega arith) (omega arith))) in
      neighbours_caught (take n x) (take n y) (same_check m n cx cy checks) i front)
      (λ after. ext_get_or 0 (take n x) (take n y) (omega arith)
      (λ k j. less_or (suc k) n
      (λ h. front k (omega arith) (omega arith))
      (λ h. last_at (take n x) k (omega arith) ∙ cx.0 ∙ sym (last_at (take n y) k (omega arith) ∙ cy.0))))

  -- flips before the last bytes change the check of the n bytes
  never_flipped : (m n : ℕ) → length x ≤ 1024 → Checked m n x → Checked m n y → drop n x ≡ drop n y → (flips x y % 2 ≡ 1) ⊎ (flips x y ≡ 2) → ⊥
  never_flipped m n short cx cy checks =
      let c = same_check m n cx cy checks in
      let none : flips (drop n x) (drop n y) ≡ 0 = rw checks (flips_none (drop n y)) in
      let front : flips x y ≡ flips (take n x) (take n y) = omega (arith, flips_parts n x y long) in
      rw front (⊎_elim (odd_caught (take n x) (take n y) c) (two_caught (take n x) (take n y) c (omega (arith, length-take n x))))

-- ---- what the record call catches

module _ (x y : Bytes) (bx : AreBytes x) (by : AreBytes y) (long : length x ≡ length y) (ax : Accepted (read_record x)) (ay : Accepted (read_record y)) where
  abbrev front : ℕ
  front = length x - 4

  checked_x : Checked (code "|") front x
  checked_x = accepted_checked x ax

  checked_y : Checked (code "|") front y
  checked_y = rw long (accepted_checked y ay)

  -- the rest decides the check
  fronts_decide : take front x ≡ take front y → x ≡ y
  fronts_decide fronts = cc (take-append-drop front x, take-append-drop front y, checked_x.1, checked_y.1)

  two_same : (i : ℕ) → Near i x y → x ≡ y
  two_same i near = fronts_decide (fronts_same x y bx by long (code "|") front i near checked_x checked_y)

  not_both : Flipped x y → ⊥
  not_both f = never_flipped x y bx by long (code "|") front (accepted_short x ax) checked_x checked_y (f.before_check ∙ rw long) f.odd_or_two

pub record_catches : Catches read_record
record_catches x y bx by long i near ax ay = two_same x y bx by long ax ay i near

pub record_catches_by_two : CatchesBy read_record WithinTwo
record_catches_by_two = catches_by_two read_record record_catches

pub flips_refused : CatchesBy read_record Flipped
flips_refused x y bx by long f ax ay = absurd (not_both x y bx by long ax ay f)

pub checks_refused : CatchesBy read_record InCheck
checks_refused x y bx by long e ax ay = fronts_decide x y bx by long ax ay (e ∙ rw long)

pub record_never_zero : NeverZero read_record
record_never_zero s = honest_map {P = Built record_kinds s} (λ k fs b. tt) (read_record s) (record_says s)

-- of one record
pub flipped_refused : (x y : Bytes) → AreBytes x → AreBytes y → length x ≡ length y → Flipped x y → Accepted (read_record x) → Refused (read_record y)
flipped_refused x y bx by long f ax = not_accepted read_record record_never_zero y (λ ay. not_both x y bx by long ax ay f)

-- in files of plain records
pub damage_caught_by : (Harm : Bytes → Bytes → Type 0) → CatchesBy read_record Harm → (a b : Bytes) → DamagedBy read_record Harm a b → AllCaught a b (walk a) (walk b)
damage_caught_by Harm = all_lines_caught read_record Harm record_never_zero

-- demand 3
pub damage_caught : (a b : Bytes) → Damaged a b → AllCaught a b (walk a) (walk b)
damage_caught a b d = damage_caught_by WithinTwo record_catches_by_two a b (damaged_by_two read_record a b d)
