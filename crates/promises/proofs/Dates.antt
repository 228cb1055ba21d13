-- The promises about dates as numbers, from the laws of text, expiry and shelf.
-- Assumes nothing.
use Prim.Native.Nat.{ℕ, suc, ◌+◌, ◌-◌, ◌*◌, ◌<◌}
use mathlib.Core.Path.{◌≡◌, sym, ap, ◌∙◌}
use mathlib.Core.Logic.{◌↔◌, inl, inr}
use mathlib.Core.Bool.{true}
use mathlib.Core.List.{◌++◌}
use native.Mathlib.Omega.{arith}
use lib.ListN.{length, drop, replicate, length-append}
use lib.Seq.{drop_at}
use lib.Dec.{T}
use lib.IntN.{ℤ, pos, sub_ℕ, ◌+ℤ◌}
use lib.Signed.{◌<ℤ◌, lt_z}
use Rattle.text.specs.Calendar.{days_before}
use Rattle.text.specs.Text.{Bytes, after, year, month, day, is_timestamp}
use Rattle.text.specs.Seconds.{since_year_one, start, seconds, seconds_bytes}
use Rattle.text.proofs.Tests.{T_true, true_T}
use Rattle.text.proofs.Types.{timestamp_length}
use Rattle.text.proofs.Counting.{next_day, next_month, next_year}
use Rattle.text.proofs.Seconds.{parts, sub_more, start_zero, moment_valid, moment_seconds, no_moment, seconds_fit, bytes_inj}
use Rattle.text.proofs.Later.{later_seconds, seconds_inj, later_by_seconds, later_by_bytes, later_by_parts}
use Rattle.format.specs.Kinds.{pubkey_kinds}
use Rattle.format.specs.Read.{refused, read_of}
use Rattle.format.specs.declared.Rules.TheVariants.{UpToE10}
use Rattle.subjects.specs.Keys.{KeyUnder}
use Rattle.expiry.specs.Expiry.{expiry, expiry_under, expiry_of}
use Rattle.expiry.proofs.Expiries.{expiry_stamp, expiry_accepted}
use Rattle.shelf.specs.Cabinet.{tvp_at}
use Rattle.shelf.proofs.Readings.{fitting, reads_accepted}
use Rattle.shelf.proofs.Images.{length_zeros}
use Rattle.promises.proofs.Statements.Cabinet.{Filled}
use Rattle.promises.proofs.Statements.Dates.{DayAfter, SameDay, clock, Dates}

-- ---- how they are counted

-- the seconds from the beginning of the day on
by_clock : (s : Bytes) → seconds s ≡ sub_ℕ (86400 * days_before (year s) (month s) (day s)) (since_year_one start) +ℤ pos (clock s)
unfolding seconds since_year_one
by_clock s = sub_more (86400 * days_before (year s) (month s) (day s)) (since_year_one start) (clock s)

both_clocks : (x : ℕ) (c m n : ℕ) → (sub_ℕ x c +ℤ pos m) +ℤ pos n ≡ (sub_ℕ x c +ℤ pos n) +ℤ pos m
both_clocks x c m n =
    let e : x + m + n ≡ x + n + m = omega arith in
    ap (λ (z : ℤ). z +ℤ pos n) (sym (sub_more x c m)) ∙ sym (sub_more (x + m) c n) ∙ ap (λ (k : ℕ). sub_ℕ k c) e ∙ sub_more (x + n) c m ∙ ap (λ (z : ℤ). z +ℤ pos m) (sub_more x c n)

module _ (s t : Bytes) where
  same_day_so : SameDay s t → seconds t +ℤ pos (clock s) ≡ seconds s +ℤ pos (clock t)
  same_day_so (y, m, d) =
      let x = 86400 * days_before (year s) (month s) (day s) in
      let e : days_before (year t) (month t) (day t) ≡ days_before (year s) (month s) (day s) = rw (y, m, d) in
      ap (λ (z : ℤ). z +ℤ pos (clock s)) (by_clock t ∙ ap (λ (k : ℕ). sub_ℕ (86400 * k) (since_year_one start) +ℤ pos (clock t)) e)
      ∙ both_clocks x (since_year_one start) (clock t) (clock s)
      ∙ ap (λ (z : ℤ). z +ℤ pos (clock t)) (sym (by_clock s))

  one_more : DayAfter s t → T (is_timestamp s) → days_before (year t) (month t) (day t) ≡ suc (days_before (year s) (month s) (day s))
  one_more (inl (y, m, d)) h = rw (y, m, d) (next_day (parts s h).date)
  one_more (inr (inl (e, y, m, d))) h = rw (y, m, d) (next_month (parts s h).date e)
  one_more (inr (inr (e, f, y, m, d))) h = rw (y, m, d) (next_year (parts s h).date e f)

  next_day_so : DayAfter s t → T (is_timestamp s) → clock t ≡ clock s → seconds t ≡ seconds s +ℤ pos 86400
  unfolding seconds since_year_one
  next_day_so a h f =
      let e = one_more a h in
      let n : since_year_one t ≡ since_year_one s + 86400 = omega (arith, e, f) in
      ap (λ (k : ℕ). sub_ℕ k (since_year_one start)) n ∙ sub_more (since_year_one s) (since_year_one start) 86400

-- ---- the order

module _ (s t : Bytes) (hs : T (is_timestamp s)) (ht : T (is_timestamp t)) where
  ordered : (after s t ≡ true) ↔ (seconds t <ℤ seconds s)
  ordered = (
    later_seconds s t hs ht,
    λ l. sym (later_by_bytes s t hs ht) ∙ later_by_seconds s t hs ht ∙ T_true (lt_z (seconds t) (seconds s)) l.lt,
  )

  eight_inj : seconds_bytes (seconds s) ≡ seconds_bytes (seconds t) → s ≡ t
  eight_inj e = seconds_inj s t hs ht (bytes_inj (seconds s) (seconds t) (seconds_fit s hs) (seconds_fit t ht) e)

-- ---- public keys

refused_so : (s : Bytes) (n i : ℕ) → read_of pubkey_kinds s ≡ refused n i → expiry_of s ≡ record { no = n; field = i; seconds = pos 0 }
unfolding expiry_under
refused_so s n i e = rw e

key_short : {r : Bytes} → KeyUnder UpToE10 r → length r < 1000
unfolding tvp_at
key_short {r} k = (fitting r _ _ (reads_accepted r k)).long

module _ {b : Bytes} (p : Filled b) where
  -- the last eight bytes are the number
  place_number : drop 1016 b ≡ seconds_bytes (seconds (expiry p.key.fields))
  place_number =
      let text = p.text in
      let pad : Bytes = replicate (1000 - length text) 0 in
      let long : length ((text ++ pad) ++ p.tvp) ≡ 1016 =
      length-append (text ++ pad) p.tvp ∙ omega (arith, length-append text pad, length_zeros (1000 - length text), key_short p.key, timestamp_length p.tvp p.is-tvp.stamp) in
      ap (drop 1016) p.so ∙ drop_at ((text ++ pad) ++ p.tvp) (seconds_bytes (seconds (expiry p.key.fields))) 1016 long

pub dates : Dates
dates = record {
  called = λ κs a r s p. rw p (moment_valid a.0.now, λ e. moment_seconds a.0.now (true_T _ e), λ e. no_moment a.0.now (rw e tt));
  start = start_zero;
  next_day = λ s t (hs, ht, a, f). next_day_so s t a hs f;
  same_day = λ s t hs ht a. same_day_so s t a;
  order = ordered;
  equal = seconds_inj;
  later_so = λ κs a r s p hs ht. (p ∙ later_by_bytes _ _ hs ht, p ∙ later_by_parts _ _ hs ht);
  stored = λ κs a r s p. p;
  eight = eight_inj;
  expires = λ κs a r s p. (λ k. p ∙ expiry_accepted k ∙ ap (λ (z : ℤ). record { no = 0; field = 0; seconds = z }) (moment_seconds _ (expiry_stamp k)), λ n i e. p ∙ refused_so a.0.now n i e);
  in_place = λ b c p q e. eight_inj _ _ (expiry_stamp p.key) (expiry_stamp q.key) (sym (place_number p) ∙ e ∙ place_number q);
}
