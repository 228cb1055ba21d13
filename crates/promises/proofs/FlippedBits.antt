-- E12, by the damage theorem of demand 3: what the record call catches of flipped bits; and records that pass.
-- Assumes nothing.
use mathlib.Core.Path.{refl}
use native.Mathlib.Omega.{arith}
use lib.Dec.{T, leb}
use lib.ListN.{length}
use Rattle.crc16.specs.Crc.{bit_step, bit_steps, add, add_all, crc_of}
use Rattle.crc16.specs.Damage.{ones, flips}
use Rattle.text.specs.Text.{Bytes, ascii, Timestamp, Mac, is_of, is_timestamp, is_hex, looks, number_from}
use Rattle.text.specs.Base16.{hex_digit, check_text}
use Rattle.format.specs.Kinds.{SMID, KMCID, RESP, record_kinds}
use Rattle.format.specs.Build.{with_check, record_of, Fits, FitAll, longest_record, Permitted}
use Rattle.format.specs.Read.{read_record}
use Rattle.format.specs.Damage.{Accepted, WithinTwo, Flipped, InCheck, Either, CatchesBy}
use Rattle.format.proofs.Exactly.{record_exact}
use Rattle.format.proofs.DamagedLines.{either_caught}
use Rattle.format.proofs.Damage.{accepted_short, record_catches_by_two, flips_refused, checks_refused, flipped_refused}
use Rattle.trailed.specs.Trailed.{InRecord, read_trailed}
use Rattle.trailed.proofs.Trailed.{trailed_catches_by, trailed_within_two}
use Rattle.promises.specs.Worked.{module_id_fields, module_id, centre_id_fields, centre_id, response_fields, response, response_of, four_flipped, three_flipped, later_response, two_flipped}
use Rattle.promises.proofs.Statements.FlippedBits.{NoLimit, FlippedBits, FlipsPass}
use Rattle.promises.proofs.Demand3.{plain_caught, trailed_caught}
use Rattle.promises.proofs.Permitted.{is_sm, is_kmc, built_of}

flips_or_check : CatchesBy read_record (Either Flipped InCheck)
flips_or_check = either_caught read_record Flipped InCheck flips_refused checks_refused

never_long : NoLimit
never_long x accepted = omega (arith, accepted_short x accepted)

pub flipped_bits : FlippedBits
flipped_bits = record {
  in_plain = plain_caught Flipped flips_refused;
  in_trailed = trailed_caught (InRecord Flipped) (trailed_catches_by Flipped flips_refused);
  no_limit = never_long;
  of-records = flipped_refused;
  each_plain = plain_caught _ (either_caught read_record WithinTwo (Either Flipped InCheck) record_catches_by_two flips_or_check);
  each_trailed = trailed_caught _ (either_caught read_trailed WithinTwo (InRecord (Either Flipped InCheck)) trailed_within_two (trailed_catches_by (Either Flipped InCheck) flips_or_check));
}

-- ---- records that pass

-- a response at any time with any MacTag is accepted
response_accepted : (time tag : Bytes) → T (is_of Timestamp time) → T (is_of Mac tag) → T (leb (length (record_of RESP (response_of time tag))) longest_record)
    → Accepted (read_record (record_of RESP (response_of time tag)))
unfolding FitAll Fits
response_accepted time tag a-time a-tag short =
    let p : Permitted RESP (response_of time tag) = record { fit = ((KMCID, tt, is_kmc), ((SMID, tt, is_sm), (a-time, (a-tag, tt)))); both = tt; attributes = tt; signs = tt; short = short } in
    (RESP, response_of time tag, (record_exact (record_of RESP (response_of time tag)) RESP (response_of time tag)).1 (built_of record_kinds RESP (response_of time tag) tt p))

pub flips_pass : FlipsPass
unfolding response response_fields four_flipped three_flipped later_response two_flipped module_id module_id_fields centre_id centre_id_fields record_of with_check check_text hex_digit crc_of add_all add bit_steps bit_step is_timestamp looks number_from is_hex flips ones
flips_pass =
    let of-003 : Accepted (read_record response) = response_accepted (ascii "20180125T150000Z") (ascii "7E6DEC39AFE13B846C59B26EB059186BC521BCAD63718467") tt tt tt in
    record {
      four = record {
        first = of-003;
        second = response_accepted (ascii "20180125T150000Z") (ascii "7E6DAC39EFE52B846C59B26EB059186BC521BCAD63718467") tt tt tt;
        before_check = refl;
        of_check = refl;
      };
      one_and_one = record {
        first = response_accepted (ascii "20180125T151000Z") (ascii "7E6DEC39AFE13B846C59B26EB059186BC521BCAD63718467") tt tt tt;
        second = response_accepted (ascii "20180125T151000Z") (ascii "7E6DEC39AFE13B846C59F26EB059186BC521BCAD63718467") tt tt tt;
        before_check = refl;
        of_check = refl;
      };
      one_and_two = record {
        first = of-003;
        second = response_accepted (ascii "20180125T150000Z") (ascii "7E6DEC39AFE13B846C59B26EB059186BC521BCAD63718067") tt tt tt;
        before_check = refl;
        of_check = refl;
      };
    }
