-- What documents 01 and 02 fix, each computed by the checker.
-- Assumes nothing.
use mathlib.Core.Path.{refl}
use mathlib.Core.List.{List, [], ◌∷◌, ◌++◌}
use Rattle.crc16.specs.Crc.{bit_step, bit_steps, add, add_all, crc_of}
use Rattle.text.specs.Text.{looks, number_from, is_digits, is_alphanumeric, is_ident, is_timestamp, is_hex, is_point, is_printable, is_protected, is_octet}
use Rattle.text.specs.Calendar.{days_before, sum_to}
use Rattle.text.specs.Seconds.{moment_of, seconds, since_year_one, seconds_bytes}
use Rattle.text.specs.Later.{later}
use Rattle.text.specs.Base16.{hex_digit, check_text}
use Rattle.hashing.specs.Turns.{turns, grown}
use Rattle.hashing.specs.Blocks.{block, hashed}
use Rattle.sha384.specs.Sha384.{K, padding, padded, H₀, word, words, schedule, rounds, compress, left384, sha384}
use Rattle.format.specs.Attributes.{is_card, are_attributes}
use Rattle.format.specs.Build.{with_check, record_of}
use Rattle.format.specs.Read.{check_no, identity_answer, field_answer, whole_answer, judged, read_as, read_over, read_identity, read_under, read_record}
use Rattle.format.specs.Files.{line_of_over, line_at_over}
use Rattle.building.specs.Building.{build_as, build_of, build}
use Rattle.agreement.specs.Texts.{shared_info, module_text, centre_text}
use Rattle.fields.specs.Fields.{wanted_no}
use Rattle.fields.specs.Attributes.{list_said, attribute_no, number_named}
use Rattle.subjects.specs.Subjects.{alike}
use Rattle.newer.specs.Newer.{newer}
use Rattle.fingerprint.specs.Fingerprint.{check_fingerprint, write_fingerprint}
use Rattle.hmac.specs.Hmac.{K₀, mixed, mac, hmac}
use Rattle.confirm.specs.Confirm.{confirm_request, confirm_response}
use Rattle.sha_1.specs.Sha1 as short
use Rattle.trailed.specs.Trailed.{trailer, trailed, read_trailed, write_trailed}
use Rattle.mail.specs.Mail as mail
use Rattle.expiry.specs.Expiry.{expiry_under}
use Rattle.shelf.specs.Cabinet as cabinet
use Rattle.promises.specs.Values.{Value, AllCome, admitted_from}
use Rattle.promises.specs.Worked.{manufacturer_id_fields, manufacturer_id, module_id_fields, module_id, centre_id_fields, centre_id, manufacturer_key_fields, manufacturer_key, module_key_fields, module_key, centre_key_fields, centre_key, request_fields, request, response_fields, response, key_attributes, key_fields, key, long_attributes, unsigned_key_fields, unsigned_module_fields, unsigned_module_key}
use Rattle.promises.specs.Fixed.{rows, alphabets, limits, labels, checks, numbers, building, texts, others, lists, keys, long_keys, days, dates, hashes, agreeing, differing, fingerprints, tags, confirming, short_hashes, printed, lines, fixed, posted, letters, instants, placed, admissions, unsigned_keys, olds}

-- two sets of values are one; a record, so that the checker finds which two
record Come (vs : List Value) : Type 0 where
  come : AllCome vs

both : (vs us : List Value) → AllCome vs → AllCome us → AllCome (vs ++ us)
both [] us p q = q
both (v ∷ vs) us p q = (p.0, both vs us p.1 q)

infixl 65 ◌and◌
◌and◌ : {vs us : List Value} → Come vs → Come us → Come (vs ++ us)
◌and◌ {vs} {us} p q = record { come = both vs us p.come q.come }

all_rows : Come rows
unfolding rows
all_rows = record { come = (refl, (refl, (refl, (refl, (refl, (refl, (refl, (refl, (refl, (refl, (refl, (refl, (refl, (refl, (refl, (refl, (refl, (refl, tt)))))))))))))))))) }

all_alphabets : Come alphabets
unfolding alphabets admitted_from is_ident is_timestamp looks number_from is_hex is_printable
all_alphabets = record { come = (refl, (refl, (refl, (refl, (refl, (refl, (refl, (refl, (refl, (refl, (refl, (refl, (refl, (refl, (refl, (refl, (refl, (refl, tt)))))))))))))))))) }

all_limits : Come limits
unfolding limits is_ident is_timestamp looks number_from is_hex is_point is_protected read_record read_under read_identity read_over
all_limits = record { come = (refl, (refl, (refl, (refl, (refl, (refl, (refl, (refl, (refl, (refl, (refl, (refl, (refl, (refl, (refl, (refl, (refl, (refl, (refl, (refl, (refl, (refl, (refl, (refl, tt)))))))))))))))))))))))) }

all_labels : Come labels
unfolding labels request_fields
all_labels = record { come = (refl, (refl, (refl, tt))) }

all_checks : Come checks
unfolding checks key_attributes key_fields key manufacturer_id_fields manufacturer_id module_id_fields module_id centre_id_fields centre_id manufacturer_key_fields manufacturer_key module_key_fields module_key centre_key_fields centre_key request_fields request response_fields response record_of with_check check_text hex_digit crc_of add_all add bit_steps bit_step
all_checks = record { come = (refl, (refl, (refl, (refl, (refl, (refl, (refl, (refl, (refl, tt))))))))) }

all_numbers : Come numbers
unfolding numbers manufacturer_id_fields manufacturer_id module_id_fields module_id centre_id_fields centre_id manufacturer_key_fields centre_key_fields centre_key record_of with_check check_text hex_digit crc_of add_all add bit_steps bit_step is_ident is_timestamp looks number_from is_hex is_point check_no identity_answer field_answer whole_answer judged read_as read_over read_identity read_under read_record
all_numbers = record { come = (refl, (refl, (refl, (refl, (refl, (refl, (refl, (refl, (refl, (refl, (refl, (refl, (refl, (refl, tt)))))))))))))) }

all_building : Come building
unfolding building build build_of build_as manufacturer_id_fields manufacturer_id module_id_fields module_id centre_id_fields centre_id manufacturer_key_fields module_key_fields module_key centre_key_fields centre_key request_fields request response_fields response record_of with_check check_text hex_digit crc_of add_all add bit_steps bit_step is_ident is_timestamp looks number_from is_hex is_point check_no identity_answer field_answer whole_answer judged read_as read_over read_identity read_under read_record
all_building = record { come = (refl, (refl, (refl, (refl, (refl, (refl, (refl, (refl, tt)))))))) }

all_texts : Come texts
unfolding texts shared_info module_text centre_text manufacturer_id_fields manufacturer_id module_id_fields module_id centre_id_fields centre_id manufacturer_key_fields module_key_fields module_key centre_key_fields centre_key request_fields request response_fields response record_of with_check check_text hex_digit crc_of add_all add bit_steps bit_step is_ident is_timestamp looks number_from is_hex is_point check_no identity_answer field_answer whole_answer judged read_as read_over read_identity read_under read_record
all_texts = record { come = (refl, (refl, (refl, (refl, tt)))) }

all_others : Come others
unfolding others wanted_no line_at_over line_of_over newer alike manufacturer_id_fields manufacturer_id module_id_fields module_id centre_id_fields centre_id manufacturer_key_fields module_key_fields module_key centre_key_fields centre_key request_fields request response_fields response record_of with_check check_text hex_digit crc_of add_all add bit_steps bit_step is_ident is_timestamp looks number_from is_hex is_point check_no identity_answer field_answer whole_answer judged read_as read_over read_identity read_under read_record
all_others = record { come = (refl, (refl, (refl, (refl, (refl, (refl, (refl, (refl, tt)))))))) }

all_lists : Come lists
unfolding lists key_attributes is_timestamp looks number_from is_digits is_alphanumeric is_octet is_card are_attributes
all_lists = record { come = (refl, (refl, (refl, (refl, (refl, (refl, (refl, (refl, (refl, (refl, (refl, (refl, (refl, (refl, (refl, (refl, (refl, (refl, (refl, (refl, (refl, (refl, (refl, (refl, (refl, (refl, (refl, (refl, (refl, (refl, (refl, (refl, (refl, tt))))))))))))))))))))))))))))))))) }

all_keys : Come keys
unfolding keys newer alike shared_info list_said attribute_no number_named manufacturer_id_fields manufacturer_id module_id_fields module_id centre_id_fields centre_id manufacturer_key_fields module_key_fields module_key centre_key_fields centre_key request_fields request response_fields response key_attributes key_fields key record_of with_check check_text hex_digit crc_of add_all add bit_steps bit_step is_ident is_timestamp looks number_from is_digits is_alphanumeric is_hex is_point is_printable is_protected is_octet is_card are_attributes check_no identity_answer field_answer whole_answer judged read_as read_over read_identity read_under read_record
all_keys = record { come = (refl, (refl, (refl, (refl, (refl, (refl, (refl, (refl, (refl, (refl, (refl, (refl, (refl, (refl, (refl, tt))))))))))))))) }

all_long_keys : Come long_keys
unfolding long_keys long_attributes build build_of build_as manufacturer_id_fields manufacturer_id module_id_fields module_id centre_id_fields centre_id manufacturer_key_fields module_key_fields module_key centre_key_fields centre_key request_fields request response_fields response key_attributes key_fields key record_of with_check check_text hex_digit crc_of add_all add bit_steps bit_step is_ident is_timestamp looks number_from is_digits is_alphanumeric is_hex is_point is_printable is_protected is_octet is_card are_attributes check_no identity_answer field_answer whole_answer judged read_as read_over read_identity read_under read_record
all_long_keys = record { come = (refl, (refl, (refl, (refl, (refl, (refl, tt)))))) }

all_days : Come days
unfolding days is_timestamp looks number_from
all_days = record { come = (refl, (refl, (refl, (refl, (refl, (refl, (refl, (refl, (refl, (refl, (refl, (refl, (refl, (refl, (refl, (refl, (refl, (refl, (refl, (refl, (refl, (refl, (refl, (refl, (refl, (refl, (refl, (refl, (refl, (refl, tt)))))))))))))))))))))))))))))) }

all_dates : Come dates
unfolding dates build build_of build_as module_id_fields module_id centre_id_fields centre_id centre_key_fields request_fields response_fields key_fields record_of with_check check_text hex_digit crc_of add_all add bit_steps bit_step is_ident is_timestamp looks number_from is_digits is_alphanumeric is_hex is_point is_printable is_protected is_octet is_card are_attributes check_no identity_answer field_answer whole_answer judged read_as read_over read_identity read_under read_record
all_dates = record { come = (refl, (refl, (refl, (refl, (refl, (refl, (refl, (refl, (refl, (refl, (refl, (refl, (refl, (refl, (refl, tt))))))))))))))) }

all_hashes : Come hashes
unfolding hashes hex_digit turns grown block hashed K padding padded H₀ word words schedule rounds compress left384 sha384
all_hashes = record { come = (refl, (refl, (refl, tt))) }

all_agreeing : Come agreeing
unfolding agreeing check_fingerprint centre_key is_point read_under manufacturer_id_fields manufacturer_id module_id_fields module_id centre_id_fields centre_id manufacturer_key_fields module_key_fields centre_key_fields record_of with_check check_text hex_digit crc_of add_all add bit_steps bit_step is_ident is_timestamp looks number_from is_hex check_no identity_answer field_answer whole_answer judged read_as read_over read_identity turns grown block hashed K padding padded H₀ word words schedule rounds compress left384 sha384
all_agreeing = record { come = (refl, tt) }

all_differing : Come differing
unfolding differing check_fingerprint centre_key is_point read_under manufacturer_id_fields manufacturer_id module_id_fields module_id centre_id_fields centre_id manufacturer_key_fields module_key_fields centre_key_fields record_of with_check check_text hex_digit crc_of add_all add bit_steps bit_step is_ident is_timestamp looks number_from is_hex check_no identity_answer field_answer whole_answer judged read_as read_over read_identity turns grown block hashed K padding padded H₀ word words schedule rounds compress left384 sha384
all_differing = record { come = (refl, tt) }

all_fingerprints : Come fingerprints
unfolding fingerprints check_fingerprint write_fingerprint centre_key is_point read_under read_record manufacturer_id_fields manufacturer_id module_id_fields module_id centre_id_fields centre_id manufacturer_key_fields module_key_fields centre_key_fields record_of with_check check_text hex_digit crc_of add_all add bit_steps bit_step is_ident is_timestamp looks number_from is_hex check_no identity_answer field_answer whole_answer judged read_as read_over read_identity turns grown block hashed K padding padded H₀ word words schedule rounds compress left384 sha384 unsigned_module_fields unsigned_module_key
all_fingerprints = record { come = (refl, (refl, (refl, (refl, (refl, (refl, (refl, tt))))))) }

all_tags : Come tags
unfolding tags K₀ mixed mac hmac hex_digit turns grown block hashed K padding padded H₀ word words schedule rounds compress left384 sha384
all_tags = record { come = (refl, tt) }

all_confirming : Come confirming
unfolding confirming confirm_request confirm_response request_fields response_fields is_point read_under module_id_fields module_id centre_id_fields centre_id record_of with_check check_text hex_digit crc_of add_all add bit_steps bit_step is_ident is_timestamp looks number_from is_hex check_no identity_answer field_answer whole_answer judged read_as read_over read_identity
all_confirming = record { come = (refl, (refl, (refl, (refl, (refl, (refl, (refl, (refl, (refl, tt))))))))) }

all_short_hashes : Come short_hashes
unfolding short_hashes hex_digit turns grown block hashed short.by_twenty short.padding short.padded short.H₀ short.word short.words short.schedule short.rounds short.compress short.joined short.sha1
all_short_hashes = record { come = (refl, (refl, (refl, tt))) }

all_printed : Come printed
unfolding printed trailer module_key module_key_fields module_id_fields module_id manufacturer_id_fields manufacturer_id record_of with_check check_text hex_digit crc_of add_all add bit_steps bit_step turns grown block hashed short.by_twenty short.padding short.padded short.H₀ short.word short.words short.schedule short.rounds short.compress short.joined short.sha1
all_printed = record { come = (refl, tt) }

all_lines : Come lines
unfolding lines read_trailed write_trailed trailed trailer line_at_over line_of_over response_fields response module_id_fields module_id centre_id_fields centre_id record_of with_check check_text hex_digit crc_of add_all add bit_steps bit_step is_ident is_timestamp looks number_from is_hex check_no identity_answer field_answer whole_answer judged read_as read_over read_identity read_under read_record turns grown block hashed short.by_twenty short.padding short.padded short.H₀ short.word short.words short.schedule short.rounds short.compress short.joined short.sha1
all_lines = record { come = (refl, (refl, (refl, (refl, (refl, (refl, (refl, (refl, (refl, (refl, (refl, (refl, (refl, (refl, (refl, (refl, (refl, tt))))))))))))))))) }

all_posted : Come posted
unfolding posted mail.write_mail mail.block_of mail.rows request_fields request module_id_fields module_id centre_id_fields centre_id record_of with_check check_text hex_digit crc_of add_all add bit_steps bit_step is_ident is_timestamp looks number_from is_hex is_point check_no identity_answer field_answer whole_answer judged read_as read_over read_identity read_under read_record
all_posted = record { come = (refl, tt) }

all_letters : Come letters
unfolding letters mail.write_mail mail.read_mail mail.block_of mail.rows mail.is_begins response_fields response module_id_fields module_id centre_id_fields centre_id record_of with_check check_text hex_digit crc_of add_all add bit_steps bit_step is_ident is_timestamp looks number_from is_hex is_point check_no identity_answer field_answer whole_answer judged read_as read_over read_identity read_under read_record
all_letters = record { come = (refl, (refl, (refl, (refl, (refl, (refl, (refl, (refl, (refl, (refl, (refl, (refl, (refl, (refl, (refl, (refl, (refl, (refl, (refl, (refl, (refl, (refl, (refl, (refl, (refl, (refl, (refl, tt))))))))))))))))))))))))))) }

all_instants : Come instants
unfolding instants expiry_under moment_of seconds since_year_one days_before sum_to seconds_bytes centre_key_fields centre_key request_fields request module_id_fields module_id centre_id_fields centre_id record_of with_check check_text hex_digit crc_of add_all add bit_steps bit_step is_ident is_timestamp looks number_from is_hex is_point check_no identity_answer field_answer whole_answer judged read_as read_over read_identity read_under
all_instants = record { come = (refl, (refl, (refl, (refl, (refl, (refl, (refl, (refl, (refl, (refl, (refl, (refl, (refl, (refl, (refl, (refl, (refl, (refl, (refl, (refl, (refl, (refl, (refl, (refl, (refl, (refl, tt)))))))))))))))))))))))))) }

all_placed : Come placed
unfolding placed cabinet.asks cabinet.reads_under cabinet.width cabinet.tvp_at cabinet.number_at cabinet.number_of cabinet.encode cabinet.is_tvp cabinet.decode centre_key_fields centre_key request_fields request module_id_fields module_id centre_id_fields centre_id record_of with_check check_text hex_digit crc_of add_all add bit_steps bit_step is_ident is_timestamp looks number_from is_hex is_point check_no identity_answer field_answer whole_answer judged read_as read_over read_identity read_under expiry_under moment_of seconds since_year_one days_before sum_to seconds_bytes later
all_placed = record { come = (refl, (refl, (refl, (refl, (refl, (refl, (refl, (refl, (refl, (refl, (refl, (refl, (refl, tt))))))))))))) }

all_admissions : Come admissions
unfolding admissions cabinet.requests response_fields response cabinet.asks cabinet.reads_under cabinet.width cabinet.tvp_at cabinet.number_at cabinet.number_of cabinet.encode cabinet.is_tvp cabinet.decode centre_key_fields centre_key request_fields request module_id_fields module_id centre_id_fields centre_id record_of with_check check_text hex_digit crc_of add_all add bit_steps bit_step is_ident is_timestamp looks number_from is_hex is_point check_no identity_answer field_answer whole_answer judged read_as read_over read_identity read_under expiry_under moment_of seconds since_year_one days_before sum_to seconds_bytes later
all_admissions = record { come = (refl, (refl, (refl, (refl, (refl, (refl, (refl, (refl, (refl, (refl, (refl, (refl, (refl, tt))))))))))))) }

all_unsigned_keys : Come unsigned_keys
unfolding unsigned_keys build build_of build_as unsigned_key_fields manufacturer_id_fields manufacturer_id module_id_fields module_id centre_id_fields centre_id manufacturer_key_fields module_key_fields module_key centre_key_fields centre_key unsigned_module_fields unsigned_module_key record_of with_check check_text hex_digit crc_of add_all add bit_steps bit_step is_ident is_timestamp looks number_from is_hex is_point check_no identity_answer field_answer whole_answer judged read_as read_over read_identity read_under read_record
all_unsigned_keys = record { come = (refl, (refl, (refl, (refl, (refl, (refl, (refl, (refl, (refl, tt))))))))) }

all_olds : Come olds
unfolding olds newer alike cabinet.asks cabinet.reads_under cabinet.width cabinet.tvp_at cabinet.number_at cabinet.number_of cabinet.encode cabinet.is_tvp cabinet.decode cabinet.is_old manufacturer_id_fields manufacturer_id module_id_fields module_id centre_id_fields centre_id manufacturer_key_fields module_key_fields module_key centre_key_fields centre_key unsigned_module_fields unsigned_module_key record_of with_check check_text hex_digit crc_of add_all add bit_steps bit_step is_ident is_timestamp looks number_from is_hex is_point check_no identity_answer field_answer whole_answer judged read_as read_over read_identity read_under expiry_under moment_of seconds since_year_one days_before sum_to seconds_bytes later
all_olds = record { come = (refl, (refl, (refl, (refl, (refl, (refl, (refl, (refl, (refl, tt))))))))) }

pub all_fixed : AllCome fixed
unfolding fixed
all_fixed = (all_rows and all_alphabets and all_limits and all_labels and all_checks and all_numbers and all_building and all_texts and all_others and all_lists and all_keys and all_long_keys and all_days and all_dates and all_hashes and all_agreeing and all_differing and all_fingerprints and all_tags and all_confirming and all_short_hashes and all_printed and all_lines and all_posted and all_letters and all_instants and all_placed and all_admissions and all_unsigned_keys and all_olds).come
