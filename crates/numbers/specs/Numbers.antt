-- The numbers given back: document 01, "Numbers given back", and document 02. 0 is accepted.
-- Assumes nothing.
use Rattle.std.specs.Prelude.{ℕ}

abbrev pub too_long : ℕ
too_long = 1

abbrev pub unknown_kind : ℕ
unknown_kind = 2

abbrev pub missing_check : ℕ
missing_check = 3

abbrev pub wrong_check : ℕ
wrong_check = 4

abbrev pub wrong_count : ℕ
wrong_count = 5

abbrev pub wrong_text : ℕ
wrong_text = 6

abbrev pub wrong_identity : ℕ
wrong_identity = 7

abbrev pub unpaired : ℕ
unpaired = 8

abbrev pub wrong_kind : ℕ
wrong_kind = 9

abbrev pub short_output : ℕ
short_output = 10

abbrev pub unfinished : ℕ
unfinished = 11

abbrev pub missing_item : ℕ
missing_item = 12

abbrev pub not_alike : ℕ
not_alike = 13

abbrev pub wrong_attributes : ℕ
wrong_attributes = 14

abbrev pub wrong_fingerprint : ℕ
wrong_fingerprint = 15

abbrev pub wrong_z : ℕ
wrong_z = 16

abbrev pub other_request : ℕ
other_request = 17

abbrev pub wrong_tag : ℕ
wrong_tag = 18

abbrev pub missing_trailer : ℕ
missing_trailer = 19

abbrev pub wrong_hash : ℕ
wrong_hash = 20

abbrev pub missing_begins : ℕ
missing_begins = 21

abbrev pub missing_ends : ℕ
missing_ends = 22

abbrev pub not_cabinet : ℕ
not_cabinet = 23

abbrev pub not_later : ℕ
not_later = 24

abbrev pub no_place : ℕ
no_place = 25

abbrev pub not_there : ℕ
not_there = 26

abbrev pub tvp_not_later : ℕ
tvp_not_later = 27

abbrev pub module_unsigned : ℕ
module_unsigned = 28
