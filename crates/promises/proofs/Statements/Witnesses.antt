-- Nothing is promised of nothing: for each condition that a promise makes, something that meets it. So a library that accepts nothing, or
-- a condition that cannot be met, has no proof here. The records are those of 003 (Worked.antt).
-- Assumes nothing.
use Rattle.std.specs.Prelude.{ℕ, ◌≡◌, ◌≢◌, List, [], ◌∷◌, ◌++◌, length, replicate, T}
use Rattle.std.specs.Borrow.{Bor}
use Rattle.text.specs.Text.{Bytes, ascii, TextType, is_of}
use Rattle.numbers.specs.Numbers.{not_later, not_there, tvp_not_later, module_unsigned}
use Rattle.format.specs.Kinds.{Kind, ECDSA, ECDH, REQ, name, identity_kinds, record_kinds, among}
use Rattle.format.specs.Build.{record_of, Permitted, Built}
use Rattle.format.specs.Read.{accepted, read_identity, read_record}
use Rattle.format.specs.Attributes.{cards_in}
use Rattle.format.specs.Files.{line_feed}
use Rattle.format.specs.Damage.{DamagedOver, DamagedBy, Flipped, Damaged}
use Rattle.places.specs.Places.{lengths}
use Rattle.building.specs.Building.{run, Builds}
use Rattle.files.specs.declared.Line.{Line}
use Rattle.files.specs.declared.Reader.{Reader}
use Rattle.files.specs.Walk.{number_of}
use Rattle.files.specs.Steps.{Steps}
use Rattle.newer.specs.Keys.{Agreed}
use Rattle.newer.specs.Newer.{theFirst, theSecond, newer}
use Rattle.promises.proofs.Statements.Attributes.{Wrapped}
use Rattle.trailed.specs.Trailed.{InRecord, read_trailed}
use Rattle.mail.specs.Mail.{PassedOver}
use Rattle.shelf.specs.Cabinet.{put_key, remove_key, admit, find_key, count_keys}
use Rattle.promises.proofs.Statements.Cabinet.{IsCabinet}
use Rattle.promises.proofs.Statements.Dates.{Follows}
use Rattle.promises.proofs.Statements.Files.{PlainSays}
use Rattle.promises.proofs.Statements.Trailed.{TrailedSays}
use Rattle.promises.proofs.Statements.Demand3.{Called}
use Rattle.promises.proofs.Statements.Rebuilding.{Asked, IdentityField, RecordField}
use Rattle.promises.specs.Worked.{fields_of_worked, unsigned_key_fields, module_id, unsigned_module_key, centre_key_fields, centre_key, module_key, later_key, request_fields, request, key_attributes, key_fields, key, sound_file, damaged_file, flipped_file, trailed_file, damaged_trailed_file, flipped_trailed_file}

pub record Witnesses : Type 0 where
  -- every text type has a text
  pub texts : (t : TextType) → (s : Bytes) × T (is_of t s)
  -- every kind has a permitted list of fields, and a public key may go without Issuer and Signature
  pub permitted : (k : Kind) → Permitted k (fields_of_worked k)
  pub unsigned : Permitted ECDSA unsigned_key_fields × Permitted ECDH centre_key_fields
  -- its record is accepted by the call that reads its kind
  pub identity_accepted : (k : Kind) → T (among k identity_kinds) → read_identity (record_of k (fields_of_worked k)) ≡ accepted k (fields_of_worked k)
  pub record_accepted : (k : Kind) → T (among k record_kinds) → read_record (record_of k (fields_of_worked k)) ≡ accepted k (fields_of_worked k)
  -- and is built in exact room
  pub builds : (k : Kind) → Builds (name k) (run (fields_of_worked k)) (lengths (fields_of_worked k)) (length (record_of k (fields_of_worked k))) k (fields_of_worked k)
  -- every field of what is accepted can be asked for, one after another
  pub identity_asked : (lent : Bor Bytes) (k : Kind) (fs : List Bytes) → read_identity lent.now ≡ accepted k fs → Asked (IdentityField lent) 1 fs
  pub record_asked : (lent : Bor Bytes) (k : Kind) (fs : List Bytes) → read_record lent.now ≡ accepted k fs → Asked (RecordField lent) 1 fs
  -- there is a request for the texts
  pub requested : Built (REQ ∷ []) request REQ request_fields
  -- there is a wrapped key for the attribute calls, with its seven cards
  pub wrapped_key : Wrapped key key_fields (cards_in key_attributes) × (length (cards_in key_attributes) ≡ 7)
  -- two public keys of one Subject: the second is the newer, the first is, and neither
  pub agreed : Agreed centre_key later_key
  pub second_newer : newer centre_key later_key ≡ theSecond
  pub first_newer : newer later_key centre_key ≡ theFirst
  pub first_when_equal : newer centre_key centre_key ≡ theFirst
  -- the file calls can be called, and a reader stepped, as often as one likes
  pub called : (lent : Bor Bytes) (n place : ℕ) → (ls : List Line) × Called PlainSays lent place ls × (length ls ≡ n)
  pub called_trailed : (lent : Bor Bytes) (n place : ℕ) → (ls : List Line) × Called TrailedSays lent place ls × (length ls ≡ n)
  pub stepped : (n : ℕ) (before : Reader) → (said : List Line) × ((after : Reader) × Steps before said after × (length said ≡ n))
  -- demand 3: a file that is damaged as it says, and what the file call answers of its first two lines before and after: the first as it was,
  -- and the second, which differs, refused
  pub damaged : Damaged sound_file damaged_file
  pub caught : (f g : Bor Bytes) → f.now ≡ sound_file → g.now ≡ damaged_file → (l l' m m' : Line) → Called PlainSays f 0 (l ∷ l' ∷ []) → Called PlainSays g 0 (m ∷ m' ∷ [])
      → (number_of l ≡ 0) × (number_of l' ≡ 0) × (l ≡ m) × (number_of m' ≢ 0)
  -- the same of a manufacturer's file, across the end of the record
  pub damaged_trailed : DamagedOver read_trailed trailed_file damaged_trailed_file
  pub caught_trailed : (f g : Bor Bytes) → f.now ≡ trailed_file → g.now ≡ damaged_trailed_file → (l m : Line) → Called TrailedSays f 0 (l ∷ []) → Called TrailedSays g 0 (m ∷ [])
      → (number_of l ≡ 0) × (number_of m ≢ 0)
  -- E12: a file that is damaged as it says, by two flips, and a manufacturer's, by three
  pub flipped : DamagedBy read_record Flipped sound_file flipped_file
  pub flipped_caught : (f g : Bor Bytes) → f.now ≡ sound_file → g.now ≡ flipped_file → (l l' m m' : Line) → Called PlainSays f 0 (l ∷ l' ∷ []) → Called PlainSays g 0 (m ∷ m' ∷ [])
      → (number_of l ≡ 0) × (number_of l' ≡ 0) × (l ≡ m) × (number_of m' ≢ 0)
  pub flipped_trailed : DamagedBy read_trailed (InRecord Flipped) trailed_file flipped_trailed_file
  pub flipped_caught_trailed : (f g : Bor Bytes) → f.now ≡ trailed_file → g.now ≡ flipped_trailed_file → (l m : Line) → Called TrailedSays f 0 (l ∷ []) → Called TrailedSays g 0 (m ∷ [])
      → (number_of l ≡ 0) × (number_of m ≢ 0)
  -- by mail: a text that is passed over before a block
  pub passed_over : PassedOver (ascii "Dear all," ++ line_feed ∷ [])
  -- a next day in the same month, in the next month and in the next year
  pub next_days : Follows (ascii "20000228T235959Z") (ascii "20000229T235959Z") × Follows (ascii "20000229T000000Z") (ascii "20000301T000000Z") × Follows (ascii "19921231T120000Z") (ascii "19930101T120000Z")
  -- an empty cabinet is one, the centre's key of 003 is put into it, and put again it is not later
  pub empty_cabinet : IsCabinet (replicate 65536 0)
  pub filled : (put_key (replicate 65536 0) centre_key).no ≡ 0
  pub equal_gnt : (s : Bytes) → s ≡ (put_key (replicate 65536 0) centre_key).bytes → IsCabinet s × ((put_key s centre_key).no ≡ not_later)
  -- where 003's key of the module is there, 003's request is admitted, and the second time it is not later
  pub admitted_once : (s : Bytes) → s ≡ (put_key (replicate 65536 0) module_key).bytes → ((admit s request).no ≡ 0) × ((admit (admit s request).bytes request).no ≡ tvp_not_later)
  -- a cabinet whose one record is 003's unsigned key of the module, which is old: it is counted, is not found, and has no request admitted; 003's signed key has the same GNT, so it
  -- is not later; and it is removed
  pub old_one : (s : Bytes) × IsCabinet s × (count_keys s ≡ record { no = 0; count = 1 }) × ((find_key s module_id).no ≡ not_there) × ((admit s request).no ≡ not_there)
      × ((put_key s module_key).no ≡ not_later) × ((put_key s unsigned_module_key).no ≡ module_unsigned) × ((remove_key s module_id).no ≡ 0)
