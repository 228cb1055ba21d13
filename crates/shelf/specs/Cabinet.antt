-- The centre's key cabinet: document 02, E8 to E11. 64 places of 1,024 bytes; each is all zeros, or a public key that the rules up to E10 accept, zeros after it, the last
-- TVP accepted for its module and in the last eight bytes the number of its Expiry, and no two records share Subject kind, Manufacturer and MID. All other memory is no
-- cabinet: number 23, before all.
-- Assumes nothing.
use Rattle.std.specs.Prelude.{ℕ, zero, suc, ◌-◌, ◌*◌, Bool, true, false, not, cond, ◌&&◌, List, [], ◌∷◌, ◌++◌, length, take, drop, replicate, eqb}
use Rattle.std.proofs.Math.Option.{Option, none, some}
use Rattle.text.specs.Text.{Bytes, same, is_timestamp}
use Rattle.text.specs.Seconds.{start, seconds_bytes}
use Rattle.text.specs.Later.{later}
use Rattle.numbers.specs.Numbers.{not_cabinet, not_later, no_place, not_there, tvp_not_later}
use Rattle.format.specs.Kinds.{name, REQ, pubkey_kinds}
use Rattle.format.specs.Requests.{id_sm, tvp}
use Rattle.format.specs.Read.{Outcome, accepted, refused, read_identity, read_under, read_of}
use Rattle.format.specs.Files.{up_to}
use Rattle.format.specs.declared.Rules.{Rules}
use Rattle.format.specs.declared.Rules.TheVariants.{UpToE10, Today}
use Rattle.subjects.specs.Subjects.{manufacturer, mid, gnt}
use Rattle.subjects.specs.Keys.{subject}
use Rattle.expiry.specs.Expiry.{expiry_under}
use Rattle.shelf.specs.Places.{Names, named, Held, Place, free, held, is_free, holds, lookup, change, lowest, occupied, any_free, distinct}

-- how many places there are, and the bytes of each
unfoldable pub places : ℕ
places = 64

unfoldable pub width : ℕ
width = 1024

-- where the last TVP begins in a place, and behind it the number of Expiry
unfoldable pub tvp_at : ℕ
tvp_at = 1000

unfoldable pub number_at : ℕ
number_at = 1016

-- ---- what is read: the three names and a date, or the numbers of the refusal and of the field

pub data Reading : Type 0 where
  about : Names → Bytes → Reading
  declined : ℕ → ℕ → Reading

-- of a lent identity, with its GNT; that and the Fingerprint are ignored, but it must be accepted
abbrev pub asked_by : Outcome → Reading
asked_by (accepted who fs) = about (named (name who) (manufacturer fs) (mid fs)) (gnt fs)
asked_by (refused n i) = declined n i

unfoldable pub asks : Bytes → Reading
asks identity = asked_by (read_identity identity)

-- of a public key: of its Subject, an identity
abbrev pub read_by : Outcome → Reading
read_by (accepted k fs) = asks (subject fs)
read_by (refused n i) = declined n i

-- the rules up to E10 for one that stands in a place, because "records already in a cabinet stay in their places" (E11), and today's for one that is put
unfoldable pub reads_under : Rules → Bytes → Reading
reads_under rules s = read_by (read_under rules pubkey_kinds s)

abbrev pub stands : Bytes → Reading
stands = reads_under UpToE10

abbrev pub reads : Bytes → Reading
reads = reads_under Today

-- of a load request: the names of its ID_SM, with its TVP (E10)
abbrev pub dated : Bytes → Reading → Reading
dated t (about k g) = about k t
dated t (declined n i) = declined n i

abbrev pub requested_by : Outcome → Reading
requested_by (accepted k fs) = dated (tvp fs) (asks (id_sm fs))
requested_by (refused n i) = declined n i

unfoldable pub requests : Bytes → Reading
requests s = requested_by (read_of (REQ ∷ []) s)

-- ---- the bytes of a place, and the place of bytes

abbrev pub zeros : ℕ → Bytes
zeros n = replicate n 0

-- "that number, big-endian two's complement in the last eight bytes of an occupied place", and what the record's text says of it (E9)
unfoldable pub number_of : Bytes → Bytes
number_of r = seconds_bytes (expiry_under UpToE10 r).seconds

-- "in the 16 bytes before E9's number, the last TVP accepted for its module" (E10)
unfoldable pub encode : Place → Bytes
encode free = zeros width
encode (held h) = ((h.text ++ zeros (tvp_at - length h.text)) ++ h.tvp) ++ number_of h.text

-- p, where its bytes are b
abbrev pub whole : Bytes → Place → Option Place
whole b p = cond (same b (encode p)) (some p) none

abbrev pub entry : Names → Bytes → Bytes → Bytes → Place
entry k g r t = held (record { names = k; gnt = g; text = r; tvp = t })

abbrev pub tvp_in : Bytes → Bytes
tvp_in b = take (number_at - tvp_at) (drop tvp_at b)

-- "a TVP there that is no TIMESTAMP, or before that start, makes the image 23" (E10)
unfoldable pub is_tvp : Bytes → Bool
is_tvp t = is_timestamp t && not (later start t)

abbrev pub decode_as : Bytes → Bytes → Reading → Option Place
decode_as b r (about k g) = cond (is_tvp (tvp_in b)) (whole b (entry k g r (tvp_in b))) none
decode_as b r (declined n i) = none

-- the record is what stands before the first zero byte
unfoldable pub decode : Bytes → Option Place
decode b = cond (same b (encode free)) (some free) (decode_as b (up_to 0 b) (stands (up_to 0 b)))

-- ---- the bytes of a cabinet, and its places

-- n parts of w bytes
abbrev pub parts : ℕ → ℕ → Bytes → List Bytes
parts w zero s = []
parts w (suc n) s = take w s ∷ parts w n (drop w s)

abbrev pub both : Option Place → Option (List Place) → Option (List Place)
both none r = none
both (some p) none = none
both (some p) (some ps) = some (p ∷ ps)

abbrev pub decode_all : List Bytes → Option (List Place)
decode_all [] = some []
decode_all (b ∷ bs) = both (decode b) (decode_all bs)

abbrev pub provided : Bool → Option (List Place) → Option (List Place)
provided true r = r
provided false r = none

abbrev pub where_distinct : Option (List Place) → Option (List Place)
where_distinct none = none
where_distinct (some ps) = provided (distinct ps) (some ps)

-- none: the bytes are no cabinet
unfoldable pub shelf : Bytes → Option (List Place)
shelf s = provided (eqb (length s) (places * width)) (where_distinct (decode_all (parts width places s)))

abbrev pub image : List Place → Bytes
image [] = []
image (p ∷ ps) = encode p ++ image ps

-- ---- old records: what stands in a place and is refused today (E11)

abbrev pub is_refused : Outcome → Bool
is_refused (accepted k fs) = false
is_refused (refused n i) = true

unfoldable pub is_old : Bytes → Bool
is_old r = is_refused (read_of pubkey_kinds r)

-- "find and requests treat them as missing"
abbrev pub unless_old : Option Held → Option Held
unless_old none = none
unless_old (some h) = cond (is_old h.text) none (some h)

-- ---- what a call does to the places: the places afterwards, or the numbers of the refusal and of the field

pub data Change : Type 0 where
  done : List Place → Change
  refuse : ℕ → ℕ → Change

-- a replacement, of an old record too, stays in its place and keeps the TVP: 24 where its GNT is not later; a first put takes the lowest free place, and its TVP starts at 19930101T000000Z: 25
-- where there is none
unfoldable pub put_at : Names → Bytes → Bytes → List Place → Option Held → Change
put_at k g r ps none = cond (any_free ps) (done (change is_free (entry k g r start) ps)) (refuse no_place 0)
put_at k g r ps (some h) = cond (later g h.gnt) (done (change (holds k) (entry k g r h.tvp) ps)) (refuse not_later 0)

-- the record's own numbers come before
abbrev pub put_read : Bytes → List Place → Reading → Change
put_read r ps (about k g) = put_at k g r ps (lookup k ps)
put_read r ps (declined n i) = refuse n i

unfoldable pub remove_at : Names → List Place → Option Held → Change
remove_at k ps none = refuse not_there 0
remove_at k ps (some h) = done (change (holds k) free ps)

-- the identity's own numbers come before 26
abbrev pub remove_read : List Place → Reading → Change
remove_read ps (about k g) = remove_at k ps (lookup k ps)
remove_read ps (declined n i) = refuse n i

-- "a request is admitted only for a module in the cabinet", 26 where there is none, "and with a later TVP, which is then stored", 27 where it is not later (E10)
unfoldable pub admit_at : Names → Bytes → List Place → Option Held → Change
admit_at k t ps none = refuse not_there 0
admit_at k t ps (some h) = cond (later t h.tvp) (done (change (holds k) (entry h.names h.gnt h.text t) ps)) (refuse tvp_not_later 0)

-- the request's own numbers come before
abbrev pub admit_read : List Place → Reading → Change
admit_read ps (about k t) = admit_at k t ps (unless_old (lookup k ps))
admit_read ps (declined n i) = refuse n i

-- ---- the calls on the lent bytes s: the numbers, and the bytes afterwards

pub record Result : Type 0 where
  pub no : ℕ
  pub field : ℕ
  pub bytes : Bytes

-- a refused call leaves them
abbrev pub leaving : Bytes → ℕ → ℕ → Result
leaving s n i = record { no = n; field = i; bytes = s }

abbrev pub told : Bytes → Change → Result
told s (done qs) = record { no = 0; field = 0; bytes = image qs }
told s (refuse n i) = leaving s n i

abbrev pub on_places : (List Place → Change) → Bytes → Option (List Place) → Result
on_places f s none = leaving s not_cabinet 0
on_places f s (some ps) = told s (f ps)

-- of another length: 23
unfoldable pub make_cabinet : Bytes → Result
make_cabinet s = cond (eqb (length s) (places * width)) (record { no = 0; field = 0; bytes = zeros (places * width) }) (leaving s not_cabinet 0)

unfoldable pub put_key : Bytes → Bytes → Result
put_key s r = on_places (λ ps. put_read r ps (reads r)) s (shelf s)

unfoldable pub remove_key : Bytes → Bytes → Result
remove_key s i = on_places (λ ps. remove_read ps (asks i)) s (shelf s)

unfoldable pub admit : Bytes → Bytes → Result
admit s q = on_places (λ ps. admit_read ps (requests q)) s (shelf s)

-- ---- find: the numbers, and the record with where it starts in the lent bytes; with a refusal nothing, at their front

pub record Finding : Type 0 where
  pub no : ℕ
  pub field : ℕ
  pub start : ℕ
  pub text : Bytes

abbrev pub nothing : ℕ → ℕ → Finding
nothing n i = record { no = n; field = i; start = 0; text = [] }

-- in place j
abbrev pub found_at : ℕ → Option Held → Finding
found_at j none = nothing not_there 0
found_at j (some h) = record { no = 0; field = 0; start = j * width; text = h.text }

abbrev pub find_read : List Place → Reading → Finding
find_read ps (about k g) = found_at (lowest (holds k) ps) (unless_old (lookup k ps))
find_read ps (declined n i) = nothing n i

abbrev pub find_in : Bytes → Option (List Place) → Finding
find_in i none = nothing not_cabinet 0
find_in i (some ps) = find_read ps (asks i)

unfoldable pub find_key : Bytes → Bytes → Finding
find_key s i = find_in i (shelf s)

-- ---- is this a cabinet, and how many places are occupied: the number, and beside it how many, 0 with a refusal

pub record Count : Type 0 where
  pub no : ℕ
  pub count : ℕ

abbrev pub count_in : Option (List Place) → Count
count_in none = record { no = not_cabinet; count = 0 }
count_in (some ps) = record { no = 0; count = occupied ps }

unfoldable pub count_keys : Bytes → Count
count_keys s = count_in (shelf s)

unfoldable pub check_cabinet : Bytes → ℕ
check_cabinet s = (count_keys s).no
