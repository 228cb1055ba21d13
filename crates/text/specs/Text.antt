-- The text types: document 01, "Text types", and document 02, E1 and E2; STS 600-4-2, clauses 5.1.1 to 5.1.4, 7.5 and Appendix B.
-- A text is a list of bytes, and a type is a test of texts.
-- Assumes nothing.
use Rattle.std.specs.Prelude.{ℕ, ◌+◌, ◌-◌, ◌*◌, ◌%◌, Bool, true, false, cond, not, ◌&&◌, ◌||◌, List, [], ◌∷◌, length, take, drop, get_or, leb, ltb, eqb}
use Prim.Native.String.{String}
use Prim.Native.Char.{code}
use Rattle.text.specs.Calendar.{days_of_month}

abbrev pub Bytes : Type 0
Bytes = List ℕ

-- the bytes of a text in quotes
abbrev pub ascii : String → Bytes
ascii String.[] = []
ascii (String.◌∷◌ c t) = code c ∷ ascii t

-- ---- tests

abbrev pub between : ℕ → ℕ → ℕ → Bool
between low high n = leb low n && leb n high

abbrev pub one_of : Bytes → ℕ → Bool
one_of [] c = false
one_of (d ∷ ds) c = eqb c d || one_of ds c

abbrev pub every : (ℕ → Bool) → Bytes → Bool
every p [] = true
every p (c ∷ s) = p c && every p s

-- no byte of s is m
abbrev pub without : ℕ → Bytes → Bool
without m s = every (λ c. not (eqb c m)) s

abbrev pub all_of : List Bool → Bool
all_of [] = true
all_of (b ∷ bs) = b && all_of bs

abbrev pub same : Bytes → Bytes → Bool
same [] [] = true
same [] (d ∷ t) = false
same (c ∷ s) [] = false
same (c ∷ s) (d ∷ t) = eqb c d && same s t

-- the order in which the first part that differs decides: the first list stands behind the second
abbrev pub after : List ℕ → List ℕ → Bool
after [] ys = false
after (x ∷ xs) [] = true
after (x ∷ xs) (y ∷ ys) = ltb y x || (eqb x y && after xs ys)

-- the n bytes from place i on
abbrev pub part : ℕ → ℕ → Bytes → Bytes
part i n s = take n (drop i s)

-- ---- alphabets (clause 5.1.1)

abbrev pub decimal : ℕ → Bool
decimal c = between (code "0") (code "9") c

abbrev pub hexadecimal : ℕ → Bool
hexadecimal c = decimal c || between (code "A") (code "F") c

abbrev pub alphanumeric : ℕ → Bool
alphanumeric c = decimal c || (between (code "A") (code "Z") c || between (code "a") (code "z") c)

-- x20 to x7E, but not the mark of the records that have printable fields: no field has its record's mark in it (clause 5.7.1)
abbrev pub printable : ℕ → Bool
printable c = between 0x20 0x7E c && not (eqb c (code "|"))

-- ---- sizes (clause 5.1.2): n characters of an alphabet

abbrev pub sized : ℕ → (ℕ → Bool) → Bytes → Bool
sized n p s = eqb (length s) n && every p s

-- nD
unfoldable pub is_digits : ℕ → Bytes → Bool
is_digits n s = sized n decimal s

-- nAN
unfoldable pub is_alphanumeric : ℕ → Bytes → Bool
is_alphanumeric n s = sized n alphanumeric s

-- ---- IDENT (clause 5.1.3)

-- document 01's limit
abbrev pub longest_ident : ℕ
longest_ident = 32

-- underscore, hyphen, period and comma too, but not as the first character
abbrev pub ident_character : ℕ → Bool
ident_character c = alphanumeric c || one_of (ascii "_-.,") c

unfoldable pub is_ident : Bytes → Bool
is_ident s = all_of (between 1 longest_ident (length s) ∷ alphanumeric (get_or s 0 0) ∷ every ident_character (drop 1 s) ∷ [])

-- ---- TIMESTAMP (clause 5.1.4; document 02, E2)

-- in a pattern T and Z stand for themselves, and any other letter for a decimal digit
abbrev pub fits : ℕ → ℕ → Bool
fits p c = cond (one_of (ascii "TZ") p) (eqb c p) (decimal c)

unfoldable pub looks : Bytes → Bytes → Bool
looks [] [] = true
looks [] (c ∷ s) = false
looks (p ∷ ps) [] = false
looks (p ∷ ps) (c ∷ s) = fits p c && looks ps s

-- the number that decimal digits stand for, after those that give n
unfoldable pub number_from : ℕ → Bytes → ℕ
number_from n [] = n
number_from n (c ∷ s) = number_from (10 * n + (c - code "0")) s

abbrev pub number : Bytes → ℕ
number s = number_from 0 s

abbrev pub year : Bytes → ℕ
year s = number (part 0 4 s)

abbrev pub month : Bytes → ℕ
month s = number (part 4 2 s)

abbrev pub day : Bytes → ℕ
day s = number (part 6 2 s)

abbrev pub hour : Bytes → ℕ
hour s = number (part 9 2 s)

abbrev pub minute : Bytes → ℕ
minute s = number (part 11 2 s)

abbrev pub second : Bytes → ℕ
second s = number (part 13 2 s)

-- every part in its range, and the day one that exists in its month
abbrev pub timestamp_tests : Bytes → List Bool
timestamp_tests s =
    looks (ascii "YYYYMMDDThhmmssZ") s
    ∷ between 1 9999 (year s)
    ∷ between 1 12 (month s)
    ∷ between 1 (days_of_month (year s) (month s)) (day s)
    ∷ between 0 23 (hour s)
    ∷ between 0 59 (minute s)
    ∷ between 0 59 (second s)
    ∷ []

unfoldable pub is_timestamp : Bytes → Bool
is_timestamp s = all_of (timestamp_tests s)

-- ---- HEX(n) and what is made of it

unfoldable pub is_hex : ℕ → Bytes → Bool
is_hex n s = sized n hexadecimal s

unfoldable pub is_point : Bytes → Bool
is_point s = is_hex 194 s && same (take 2 s) (ascii "04")

abbrev pub is_sig : Bytes → Bool
is_sig s = is_hex 192 s

abbrev pub is_mac : Bytes → Bool
is_mac s = is_hex 48 s

abbrev pub is_print : Bytes → Bool
is_print s = is_hex 16 s

-- ---- what a wrapped key has beside them (clause 7.5, Appendix B)

-- P: at least one character
unfoldable pub is_printable : Bytes → Bool
is_printable s = leb 1 (length s) && every printable s

-- a protected key: a key of at most 160 bits and a tag of 128, two characters for eight bits
unfoldable pub is_protected : Bytes → Bool
is_protected s = all_of (between 32 72 (length s) ∷ eqb (length s % 2) 0 ∷ every hexadecimal s ∷ [])

-- 3D, in the range 0-255
unfoldable pub is_octet : Bytes → Bool
is_octet s = is_digits 3 s && leb (number s) 255

-- ---- the types of ident characters by name, for what is said of all of them

pub data TextType : Type 0 where
  Ident Timestamp Point Sig Mac Print Protected : TextType
  Hex : ℕ → TextType

abbrev pub is_of : TextType → Bytes → Bool
is_of Ident s = is_ident s
is_of Timestamp s = is_timestamp s
is_of Point s = is_point s
is_of Sig s = is_sig s
is_of Mac s = is_mac s
is_of Print s = is_print s
is_of Protected s = is_protected s
is_of (Hex n) s = is_hex n s

-- the lengths that a type admits
abbrev pub shortest : TextType → ℕ
shortest Ident = 1
shortest Timestamp = 16
shortest Point = 194
shortest Sig = 192
shortest Mac = 48
shortest Print = 16
shortest Protected = 32
shortest (Hex n) = n

abbrev pub longest : TextType → ℕ
longest Ident = longest_ident
longest Timestamp = 16
longest Point = 194
longest Sig = 192
longest Mac = 48
longest Print = 16
longest Protected = 72
longest (Hex n) = n
